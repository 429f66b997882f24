-- The members before one as they are kept, to tell whether it has the name and the descriptor of one of them. Words of
-- the code's own steps.
use Rattle.std.specs.Prelude.{◌≡◌, ℕ, ◌+◌, ◌-◌, ◌*◌, ◌/◌, ◌%◌, Bool, true, false, List, [], ◌∷◌, ◌++◌, length, slice_index_or}
use Rattle.pool.specs.Entries.{Entry}
use Rattle.pool.specs.Lookups.{Named}
use Rattle.classfile.specs.declared.duplicate_finder.DuplicateFinder.{DuplicateFinder}
use Rattle.classfile.specs.declared.duplicate_finder.DuplicateFinder.TheVariants.{Few, Many}
use Rattle.classfile.specs.MemberForm.{is_among, is_repeated}
use Rattle.classfile.specs.Seen.{AreSeen}
use Rattle.classfile.specs.Values.{Member}

-- A mark of a name and a descriptor, of 256: those that differ mostly have different marks. It is told by their
-- lengths, and by the last byte of the name and the one in its middle.
abbrev pub byte_at : List ℕ → ℕ → ℕ
byte_at bytes place = slice_index_or bytes place 0

abbrev pub mark : Named → ℕ
mark x =
    (17 * (length x.name % 256) + 71 * (length x.descriptor % 256) + 5 * byte_at x.name (length x.name - 1)
    + 29 * byte_at x.name (length x.name / 2)) % 256

-- the mark of each of these members is set
abbrev pub AreMarked : List Entry → List Member → List Bool → Type 0
AreMarked pool members marks = (x : Named) → is_among pool members x ≡ true → slice_index_or marks (mark x) false ≡ true

-- these members were met
abbrev pub WereMet : List Entry → List Member → DuplicateFinder → Type 0
WereMet pool members (Few marks) = AreMarked pool members marks
WereMet pool members (Many keys) = AreSeen pool members keys

-- a member was met, after few others
pub record MeetsMarked (pool : List Entry) (earlier : List Member) (m : Member) (marks : List Bool)
    (repeated : Bool) : Type 0 where
  pub repeats : repeated ≡ is_repeated pool earlier m
  pub met : AreMarked pool (earlier ++ m ∷ []) marks

-- a member was met, after others
pub record MeetsNext (pool : List Entry) (earlier : List Member) (m : Member) (new : DuplicateFinder)
    (repeated : Bool) : Type 0 where
  pub repeats : repeated ≡ is_repeated pool earlier m
  pub met : WereMet pool (earlier ++ m ∷ []) new
