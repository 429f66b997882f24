-- Sketches of names, and those of the names of some members. Words of the code's own steps.
use Rattle.std.specs.Prelude.{◌≡◌, ℕ, ◌+◌, ◌*◌, ◌%◌, Bool, true, false, List, [], ◌∷◌, length, slice_get, get_or, Some}
use Rattle.hierarchy.specs.declared.numbered_members.Numbered.{Numbered}
use Rattle.hierarchy.specs.private.NumberedMembers.{is_numbered}
use Rattle.hierarchy.specs.Class.{MemberFact}

abbrev pub first_byte : List ℕ → ℕ
first_byte [] = 0
first_byte (b ∷ bs) = b

-- a number for a name, by its length and its first byte
abbrev pub sketch : List ℕ → ℕ
sketch name = (length name % 256 + 8 * first_byte name) % 256

-- whether a name has one of these sketches
abbrev pub has_sketch : List Bool → List ℕ → Bool
has_sketch sketches name = get_or sketches (sketch name) false

-- the name of each of these members has one of these sketches, where the member gets a number
abbrev pub HaveSketches : Numbered → List Bool → List MemberFact → Type 0
HaveSketches which sketches ms = (i : ℕ) (m : MemberFact) → slice_get ms i ≡ Some m → is_numbered which m ≡ true
    → has_sketch sketches m.name ≡ true
