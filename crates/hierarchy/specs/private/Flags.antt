-- The members that references ask for, as they are kept: numbers of their texts, the spot from which a reference looks
-- upward, and what each class above declares there. Words of the code's own steps.
use Rattle.std.specs.Prelude.{◌≡◌, ℕ, ◌+◌, ◌-◌, ◌<◌, zero, suc, Bool, false, ◌&&◌, List, [], ◌∷◌, ◌++◌, length, slice_get, Option, Some, None, option_map, if◌then◌else◌}
use Rattle.std.specs.BTreeMap.{BTreeMap, btree_map_len, get}
use Rattle.std.specs.Borrow.{Bor}
use Rattle.std.specs.List.{AllZip}
use Rattle.std.specs.Str.{bytes_eq}
use Rattle.std.specs.Option.{option_and_then, option_map_or, unwrap_or}
use Rattle.std.specs.declared.cmp.Ordering.{Ordering}
use Rattle.hierarchy.specs.declared.spot.Spot.{Spot}
use Rattle.hierarchy.specs.declared.summary.Kind.{Kind}
use Rattle.hierarchy.specs.contracts.spot.SpotOrd.TheImpl as spot_ord
use Rattle.hierarchy.specs.private.Above.{number_of}
use Rattle.hierarchy.specs.Class.{MemberFact, ClassFact}
use Rattle.hierarchy.specs.Nearest.{MemberReference, declared_by, is_elsewhere}

-- ---- numbers of texts

-- different texts have different numbers, below how many there are
pub record AreNumbers (numbers : BTreeMap (Bor (List ℕ)) ℕ) : Type 0 where
  pub below : (text : List ℕ) (n : ℕ) → number_of numbers text ≡ Some n → n < btree_map_len numbers
  pub one : (text other : List ℕ) (n : ℕ) → number_of numbers text ≡ Some n → number_of numbers other ≡ Some n
      → text ≡ other

-- all texts that had a number keep it
abbrev pub KeepNumbers : BTreeMap (Bor (List ℕ)) ℕ → BTreeMap (Bor (List ℕ)) ℕ → Type 0
KeepNumbers old new = (text : List ℕ) (n : ℕ) → number_of old text ≡ Some n → number_of new text ≡ Some n

-- the text has this number, and all that had one keep it
pub record GetsNumber (old new : BTreeMap (Bor (List ℕ)) ℕ) (text : List ℕ) (n : ℕ) : Type 0 where
  pub here : number_of new text ≡ Some n
  pub kept : KeepNumbers old new
  pub good : AreNumbers new

-- ---- spots

-- the spot has the numbers of the texts of the member, and its kind
pub record IsMember (numbers : BTreeMap (Bor (List ℕ)) ℕ) (r : MemberReference) (s : Spot) : Type 0 where
  pub name : number_of numbers r.name ≡ Some s.name
  pub descriptor : number_of numbers r.descriptor ≡ Some s.descriptor
  pub kind : s.kind ≡ r.kind

-- the place of the class of this name, if it is not the class itself
abbrev pub place_above : BTreeMap (Bor (List ℕ)) ℕ → List ℕ → List ℕ → Option ℕ
place_above places class name = if bytes_eq name class then None else number_of places name

-- where a reference of a class begins to look upward: at the class that it asks, if that is one above
pub data IsStart (places numbers : BTreeMap (Bor (List ℕ)) ℕ) (class : List ℕ) (r : MemberReference) : Option Spot
    → Type 0 where
  own : class ≡ r.class → IsStart places numbers class r None
  outside : number_of places r.class ≡ None → IsStart places numbers class r None
  begins : {s : Spot} → (class ≡ r.class → ⊥) → number_of places r.class ≡ Some s.place → IsMember numbers r s
      → IsStart places numbers class r (Some s)

-- one start for each reference, in their order
abbrev pub AreStarts : BTreeMap (Bor (List ℕ)) ℕ → BTreeMap (Bor (List ℕ)) ℕ → List ℕ → List MemberReference
    → List (Option Spot) → Type 0
AreStarts places numbers class references starts = AllZip (IsStart places numbers class) references starts

-- the spot at a place of a member of this kind, by the numbers of its texts, where both have one
abbrev pub spot_with : Option ℕ → Option ℕ → Kind → ℕ → Option Spot
spot_with None descriptor kind place = None
spot_with (Some name) None kind place = None
spot_with (Some name) (Some descriptor) kind place =
    Some (record { name = name; descriptor = descriptor; kind = kind; place = place })

-- the spot of a member that the class at a place declares
abbrev pub spot_of : BTreeMap (Bor (List ℕ)) ℕ → ℕ → MemberFact → Option Spot
spot_of numbers place m = spot_with (number_of numbers m.name) (number_of numbers m.descriptor) m.kind place

-- ---- flags

-- the order in which spots are kept
abbrev pub spot_cmp : Spot → Spot → Ordering
spot_cmp = (spot_ord.ghosts).cmp

-- the flag at a spot
abbrev pub flag_of : BTreeMap Spot Bool → Spot → Option Bool
flag_of flags s = get spot_cmp flags s

-- the spot of the same member at another place
abbrev pub moved : Spot → ℕ → Spot
moved s place = record { name = s.name; descriptor = s.descriptor; kind = s.kind; place = place }

-- the first flag of a member from a place on, so many places at most; or false
abbrev pub first_from : BTreeMap Spot Bool → Spot → ℕ → ℕ → Bool
first_from flags s zero place = false
first_from flags s (suc n) place = unwrap_or (flag_of flags (moved s place)) (first_from flags s n (place + 1))

-- the first flag of a member from its spot on, below an end; or false
abbrev pub first_flag : BTreeMap Spot Bool → ℕ → Option Spot → Bool
first_flag flags end start = option_map_or (λ (s : Spot). first_from flags s (end - s.place) s.place) start false

-- whether the class declares the member, and then, whether protected and of another package than a class
abbrev pub flag_in : List ℕ → MemberReference → ClassFact → Option Bool
flag_in class r c = option_map (λ (m : MemberFact). m.is_protected && is_elsewhere class c.name) (declared_by c r)

-- each spot has the flag of the class at its place
pub record AreFlags (numbers : BTreeMap (Bor (List ℕ)) ℕ) (class : List ℕ) (classes : List ClassFact)
    (flags : BTreeMap Spot Bool) : Type 0 where
  pub flag : (r : MemberReference) (s : Spot) → IsMember numbers r s
      → flag_of flags s ≡ option_and_then (flag_in class r) (slice_get classes s.place)

-- one more class after those whose flags are kept
abbrev pub KeepsClass : BTreeMap (Bor (List ℕ)) ℕ → ClassFact → ℕ → Bool → BTreeMap Spot Bool → BTreeMap Spot Bool
    → Type 0
KeepsClass numbers c place elsewhere old new =
    (class : List ℕ) (classes : List ClassFact) → length classes ≡ place → elsewhere ≡ is_elsewhere class c.name
    → AreFlags numbers class classes old
    → AreFlags numbers class (classes ++ c ∷ []) new
