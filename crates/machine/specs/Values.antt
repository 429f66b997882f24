-- Values, local variables and operand stacks of the machine (JVMS 2.6). Of a number it has the kind alone.
use Rattle.std.specs.Prelude.{ℕ, zero, suc, ◌+◌, ◌-◌, Bool, true, false, if◌then◌else◌, List, [], ◌∷◌, ◌++◌, length, replicate}
use Rattle.names.specs.Descriptors.{FieldDescriptor, primitive, class, array}
use Rattle.insn.specs.declared.kinds.Kind.{Kind}
use Rattle.insn.specs.declared.stack.StackPlace.{StackPlace}
use Rattle.insn.specs.declared.stack.StackPlace.TheVariants.{Narrow, Wide}
use Rattle.insn.specs.Kinds.{is_wide, kind_units, computed_as}

pub data Value : Type 0 where
  number : (kind : Kind) → Value
  null : Value
  reference : (address : ℕ) → Value

-- a local variable: nothing, the second half of a long or double, or a value
pub data Slot : Type 0 where
  empty second : Slot
  holds : (value : Value) → Slot

-- ---- units (2.6.1, 2.6.2)

abbrev pub is_wide_value : Value → Bool
is_wide_value (number kind) = is_wide kind
is_wide_value null = false
is_wide_value (reference address) = false

abbrev pub units : Bool → ℕ
units wide = if wide then 2 else 1

abbrev pub depth_of : List Value → ℕ
depth_of [] = 0
depth_of (v ∷ vs) = units (is_wide_value v) + depth_of vs

abbrev pub field_units : FieldDescriptor → ℕ
field_units (primitive p) = kind_units (computed_as p)
field_units (class name) = 1
field_units (array component) = 1

-- ---- local variables: a long or double is followed by its second half, and nothing else is

abbrev pub is_wide_slot : Slot → Bool
is_wide_slot empty = false
is_wide_slot second = false
is_wide_slot (holds v) = is_wide_value v

-- after a long or double, or not
abbrev pub ArePairedBehind : Bool → List Slot → Type 0
ArePairedBehind false [] = Unit {0}
ArePairedBehind true [] = ⊥
ArePairedBehind true (second ∷ ss) = ArePairedBehind false ss
ArePairedBehind false (empty ∷ ss) = ArePairedBehind false ss
ArePairedBehind false (holds v ∷ ss) = ArePairedBehind (is_wide_value v) ss
ArePairedBehind _ _ = ⊥

abbrev pub ArePaired : List Slot → Type 0
ArePaired ss = ArePairedBehind false ss

-- values as local variables
abbrev pub in_slots : List Value → List Slot
in_slots [] = []
in_slots (v ∷ vs) = if is_wide_value v then holds v ∷ second ∷ in_slots vs else holds v ∷ in_slots vs

-- so many local variables, the first of these values and the others empty
abbrev pub all_slots : ℕ → List Value → List Slot
all_slots n vs = in_slots vs ++ replicate (n - length (in_slots vs)) empty

-- ---- a store empties each half whose other half it overwrites

abbrev pub empty_first : List Slot → List Slot
empty_first [] = []
empty_first (s ∷ ss) = empty ∷ ss

-- what comes after an overwritten half: a first one loses its second one
abbrev pub behind_lost : Bool → List Slot → List Slot
behind_lost true ss = empty_first ss
behind_lost false ss = ss

abbrev pub second_first : List Slot → List Slot
second_first [] = []
second_first (s ∷ ss) = second ∷ behind_lost (is_wide_slot s) ss

abbrev pub stored : Value → ℕ → List Slot → List Slot
stored v n [] = []
stored v zero (s ∷ ss) = holds v ∷ (if is_wide_value v then second_first ss else behind_lost (is_wide_slot s) ss)
stored v (suc zero) (s ∷ ss) = (if is_wide_slot s then empty else s) ∷ stored v zero ss
stored v (suc (suc n)) (s ∷ ss) = s ∷ stored v (suc n) ss

-- ---- forms of the stack's instructions (2.11.1)

abbrev pub place_of : Value → StackPlace
place_of v = if is_wide_value v then Wide else Narrow
