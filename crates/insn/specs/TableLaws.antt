-- Laws of the tables that rules and machine share, in other words than the tables have: kinds by their rows, arrays by
-- what an element instruction is for, and the instructions for the stack by the units that they move (JVMS 2.6.2,
-- 2.11.1, 2.11.6, 6.5).
use Rattle.std.specs.Prelude.{◌≡◌, ◌≢◌, ℕ, ◌+◌, true, List, [], ◌∷◌, ◌++◌, length, ◌⊎◌, ◌↔◌}
use Rattle.names.specs.declared.base.Primitive.{Primitive}
use Rattle.names.specs.declared.base.Primitive.TheVariants as primitives
use Rattle.insn.specs.declared.kinds.Kind.{Kind}
use Rattle.insn.specs.declared.kinds.Kind.TheVariants.{Int, Long, Float, Double}
use Rattle.insn.specs.declared.stack.StackPlace.{StackPlace}
use Rattle.insn.specs.declared.stack.StackPlace.TheVariants.{Narrow, Wide}
use Rattle.insn.specs.declared.stack.StackOperator.{StackOperator}
use Rattle.insn.specs.declared.stack.StackOperator.TheVariants.{Pop, Pop2, Dup, DupX1, DupX2, Dup2, Dup2X1, Dup2X2, Swap}
use Rattle.insn.specs.Operators.{StackForm, stack_forms, takes_array}
use Rattle.insn.specs.Kinds.{computed_as}
use Rattle.insn.specs.Offsets.{IsAmong}

-- ---- kinds

-- the rows of Table 2.11.1-B that are of numbers: actual type and computational type
abbrev pub computational_rows : List (Primitive × Kind)
computational_rows =
    (primitives.Boolean, Int) ∷ (primitives.Byte, Int) ∷ (primitives.Char, Int) ∷ (primitives.Short, Int) ∷
    (primitives.Int, Int) ∷ (primitives.Float, Float) ∷ (primitives.Long, Long) ∷ (primitives.Double, Double) ∷ []

abbrev pub KindsAreRows : Type 0
KindsAreRows = (type : Primitive) (kind : Kind) → (computed_as type ≡ kind) ↔ IsAmong (type, kind) computational_rows

-- ---- arrays

-- No element instruction is for booleans. Each takes arrays of its own type, and those for bytes take arrays of
-- booleans too.
abbrev pub TakesArray : Primitive → Primitive → Type 0
TakesArray element component =
    ((element ≢ primitives.Boolean) × (element ≡ component))
    ⊎ ((element ≡ primitives.Byte) × (component ≡ primitives.Boolean))

abbrev pub ArraysAreTaken : Type 0
ArraysAreTaken = (element component : Primitive) → (takes_array element component ≡ true) ↔ TakesArray element component

-- ---- the stack

-- an item takes one unit of the stack, a long or double two
abbrev pub units_in : List StackPlace → ℕ
units_in [] = 0
units_in (Narrow ∷ places) = 1 + units_in places
units_in (Wide ∷ places) = 2 + units_in places

-- how many units on top an instruction drops, copies or exchanges
abbrev pub top_units : StackOperator → ℕ
top_units Pop = 1
top_units Pop2 = 2
top_units Dup = 1
top_units DupX1 = 1
top_units DupX2 = 1
top_units Dup2 = 2
top_units Dup2X1 = 2
top_units Dup2X2 = 2
top_units Swap = 1

-- and how many units beneath them it passes over
abbrev pub passed_units : StackOperator → ℕ
passed_units Pop = 0
passed_units Pop2 = 0
passed_units Dup = 0
passed_units DupX1 = 1
passed_units DupX2 = 2
passed_units Dup2 = 0
passed_units Dup2X1 = 1
passed_units Dup2X2 = 2
passed_units Swap = 1

-- The items that then stand where those on top and those passed over stood: nothing in place of those on top, a
-- copy of them beneath those passed over, or both in the other order.
abbrev pub moved_by : {A : Type 0} → StackOperator → List A → List A → List A
moved_by Pop top passed = passed
moved_by Pop2 top passed = passed
moved_by Swap top passed = passed ++ top
moved_by _ top passed = top ++ (passed ++ top)

-- the numbers of places, counted on from a number
abbrev pub counted : ℕ → List StackPlace → List ℕ
counted n [] = []
counted n (place ∷ places) = n ∷ counted (n + 1) places

-- These items are so many units, and the form is for them: none of them is moved in part.
pub record IsFormFor (operator : StackOperator) (form : StackForm) (top passed : List StackPlace) : Type 0 where
  pub top_size : units_in top ≡ top_units operator
  pub passed_size : units_in passed ≡ passed_units operator
  pub takes : form.takes ≡ top ++ passed
  pub leaves : form.leaves ≡ moved_by operator (counted 0 top) (counted (length top) passed)

-- Each form is for items of so many units, and there is one for all such items.
pub record MovesUnits (operator : StackOperator) : Type 0 where
  pub each : (form : StackForm) → IsAmong form (stack_forms operator)
      → (top : List StackPlace) × (passed : List StackPlace) × IsFormFor operator form top passed
  pub all : (top passed : List StackPlace) → units_in top ≡ top_units operator → units_in passed ≡ passed_units operator
      → (form : StackForm) × IsAmong form (stack_forms operator) × IsFormFor operator form top passed

abbrev pub FormsMoveUnits : Type 0
FormsMoveUnits = (operator : StackOperator) → MovesUnits operator
