-- Operand stacks as lists with the top first, of values or of types (JVMS 2.6.2, 2.11.1).
use Rattle.std.specs.Prelude.{ℕ, ◌+◌, List, [], ◌∷◌, ◌++◌, slice_get, Option, Some, None}
use Rattle.insn.specs.declared.stack.StackPlace.{StackPlace}
use Rattle.insn.specs.declared.stack.StackPlace.TheVariants.{Narrow, Wide}
use Rattle.insn.specs.Operators.{StackForm}

-- what is left beneath as many items as these
abbrev pub beneath : {A B : Type 0} → List A → List B → List B
beneath [] items = items
beneath (x ∷ xs) [] = []
beneath (x ∷ xs) (item ∷ items) = beneath xs items

-- these items below one, if there is one
abbrev pub with_item : {A : Type 0} → Option A → List A → List A
with_item None items = items
with_item (Some item) items = item ∷ items

-- the items at these places of a stack, in this order; the top is at place 0, and a place below the bottom has none
abbrev pub chosen : {A : Type 0} → List A → List ℕ → List A
chosen items [] = []
chosen items (n ∷ ns) = with_item (slice_get items n) (chosen items ns)

-- the stack after a form: what it leaves, on what it did not take
abbrev pub rearranged : {A : Type 0} → StackForm → List A → List A
rearranged form items = chosen items form.leaves ++ beneath form.takes items

-- how many units items take, by their width
abbrev pub place_units : StackPlace → ℕ
place_units Narrow = 1
place_units Wide = 2

abbrev pub units_of_places : List StackPlace → ℕ
units_of_places [] = 0
units_of_places (place ∷ places) = place_units place + units_of_places places

-- how many units an instruction takes: all its forms take equally many, so the first tells
abbrev pub units_taken : List StackForm → ℕ
units_taken [] = 0
units_taken (form ∷ forms) = units_of_places form.takes
