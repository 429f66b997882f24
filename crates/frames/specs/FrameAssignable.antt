-- When a frame may stand where another is wanted (JVMS 4.10.1.4), as an answer that computes.
use Rattle.std.specs.Prelude.{◌==◌, ℕ, List, [], ◌∷◌, Bool, true, false}
use Rattle.hierarchy.specs.Class.{ClassFact}
use Rattle.hierarchy.specs.Answer.{Outcome, yes, no, missing, yes_if}
use Rattle.frames.specs.VerificationType.{VerificationType, long, double}
use Rattle.frames.specs.FrameFact.{FrameFact}
use Rattle.frames.specs.Assignable.{type_answer}

-- two answers as one: no before missing, and the first that is missing
abbrev pub both : Outcome → Outcome → Outcome
both yes other = other
both no other = no
both (missing name) no = no
both (missing name) yes = missing name
both (missing name) (missing _) = missing name

-- how many units of the stack an item takes
abbrev pub width_of : VerificationType → ℕ
width_of long = 2
width_of double = 2
width_of _ = 1

-- one item of the stack to another: it keeps its width, so no long or double stands for top (this product's own rule)
abbrev pub item_answer : List ClassFact → VerificationType → VerificationType → Outcome
item_answer classes a b = both (yes_if (width_of a == width_of b)) (type_answer classes a b)

-- a local to another, or an item of the stack to another
abbrev pub slot_answer : List ClassFact → (on_stack : Bool) → VerificationType → VerificationType → Outcome
slot_answer classes false = type_answer classes
slot_answer classes true = item_answer classes

-- slots one by one, the first ones first
abbrev pub list_answer : (VerificationType → VerificationType → Outcome) → List VerificationType → List VerificationType
    → Outcome
list_answer answer [] [] = yes
list_answer answer (x ∷ xs) (y ∷ ys) = both (answer x y) (list_answer answer xs ys)
list_answer answer _ _ = no

-- items of two stacks with their tops first, the bottom ones first
abbrev pub stack_answer : (VerificationType → VerificationType → Outcome) → List VerificationType
    → List VerificationType → Outcome
stack_answer answer [] [] = yes
stack_answer answer (x ∷ xs) (y ∷ ys) = both (stack_answer answer xs ys) (answer x y)
stack_answer answer _ _ = no

-- the flag may not be set in the first frame alone
abbrev pub flag_answer : Bool → Bool → Outcome
flag_answer true false = no
flag_answer _ _ = yes

-- one frame to another
abbrev pub frame_answer : List ClassFact → FrameFact → FrameFact → Outcome
frame_answer classes f g =
    both (flag_answer f.flag g.flag)
    (both (list_answer (type_answer classes) f.locals g.locals)
    (stack_answer (item_answer classes) f.stack g.stack))
