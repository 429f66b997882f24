-- The first difference of a frame from another where it may not stand, and the first place at which the comparison asks
-- for a class that is missing (JVMS 4.10.1.4).
use Rattle.std.specs.Prelude.{◌≡◌, ◌↔◌, ℕ, suc, Bool, true, false, is_some, nat_eq, List, ◌∷◌, length, reverse, Option, Some, None, option_map, if◌then◌else◌}
use Rattle.std.specs.Option.{option_or}
use Rattle.hierarchy.specs.Class.{ClassFact}
use Rattle.hierarchy.specs.Answer.{Outcome, yes, no, missing}
use Rattle.frames.specs.VerificationType.{VerificationType, type_of}
use Rattle.frames.specs.FrameFact.{FrameFact}
use Rattle.frames.specs.Assignable.{type_answer}
use Rattle.frames.specs.FrameAssignable.{item_answer, flag_answer, frame_answer}
use Rattle.frames.specs.declared.difference.Mismatch.{Mismatch}
use Rattle.frames.specs.declared.difference.Difference.{Difference}
use Rattle.frames.specs.declared.difference.Difference.TheVariants.{Flag, Local, Sizes, Item}
use Rattle.frames.specs.declared.difference.Sought.{Sought}
use Rattle.frames.specs.declared.difference.Sought.TheVariants as soughts

-- a place of two lists, and the two types there
pub record MismatchFact : Type 0 where
  pub place : ℕ
  pub from : VerificationType
  pub to : VerificationType

-- the flag, a local, the numbers of items on the stacks, or an item by its place from the bottom
pub data DifferenceFact : Type 0 where
  flag : DifferenceFact
  local : MismatchFact → DifferenceFact
  sizes : (from to : ℕ) → DifferenceFact
  item : MismatchFact → DifferenceFact

abbrev pub is_no : Outcome → Bool
is_no yes = false
is_no no = true
is_no (missing _) = false

abbrev pub is_missing : Outcome → Bool
is_missing yes = false
is_missing no = false
is_missing (missing _) = true

-- the first place of two lists, of which the first types stand at this place, where the answer is one that is sought
abbrev pub first_mismatch : (Outcome → Bool) → (VerificationType → VerificationType → Outcome) → ℕ
    → List VerificationType → List VerificationType → Option MismatchFact
first_mismatch sought answer place (x ∷ xs) (y ∷ ys) =
    if sought (answer x y) then Some (record { place = place; from = x; to = y })
    else first_mismatch sought answer (suc place) xs ys
first_mismatch sought answer place _ _ = None

abbrev pub flag_difference : Bool → Bool → Option DifferenceFact
flag_difference f g = if is_no (flag_answer f g) then Some flag else None

abbrev pub size_difference : ℕ → ℕ → Option DifferenceFact
size_difference from to = if nat_eq from to then None else Some (sizes from to)

-- the first local, from 0 up, whose answer is sought
abbrev pub first_local : (Outcome → Bool) → List ClassFact → List VerificationType → List VerificationType
    → Option DifferenceFact
first_local sought classes xs ys = option_map local (first_mismatch sought (type_answer classes) 0 xs ys)

-- the first item, with the bottoms of the stacks first, whose answer is sought
abbrev pub first_item : (Outcome → Bool) → List ClassFact → List VerificationType → List VerificationType
    → Option DifferenceFact
first_item sought classes xs ys = option_map item (first_mismatch sought (item_answer classes) 0 xs ys)

-- of stacks with their bottoms first: the numbers of items, and then the items
abbrev pub stack_difference : List ClassFact → List VerificationType → List VerificationType → Option DifferenceFact
stack_difference classes xs ys = option_or (size_difference (length xs) (length ys)) (first_item is_no classes xs ys)

-- of one frame from another: the flag first, then the locals, and then the stack
abbrev pub first_difference : List ClassFact → FrameFact → FrameFact → Option DifferenceFact
first_difference classes f g =
    option_or (flag_difference f.flag g.flag)
    (option_or (first_local is_no classes f.locals g.locals)
    (stack_difference classes (reverse f.stack) (reverse g.stack)))

-- the first local, and otherwise the first item, at which a class is missing
abbrev pub missing_place : List ClassFact → FrameFact → FrameFact → Option DifferenceFact
missing_place classes f g =
    option_or (first_local is_missing classes f.locals g.locals)
    (first_item is_missing classes (reverse f.stack) (reverse g.stack))

-- where one frame differs from the other, no class is asked for
abbrev pub first_missing : List ClassFact → FrameFact → FrameFact → Option DifferenceFact
first_missing classes f g = if is_some (first_difference classes f g) then None else missing_place classes f g

-- the answer of the comparison at a local or at an item; no otherwise
abbrev pub answer_at : List ClassFact → DifferenceFact → Outcome
answer_at classes (local m) = type_answer classes m.from m.to
answer_at classes (item m) = item_answer classes m.from m.to
answer_at classes flag = no
answer_at classes (sizes from to) = no

-- ---- what values of the program stand for

abbrev pub mismatch_of : Mismatch → MismatchFact
mismatch_of m = record { place = m.place; from = type_of m.from; to = type_of m.to }

abbrev pub difference_of : Difference → DifferenceFact
difference_of Flag = flag
difference_of (Local m) = local (mismatch_of m)
difference_of (Sizes from to) = sizes from to
difference_of (Item m) = item (mismatch_of m)

abbrev pub is_sought : Sought → Outcome → Bool
is_sought soughts.No = is_no
is_sought soughts.Missing = is_missing

-- ---- what they tell

-- One frame differs from another with as many locals exactly where the answer is no.
abbrev pub DifferencesAreNo : Type 0
DifferencesAreNo =
    (classes : List ClassFact) (f g : FrameFact) → length f.locals ≡ length g.locals
    → (frame_answer classes f g ≡ no) ↔ ((d : DifferenceFact) × (first_difference classes f g ≡ Some d))

-- The comparison of a frame with another of as many locals lacks a class exactly where there is a first place that asks
-- for a missing class, and it lacks the class that this place asks for.
abbrev pub MissingIsFound : Type 0
MissingIsFound =
    (classes : List ClassFact) (f g : FrameFact) (name : List ℕ) → length f.locals ≡ length g.locals
    → (frame_answer classes f g ≡ missing name)
    ↔ ((d : DifferenceFact) × (first_missing classes f g ≡ Some d) × (answer_at classes d ≡ missing name))
