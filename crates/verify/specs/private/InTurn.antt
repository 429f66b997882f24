-- Things that are judged one after the other, each by its conditions.
use Rattle.std.specs.Prelude.{◌≡◌, ◌⊎◌, ℕ, List, [], ◌∷◌, Option, Some, None, Result, Ok, Err}
use Rattle.frames.specs.Conditions.{Conditions, Reason, class_missing, least}
use Rattle.rules.specs.declared.reason.Reason.{Reason as RuleReason}
use Rattle.rules.specs.Outcomes.{Judges}

-- no reason, or a class that is missing
abbrev pub IsLack : Option Reason → Type 0
IsLack o = (o ≡ None) ⊎ ((name : List ℕ) × (o ≡ Some (class_missing name)))

abbrev pub AreLacks : {A : Type 0} → (A → Conditions) → List A → Type 0
AreLacks one [] = Unit {0}
AreLacks one (x ∷ xs) = IsLack (least (one x)) × AreLacks one xs

-- None is refused; or this is the reason against the first one that is, or that lacks a class, and so it is the reason
-- against all where none is refused.
abbrev pub IsJudgedInTurn : {A : Type 0} → (A → Conditions) → (List A → Conditions) → List A → Result Unit RuleReason
    → Type 0
IsJudgedInTurn one all xs (Ok u) = least (all xs) ≡ None
IsJudgedInTurn one all xs (Err why) = AreLacks one xs → Judges (all xs) (Err why)
