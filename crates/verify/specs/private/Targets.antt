-- The frames at the targets of an instruction, by their places.
use Rattle.std.specs.Prelude.{ℕ, ℤ, Bool, List, [], ◌∷◌, Option, Some, Result, MatchOption, ◌≡◌}
use Rattle.std.specs.Global.{Vec}
use Rattle.std.specs.List.{list_any}
use Rattle.frames.specs.Conditions.{Conditions, is_no, least, reason}
use Rattle.frames.specs.FrameAssignable.{frame_answer}
use Rattle.method_frames.specs.NumberedFrames.{NumberedFrames, frame_by, declared_frame}
use Rattle.method_frames.specs.MapFrames.{frames_by}
use Rattle.numbered_rules.specs.RunningFrame.{held}
use Rattle.rules.specs.declared.reason.Reason.{Reason as RuleReason}
use Rattle.rules.specs.ReasonNumbers.{no_frame_at_target}
use Rattle.verify.specs.Verdict.{declared_at, one_target, target_conditions}
use Rattle.verify.specs.private.InTurn.{IsJudgedInTurn}
use Rattle.verify.specs.private.pass.Finding.{IsFound}

-- the conditions of one target, and of all
abbrev pub target_at : NumberedFrames → ℤ → Conditions
target_at x target = one_target x.types.classes (declared_at (frames_by x.types x.declared) target) (held x)

abbrev pub all_targets : NumberedFrames → List ℤ → Conditions
all_targets x targets = target_conditions x.types.classes (frames_by x.types x.declared) (held x) targets

-- the targets were judged one after the other, up to the first that does not take the frame
abbrev pub AreJudgedInTurn : NumberedFrames → List ℤ → Result Unit RuleReason → Type 0
AreJudgedInTurn x = IsJudgedInTurn (target_at x) (all_targets x)

-- a declared frame is one where the running frame may not stand, whatever classes there are
abbrev pub refuses : NumberedFrames → ℕ → Bool
refuses x frame = is_no (frame_answer x.types.classes (held x) (frame_by x.types (declared_frame x frame)))

abbrev pub any_refuses : NumberedFrames → List ℕ → Bool
any_refuses x frames = list_any (refuses x) frames

-- the places of the frames that are declared at the targets, each in its place
abbrev pub AreFound : NumberedFrames → List ℤ → List ℕ → Type 0
AreFound x [] [] = Unit {0}
AreFound x (target ∷ others) (frame ∷ frames) = IsFound x.types x.declared target frame × AreFound x others frames
AreFound x _ _ = ⊥

-- there is a target at which no frame is declared, or these are the places of all
abbrev pub FindsAll : NumberedFrames → List ℤ → Option (Vec ℕ) → Type 0
FindsAll x targets o =
    MatchOption o (least (all_targets x targets) ≡ Some (reason no_frame_at_target))
    (λ found. AreFound x targets found.items)
