-- Targets that refuse an instruction, and those for which a class is missing.
use Rattle.std.proofs.Common.{◌≡◌, ◌∙◌, ℕ, ℤ, ◌<◌, Bool, true, false, ◌||◌, List, [], ◌∷◌, length, Option, Some, None, refl, ap, inl, inr, arith}
use Rattle.std.specs.Prelude.{All}
use Rattle.std.proofs.lemmas.List.Elements.{All-nil, All-cons}
use Rattle.hierarchy.specs.Answer.{Outcome, yes, no, missing}
use Rattle.frames.specs.FrameFact.{FrameFact}
use Rattle.frames.specs.FrameAssignable.{frame_answer}
use Rattle.frames.specs.Conditions.{is_no, reason, least}
use Rattle.method_frames.specs.NumberedFrames.{NumberedFrames, frame_by, declared_frame}
use Rattle.method_frames.specs.MapFrames.{frames_by}
use Rattle.numbered_rules.specs.RunningFrame.{held}
use Rattle.verify.specs.Verdict.{declared_at, answer_conditions, one_target}
use Rattle.verify.specs.private.InTurn.{IsLack, AreLacks}
use Rattle.verify.specs.private.Targets.{AreFound, all_targets, any_refuses, refuses, target_at}
use Rattle.verify.specs.private.pass.Finding.{IsFound}
use Rattle.verify.proofs.InTurn as turn
use Rattle.verify.proofs.InTurn.{IsBehind, same_behind, later_behind, answer_behind}

module _ (x : NumberedFrames) where
  -- ---- a target without a frame

  behind_none : (t : ℤ) → IsBehind 67 (least (target_at x t))
  behind_none t = by (declared_at (frames_by x.types x.declared) t)
    where
      of_answer : (a : Outcome) → IsBehind 67 (least (answer_conditions 68 a))
      of_answer yes = turn.none_behind 67
      of_answer no = later_behind 67 (reason 68) (omega arith)
      of_answer (missing name) = later_behind 67 _ (omega arith)

      by : (o : Option FrameFact) → IsBehind 67 (least (one_target x.types.classes o (held x)))
      by None = same_behind 67
      by (Some d) = of_answer (frame_answer x.types.classes (held x) d)

  pub lacks_here : (t : ℤ) (ts : List ℤ) → declared_at (frames_by x.types x.declared) t ≡ None → least (all_targets x (t ∷ ts)) ≡ Some (reason 67)
  lacks_here t ts none =
      turn.refused_here (target_at x) (all_targets x) refl (λ y ys. refl) 67 t ts (ap (λ o. least (one_target x.types.classes o (held x))) none)
      (turn.each_behind (target_at x) (all_targets x) refl (λ y ys. refl) 67 behind_none ts)

  pub lacks_later : (t : ℤ) (ts : List ℤ) → least (all_targets x ts) ≡ Some (reason 67) → least (all_targets x (t ∷ ts)) ≡ Some (reason 67)
  lacks_later t ts e = turn.refused_later (target_at x) (all_targets x) refl (λ y ys. refl) 67 t ts (behind_none t) e

  -- ---- each has one

  abbrev answer : ℕ → Outcome
  answer frame = frame_answer x.types.classes (held x) (frame_by x.types (declared_frame x frame))

  one_is : (t : ℤ) (frame : ℕ) → IsFound x.types x.declared t frame → least (target_at x t) ≡ least (answer_conditions 68 (answer frame))
  one_is t frame is = ap (λ o. least (one_target x.types.classes o (held x))) is.place.declared

  behind_one : (t : ℤ) (frame : ℕ) → IsFound x.types x.declared t frame → IsBehind 68 (least (target_at x t))
  behind_one t frame is = rw (one_is t frame is) (answer_behind 68 (answer frame) (omega arith))

  behind_each : (ts : List ℤ) (frames : List ℕ) → AreFound x ts frames → turn.AreBehind (target_at x) (all_targets x) refl (λ y ys. refl) 68 ts
  behind_each [] frames a = tt
  behind_each (t ∷ ts) [] a = absurd a
  behind_each (t ∷ ts) (frame ∷ frames) a = (behind_one t frame a.0, behind_each ts frames a.1)

  refused_one : (t : ℤ) (frame : ℕ) → IsFound x.types x.declared t frame → refuses x frame ≡ true → least (target_at x t) ≡ Some (reason 68)
  refused_one t frame is r = one_is t frame is ∙ by (answer frame) r
    where
      by : (a : Outcome) → is_no a ≡ true → least (answer_conditions 68 a) ≡ Some (reason 68)
      by no r = refl
      by yes r = absurd (cc)
      by (missing name) r = absurd (cc)

  free_one : (t : ℤ) (frame : ℕ) → IsFound x.types x.declared t frame → refuses x frame ≡ false → IsLack (least (target_at x t))
  free_one t frame is r = rw (one_is t frame is) (by (answer frame) r)
    where
      by : (a : Outcome) → is_no a ≡ false → IsLack (least (answer_conditions 68 a))
      by no r = absurd (cc)
      by yes r = inl refl
      by (missing name) r = inr (name, refl)

  -- one refuses
  pub refused : (ts : List ℤ) (frames : List ℕ) → AreFound x ts frames → any_refuses x frames ≡ true → least (all_targets x ts) ≡ Some (reason 68)
  refused [] [] a r = absurd (cc)
  refused [] (frame ∷ frames) a r = absurd a
  refused (t ∷ ts) [] a r = absurd a
  refused (t ∷ ts) (frame ∷ frames) a r = by (refuses x frame) refl r (refused ts frames a.1)
    where
      by : (b : Bool) → refuses x frame ≡ b → (b || any_refuses x frames) ≡ true → (any_refuses x frames ≡ true → least (all_targets x ts) ≡ Some (reason 68)) → least (all_targets x (t ∷ ts)) ≡ Some (reason 68)
      by true q r later = turn.refused_here (target_at x) (all_targets x) refl (λ y ys. refl) 68 t ts (refused_one t frame a.0 q) (behind_each ts frames a.1)
      by false q r later = turn.refused_later (target_at x) (all_targets x) refl (λ y ys. refl) 68 t ts (behind_one t frame a.0) (later r)

  -- none does
  pub free : (ts : List ℤ) (frames : List ℕ) → AreFound x ts frames → any_refuses x frames ≡ false → AreLacks (target_at x) ts
  free [] [] a r = tt
  free [] (frame ∷ frames) a r = absurd a
  free (t ∷ ts) [] a r = absurd a
  free (t ∷ ts) (frame ∷ frames) a r = by (refuses x frame) refl r (free ts frames a.1)
    where
      by : (b : Bool) → refuses x frame ≡ b → (b || any_refuses x frames) ≡ false → (any_refuses x frames ≡ false → AreLacks (target_at x) ts) → AreLacks (target_at x) (t ∷ ts)
      by true q r later = absurd (cc)
      by false q r later = (free_one t frame a.0 q, later r)

  pub each_within : (ts : List ℤ) (frames : List ℕ) → AreFound x ts frames → All (λ frame. frame < length x.declared) frames
  each_within [] [] a = All-nil (λ frame. frame < length x.declared)
  each_within [] (frame ∷ frames) a = absurd a
  each_within (t ∷ ts) [] a = absurd a
  each_within (t ∷ ts) (frame ∷ frames) a = All-cons (λ (frame : ℕ). frame < length x.declared) frame frames a.0.within (each_within ts frames a.1)
