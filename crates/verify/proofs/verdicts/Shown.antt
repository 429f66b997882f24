-- The frames at the instruction at which code is refused are those by which it is.
use Rattle.std.proofs.Common.{◌≡◌, ℕ, ◌+◌, ◌≤◌, Bool, true, false, ◌&&◌, is_none, nat_eq, List, [], ◌∷◌, Option, Some, None, refl, sym, ◌∙◌, ap, subst, inl, inr, arith, eq-eqb}
use Rattle.std.proofs.lemmas.Bool.Decides.{nat_tests}
use Rattle.classfile.specs.Methods.{Method}
use Rattle.hierarchy.specs.Class.{ClassFact}
use Rattle.insn.specs.Meanings.{Act}
use Rattle.insn.specs.Offsets.{at_offset, next_offset, first_offset, IsStart, StartsRise}
use Rattle.frames.specs.FrameFact.{FrameFact}
use Rattle.frames.specs.Conditions.{Reason, least}
use Rattle.rules.specs.TypingRules.{falls}
use Rattle.rules.specs.Table.{TypingRules}
use Rattle.rules.specs.After.{after}
use Rattle.rules.specs.Rules.{conditions}
use Rattle.verify.specs.InitialFrames.{initial_frame}
use Rattle.verify.specs.TypeSafety.{Frames}
use Rattle.verify.specs.Verdict.{refused, refused_or, at_conditions, entry, entered, arrives, passes}
use Rattle.verify.specs.Coming.{FramesFact, frames_with, before, frame_if, going, met}
use Rattle.verify.specs.JudgedFrames.{entry_by, IsJudgedBy, FramesAreJudged}
use Rattle.verify.proofs.Declared.{none_least}
use Rattle.verify.proofs.Reasons.{none_told, none_apart}
use Rattle.verify.proofs.Meeting.{not_before}

both_refused : (a b : ℕ) (r s : Reason) → refused a r ≡ refused b s → (a ≡ b) × (r ≡ s)
both_refused a b r s e = (cc, cc)

and_true : (a b : Bool) → b ≡ true → a && b ≡ a
and_true true b e = e
and_true false b e = refl

entry_same : (classes : List ClassFact) (comes : Bool) (f : FrameFact) (d : Option FrameFact) → entry_by classes (frame_if comes f) d ≡ entry classes comes f d
entry_same classes true f d = refl
entry_same classes false f None = refl
entry_same classes false f (Some d) = refl

-- where the frame that comes is not refused, there is one before the instruction
before_same : (classes : List ClassFact) (comes : Bool) (f : FrameFact) (d : Option FrameFact) → entry classes comes f d ≡ None → before (frame_if comes f) d ≡ Some (entered f d)
before_same classes true f None e = refl
before_same classes true f (Some d) e = refl
before_same classes false f None e = cc
before_same classes false f (Some d) e = refl

module _ (typing_rule : TypingRules) (classes : List ClassFact) (m : Method Act) (frames : Frames) (number : ℕ) where
  abbrev met_at : List (ℕ × Act) → Option FrameFact → ℕ → FramesFact
  met_at cs coming at = met typing_rule classes m frames number cs coming at

  abbrev Judged : List (ℕ × Act) → ℕ → Reason → FramesFact → Type 0
  Judged cs at why x = IsJudgedBy typing_rule classes m frames cs at why x

  module _ (c : ℕ × Act) (cs : List (ℕ × Act)) where
    abbrev declared : Option FrameFact
    declared = at_offset frames c.0

    -- the frames at the first instruction
    first_met : (coming : Option FrameFact) → met_at (c ∷ cs) coming c.0 ≡ frames_with classes m frames c.0 c.1 (typing_rule m c.1) number coming declared
    first_met coming = rw (eq-eqb c.0 c.0 refl) refl

    first_here : at_offset (c ∷ cs) c.0 ≡ Some c.1
    first_here = rw (eq-eqb c.0 c.0 refl) refl

    first_next : next_offset (c ∷ cs) c.0 ≡ first_offset cs
    first_next = rw (eq-eqb c.0 c.0 refl) refl

    in_entry : (comes : Bool) (f : FrameFact) (why : Reason) → entry classes comes f declared ≡ Some why → Judged (c ∷ cs) c.0 why (met_at (c ∷ cs) (frame_if comes f) c.0)
    in_entry comes f why e = subst (Judged (c ∷ cs) c.0 why) (sym (first_met (frame_if comes f)))
        (record { act = c.1; here = first_here; told = inl (entry_same classes comes f declared ∙ e) })

    in_rule : (coming : Option FrameFact) (g : FrameFact) (why : Reason) → before coming declared ≡ Some g
        → least (at_conditions classes m frames c.0 c.1 (typing_rule m c.1) (first_offset cs) g) ≡ Some why → Judged (c ∷ cs) c.0 why (met_at (c ∷ cs) coming c.0)
    in_rule coming g why b e = subst (Judged (c ∷ cs) c.0 why) (sym (first_met coming))
        (record {
          act = c.1;
          here = first_here;
          told = inr (g, b, ap (λ n. least (at_conditions classes m frames c.0 c.1 (typing_rule m c.1) n g)) first_next ∙ e);
        })

    -- the frames at an instruction after it
    behind : (coming : Option FrameFact) (g : FrameFact) (at : ℕ) (why : Reason) → before coming declared ≡ Some g
        → least (at_conditions classes m frames c.0 c.1 (typing_rule m c.1) (first_offset cs) g) ≡ None → StartsRise (c.0 + 1) cs
        → Judged cs at why (met_at cs (frame_if (falls (typing_rule m c.1)) (after m c.0 (typing_rule m c.1) g)) at) → Judged (c ∷ cs) at why (met_at (c ∷ cs) coming at)
    behind coming g at why b fine rise j =
        let start : IsStart cs at = record { what = j.act; here = j.here } in
        let le : c.0 + 1 ≤ at = not_before (c.0 + 1) cs at rise start in
        let apart : nat_eq c.0 at ≡ false = grind (arith, nat_tests, le) in
        let p = typing_rule m c.1 in
        let others = at_conditions classes m frames c.0 c.1 p (first_offset cs) g in
        let rule : least (conditions classes m c.0 p g) ≡ None = none_told (conditions classes m c.0 p g) (none_apart (conditions classes m c.0 p g) _ (none_least others fine)).0 in
        let goes : falls p && is_none (least (conditions classes m c.0 p g)) ≡ falls p = and_true (falls p) _ (ap is_none rule) in
        let next : going classes m c.0 p (before coming declared) ≡ frame_if (falls p) (after m c.0 p g) =
        ap (going classes m c.0 p) b ∙ ap (λ k. frame_if k (after m c.0 p g)) goes in
        let past : met_at (c ∷ cs) coming at ≡ met_at cs (going classes m c.0 p (before coming declared)) at = rw apart refl in
        let here : at_offset (c ∷ cs) at ≡ at_offset cs at = rw apart refl in
        let after_at : next_offset (c ∷ cs) at ≡ next_offset cs at = rw apart refl in
        subst (Judged (c ∷ cs) at why) (sym (past ∙ ap (λ s. met_at cs s at) next))
        (record {
          act = j.act;
          here = here ∙ j.here;
          told = elim j.told [ inl e ↦ inl e | inr r ↦ inr (r.0, r.1, ap (λ n. least (at_conditions classes m frames at j.act (typing_rule m j.act) n r.0)) after_at ∙ r.2) ];
        })

  judged : (low : ℕ) (cs : List (ℕ × Act)) (comes : Bool) (f : FrameFact) (at : ℕ) (why : Reason) → StartsRise low cs
      → arrives classes frames cs comes f (passes typing_rule classes m frames cs) ≡ refused at why → Judged cs at why (met_at cs (frame_if comes f) at)
  judged low [] comes f at why rise e = cc
  judged low (c ∷ cs) comes f at why rise e =
      by_entry (λ b g x. judged (c.0 + 1) cs b g at why rise.1 x) (entry classes comes f (declared c cs)) refl e
    where
      Later : Type 0
      Later = (b : Bool) (g : FrameFact) → arrives classes frames cs b g (passes typing_rule classes m frames cs) ≡ refused at why → Judged cs at why (met_at cs (frame_if b g) at)

      at_once : (there : ℕ) (r : Reason) → refused there r ≡ refused at why → Judged (c ∷ cs) there r (met_at (c ∷ cs) (frame_if comes f) there)
          → Judged (c ∷ cs) at why (met_at (c ∷ cs) (frame_if comes f) at)
      at_once there r e j =
          let same = both_refused there at r why e in
          subst (λ n. Judged (c ∷ cs) n why (met_at (c ∷ cs) (frame_if comes f) n)) same.0 (subst (λ k. Judged (c ∷ cs) there k (met_at (c ∷ cs) (frame_if comes f) there)) same.1 j)

      by_rule : Later → entry classes comes f (declared c cs) ≡ None → (o : Option Reason)
          → least (at_conditions classes m frames c.0 c.1 (typing_rule m c.1) (first_offset cs) (entered f (declared c cs))) ≡ o
          → refused_or o c.0 (arrives classes frames cs (falls (typing_rule m c.1)) (after m c.0 (typing_rule m c.1) (entered f (declared c cs))) (passes typing_rule classes m frames cs)) ≡ refused at why
          → Judged (c ∷ cs) at why (met_at (c ∷ cs) (frame_if comes f) at)
      by_rule later fine (Some r) is e = at_once c.0 r e (in_rule c cs (frame_if comes f) (entered f (declared c cs)) r (before_same classes comes f (declared c cs) fine) is)
      by_rule later fine None is e =
          behind c cs (frame_if comes f) (entered f (declared c cs)) at why (before_same classes comes f (declared c cs) fine) is rise.1 (later _ _ e)

      by_entry : Later → (o : Option Reason) → entry classes comes f (declared c cs) ≡ o
          → refused_or o c.0 (passes typing_rule classes m frames (c ∷ cs) (entered f (declared c cs))) ≡ refused at why → Judged (c ∷ cs) at why (met_at (c ∷ cs) (frame_if comes f) at)
      by_entry later (Some r) is e = at_once c.0 r e (in_entry c cs comes f r is)
      by_entry later None is e = by_rule later is _ refl e

pub frames_are_judged : FramesAreJudged
frames_are_judged typing_rule classes m frames rise number at why e = judged typing_rule classes m frames number 0 m.code true (initial_frame m) at why rise e
