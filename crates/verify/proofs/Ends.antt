-- The least reason against an instruction, by what is judged of it one after the other.
use Rattle.std.proofs.Common.{◌≡◌, ◌⊎◌, ℕ, ◌<◌, ◌≤◌, Bool, true, false, ◌&&◌, is_none, nat_lt, ℤ, List, [], ◌∷◌, ◌++◌, Option, Some, None, Result, Ok, Err, refl, sym, ◌∙◌, ap, subst, arith, inl, inr, if◌then◌else◌}
use Rattle.std.proofs.lemmas.Bool.Decides.{nat_tests}
use Rattle.std.specs.Prelude.{IsOk, OnOk, MatchResult}
use Rattle.std.proofs.lemmas.List.{append-nil, append_assoc}
use Rattle.classfile.specs.Methods.{Method}
use Rattle.hierarchy.specs.Class.{ClassFact}
use Rattle.hierarchy.specs.Answer.{Outcome, yes, no, missing}
use Rattle.insn.specs.Meanings.{Act}
use Rattle.insn.specs.Offsets.{led_to}
use Rattle.frames.specs.FrameFact.{FrameFact}
use Rattle.frames.specs.FrameAssignable.{frame_answer}
use Rattle.frames.specs.Conditions.{Reason, reason, number_of, Conditions, lesser, least}
use Rattle.rules.specs.TypingRules.{TypingRule, falls, offsets_of, targets}
use Rattle.rules.specs.After.{after}
use Rattle.rules.specs.Rules.{conditions, constructs_own}
use Rattle.rules.specs.Outcomes.{Done, Judges}
use Rattle.rules.specs.declared.reason.Reason.{Reason as RuleReason}
use Rattle.rules.specs.declared.reason.Reason.TheVariants.{OutOfMemory}
use Rattle.rules.specs.Reasons.{reason_view}
use Rattle.rules.specs.Table.{typing_rule}
use Rattle.rules.specs.Ways.{branch_offsets}
use Rattle.verify.specs.TypeSafety.{Frames}
use Rattle.verify.specs.Verdict.{answer_conditions, declared_at, one_target, target_conditions, is_covered, before_conditions, at_conditions}
use Rattle.verify.specs.private.JudgingSteps.{aside_conditions, run_conditions}
use Rattle.verify.proofs.Successors.{IsCalm, IsEarly, ways}
use Rattle.rules.proofs.Lesser.{both_least, judges_alone}

-- ---- reasons that are not a rule's come late

abbrev AreLate : Conditions → Type 0
AreLate [] = Unit {0}
AreLate (c ∷ cs) = (67 ≤ number_of c.0) × AreLate cs

late_append : (cs ds : Conditions) → AreLate cs → AreLate ds → AreLate (cs ++ ds)
late_append [] ds p q = q
late_append (c ∷ cs) ds p q = (p.0, late_append cs ds p.1 q)

abbrev IsLate : Option Reason → Type 0
IsLate None = Unit {0}
IsLate (Some r) = 67 ≤ number_of r

lesser_late : (r : Reason) (o : Option Reason) → 67 ≤ number_of r → IsLate o → 67 ≤ number_of (lesser r o)
lesser_late r None p q = p
lesser_late r (Some s) p q = by (nat_lt (number_of s) (number_of r))
  where
    by : (b : Bool) → 67 ≤ number_of (if b then s else r)
    by true = q
    by false = p

late_least : (cs : Conditions) → AreLate cs → IsLate (least cs)
late_least [] p = tt
late_least (c ∷ cs) p = by c.1 (late_least cs p.1)
  where
    by : (b : Bool) → IsLate (least cs) → IsLate (if b then Some (lesser c.0 (least cs)) else least cs)
    by true l = lesser_late c.0 (least cs) p.0 l
    by false l = l

first_early : (n : ℕ) (o : Option Reason) → n < 67 → IsLate o → lesser (reason n) o ≡ reason n
first_early n None lt p = refl
first_early n (Some s) lt p = let e : nat_lt (number_of s) n ≡ false = grind (arith, nat_tests, p, lt) in rw e refl

-- an early reason goes before all that come late
early_first : (cs ds : Conditions) (n : ℕ) → least cs ≡ Some (reason n) → n < 67 → AreLate ds → least (cs ++ ds) ≡ Some (reason n)
early_first cs ds n e lt p =
    both_least cs ds (Some (reason n)) (least ds) e refl ∙ ap (λ (z : Reason). Some z) (first_early n (least ds) lt (late_least ds p))

answer_late : (n : ℕ) (a : Outcome) → 67 ≤ n → AreLate (answer_conditions n a)
answer_late n yes le = (le, (omega arith, tt))
answer_late n no le = (le, (omega arith, tt))
answer_late n (missing name) le = (le, (omega arith, tt))

target_late : (classes : List ClassFact) (o : Option FrameFact) (f : FrameFact) → AreLate (one_target classes o f)
target_late classes None f = (omega arith, tt)
target_late classes (Some g) f = answer_late 68 (frame_answer classes f g) (omega arith)

targets_late : (classes : List ClassFact) (frames : Frames) (f : FrameFact) (ts : List ℤ) → AreLate (target_conditions classes frames f ts)
targets_late classes frames f [] = tt
targets_late classes frames f (t ∷ ts) =
    late_append (one_target classes (declared_at frames t) f) (target_conditions classes frames f ts) (target_late classes (declared_at frames t) f)
    (targets_late classes frames f ts)

module _ (classes : List ClassFact) (m : Method Act) (frames : Frames) (at : ℕ) (f : FrameFact) (a : Act) where
  abbrev p : TypingRule
  p = typing_rule m a

  abbrev rule : Conditions
  rule = conditions classes m at p f

  abbrev ways_of : List ℤ → Conditions
  ways_of ts = target_conditions classes frames (after m at p f) ts

  abbrev all : Conditions
  all = run_conditions classes m frames at a f

  -- ---- where the instruction branches nowhere

  alone : offsets_of p ≡ [] → least rule ≡ least all
  alone none = ap least (sym (append-nil rule)) ∙ ap (λ (z : List ℤ). least (rule ++ ways_of (led_to at z))) (sym none)

  -- its rule alone decides
  pub ran_nowhere : branch_offsets a ≡ [] → (g : FrameFact) (r : Result Unit RuleReason) → Done rule (after m at p f) g r → Done all (after m at p f) g r
  ran_nowhere none g r d = by r d
    where
      same : least rule ≡ least all
      same = alone (sym (ways m a).way.branches ∙ none)

      by : (r : Result Unit RuleReason) → Done rule (after m at p f) g r → Done all (after m at p f) g r
      by (Ok u) d = record { outcome = (sym same ∙ d.outcome.0, d.outcome.1) }
      by (Err e) d = record { outcome = told d.outcome }
        where
          told : (e ≡ OutOfMemory) ⊎ (least rule ≡ Some (reason_view e)) → (e ≡ OutOfMemory) ⊎ (least all ≡ Some (reason_view e))
          told (inl z) = inl z
          told (inr z) = inr (sym same ∙ z)

  -- ---- where its rule refuses it

  pub ran_refused : (g : FrameFact) (e : RuleReason) → Done rule (after m at p f) g (Err e) → Done all (after m at p f) g (Err e)
  ran_refused g e d = record { outcome = told d.outcome }
    where
      early : (r : Reason) → least rule ≡ Some r → IsEarly (least rule) → least all ≡ Some r
      early r q (inl none) = let clash : Some r ≡ None = sym q ∙ none in absurd (cc)
      early r q (inr x) = early_first rule (ways_of (targets at p)) x.0 x.1 x.2 (targets_late classes frames (after m at p f) (targets at p)) ∙ sym x.1 ∙ q

      by : (r : Reason) → least rule ≡ Some r → (offsets_of p ≡ []) ⊎ IsCalm p → least all ≡ Some r
      by r q (inl none) = sym (alone none) ∙ q
      by r q (inr calm) = early r q (calm classes m at f)

      told : (e ≡ OutOfMemory) ⊎ (least rule ≡ Some (reason_view e)) → (e ≡ OutOfMemory) ⊎ (least all ≡ Some (reason_view e))
      told (inl z) = inl z
      told (inr z) = inr (by (reason_view e) z (ways m a).calm)

  -- ---- where its rule does not

  pub ran_on : (g : FrameFact) (r : Result Unit RuleReason) → least rule ≡ None → g ≡ after m at p f
      → Judges (target_conditions classes frames g (led_to at (branch_offsets a))) r → Done all (after m at p f) g r
  ran_on g r e q j = by r j
    where
      same : least (target_conditions classes frames g (led_to at (branch_offsets a))) ≡ least all
      same =
          ap (λ (z : FrameFact). least (target_conditions classes frames z (led_to at (branch_offsets a)))) q
          ∙ ap (λ (z : List ℤ). least (ways_of (led_to at z))) (ways m a).way.branches
          ∙ sym (both_least rule (ways_of (targets at p)) None (least (ways_of (targets at p))) e refl)

      by : (r : Result Unit RuleReason) → Judges (target_conditions classes frames g (led_to at (branch_offsets a))) r → Done all (after m at p f) g r
      by (Ok u) j = record { outcome = (sym same ∙ j.outcome, q) }
      by (Err e) j = record { outcome = told j.outcome }
        where
          told : (e ≡ OutOfMemory) ⊎ (least (target_conditions classes frames g (led_to at (branch_offsets a))) ≡ Some (reason_view e))
              → (e ≡ OutOfMemory) ⊎ (least all ≡ Some (reason_view e))
          told (inl z) = inl z
          told (inr z) = inr (sym same ∙ z)

  -- ---- with all that is asked of it besides

  module _ (last : Bool) (next : Option ℕ) (is : is_none next ≡ last) where
    abbrev aside : Conditions
    aside = aside_conditions classes m frames at a last f

    abbrev whole : Conditions
    whole = at_conditions classes m frames at a p next f

    same_whole : all ++ aside ≡ whole
    same_whole =
        append_assoc rule (ways_of (targets at p)) aside
        ∙ ap (λ (b : Bool). rule ++ (ways_of (targets at p) ++ (before_conditions classes m frames at a f
        ++ ((reason 71, b) ∷ (reason 75, constructs_own p f && is_covered m.exceptions at) ∷ []))))
        (ap (λ (b : Bool). b && last) (ways m a).way.falls_on ∙ ap (λ (b : Bool). falls p && b) (sym is))

    -- what is judged of both in turn, together
    pub done_together : (g : FrameFact) (one other r : Result Unit RuleReason) → Done all (after m at p f) g one → Judges aside other
        → ((cs ds : Conditions) → Judges cs one → Judges ds other → Judges (cs ++ ds) r) → OnOk r (IsOk one × IsOk other) → Done whole (after m at p f) g r
    done_together g one other r d j both ok = subst (λ (cs : Conditions). Done cs (after m at p f) g r) same_whole (by r (both all aside (judged one d) j).outcome ok)
      where
        judged : (one : Result Unit RuleReason) → Done all (after m at p f) g one → Judges all one
        judged (Ok u) d = record { outcome = d.outcome.0 }
        judged (Err e) d = record { outcome = d.outcome }

        came : (one : Result Unit RuleReason) → Done all (after m at p f) g one → IsOk one → g ≡ after m at p f
        came (Ok u) d ok = d.outcome.1
        came (Err e) d ok = absurd (cc)

        by : (r : Result Unit RuleReason) → MatchResult r (λ _. least (all ++ aside) ≡ None) (λ e. (e ≡ OutOfMemory) ⊎ (least (all ++ aside) ≡ Some (reason_view e)))
            → OnOk r (IsOk one × IsOk other) → Done (all ++ aside) (after m at p f) g r
        by (Ok u) e ok = record { outcome = (e, came one d ok.0) }
        by (Err x) e ok = record { outcome = e }

    -- where nothing is against it besides
    pub done_alone : least aside ≡ None → (g : FrameFact) (r : Result Unit RuleReason) → Done all (after m at p f) g r → Done whole (after m at p f) g r
    done_alone none g r d = subst (λ (cs : Conditions). Done cs (after m at p f) g r) same_whole (by r d)
      where
        by : (r : Result Unit RuleReason) → Done all (after m at p f) g r → Done (all ++ aside) (after m at p f) g r
        by (Ok u) d = record { outcome = (both_least all aside None None d.outcome.0 none, d.outcome.1) }
        by (Err e) d = record { outcome = (judges_alone all aside e tt (record { outcome = d.outcome }) (record { outcome = none })).outcome }
