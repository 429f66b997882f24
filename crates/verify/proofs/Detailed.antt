-- How an instruction came out of its rule, and what is told of it then.
use Rattle.std.proofs.Common.{◌≡◌, ◌⊎◌, ℕ, List, ◌∷◌, [], Bool, false, true, Option, Some, None, option_map, Result, Ok, Err, refl, sym, ◌∙◌, ap, ap₂, inl, inr}
use Rattle.std.specs.Option.{option_or}
use Rattle.std.specs.Prelude.{MatchResult, IfOk}
use Rattle.classfile.specs.Methods.{Method}
use Rattle.hierarchy.specs.Class.{ClassFact}
use Rattle.insn.specs.Meanings.{Act}
use Rattle.frames.specs.Conditions as conditions
use Rattle.frames.specs.Conditions.{Conditions, reason, least}
use Rattle.frames.specs.FrameFact.{FrameFact}
use Rattle.frames.specs.declared.difference.Sought.{Sought}
use Rattle.frames.specs.declared.difference.Sought.TheVariants.{Missing}
use Rattle.rules.specs.After.{after}
use Rattle.rules.specs.Outcomes.{Done, Judges}
use Rattle.rules.specs.Protected.{member_conditions}
use Rattle.rules.specs.Rules as rules
use Rattle.rules.specs.TypingRules.{TypingRule, targets}
use Rattle.rules.specs.Reasons.{reason_view}
use Rattle.rules.specs.declared.reason.Reason.{Reason}
use Rattle.rules.specs.declared.reason.Reason.TheVariants.{OutOfMemory}
use Rattle.verify.specs.TypeSafety.{Frames}
use Rattle.verify.specs.DifferencesAt.{at_targets, target_difference}
use Rattle.verify.specs.Details.{DetailFact, target, is_class_asked, target_if, handler_if, unknown_aside, unknown_in, detail_of}
use Rattle.verify.specs.declared.detail.Detail.{Detail}
use Rattle.verify.specs.declared.detail.Ran.{Ran}
use Rattle.verify.specs.declared.detail.Ran.TheVariants.{Passed, Refused, LacksClass}
use Rattle.verify.specs.private.Ran.{IsBy, HasRun}

-- ---- how a judgement came out

-- no reason, or this one, unless memory ran out
abbrev pub Tells : Conditions → Result Unit Reason → Type 0
Tells cs r = MatchResult r (λ _. least cs ≡ None) (λ e. (e ≡ OutOfMemory) ⊎ (least cs ≡ Some (reason_view e)))

has_run_by : (ran : Ran) (cs : Conditions) (wanted now : FrameFact) (judged : Result Unit Reason) → Done cs wanted now judged → ((ds : Conditions) → Tells ds judged → IsBy ran (least ds)) → HasRun ran (least cs) wanted now
has_run_by ran cs wanted now (Ok u) d each = record { by = each cs d.outcome.0; frame = λ q. d.outcome.1 }
has_run_by ran cs wanted now (Err e) d each = record { by = each cs d.outcome; frame = λ q. absurd (by ran q d.outcome each) }
  where
    some_reason : Conditions
    some_reason = (reason 61, true) ∷ []

    by : (ran : Ran) → ran ≡ Passed → (e ≡ OutOfMemory) ⊎ (least cs ≡ Some (reason_view e)) → ((ds : Conditions) → (e ≡ OutOfMemory) ⊎ (least ds ≡ Some (reason_view e)) → IsBy ran (least ds)) → ⊥
    by Passed q (inl z) each = let bad : Some (reason 61) ≡ None = each some_reason (inl z) in cc
    by Passed q (inr z) each = let none : least cs ≡ None = each cs (inr z) in cc
    by Refused q o each = cc
    by LacksClass q o each = cc

-- the rule's judgement and that on a protected member, where memory did not run out
pub has_run : {E : Type 0} (r : Result Ran E) (cs : Conditions) (wanted now : FrameFact) (judged : Result Unit Reason) → Done cs wanted now judged
    → IfOk r (λ ran. (ds : Conditions) → Tells ds judged → IsBy ran (least ds)) → IfOk r (λ ran. HasRun ran (least cs) wanted now)
has_run (Ok ran) cs wanted now judged d each = has_run_by ran cs wanted now judged d each
has_run (Err x) cs wanted now judged d each = tt

pub member_answer : {E : Type 0} (r : Result Bool E) (cs : Conditions) (judged : Result Unit Reason) → Judges cs judged
    → IfOk r (λ asks. (ds : Conditions) → Tells ds judged → asks ≡ is_class_asked (least ds)) → IfOk r (λ asks. asks ≡ is_class_asked (least cs))
member_answer (Ok asks) cs judged d each = each cs d.outcome
member_answer (Err x) cs judged d each = tt

-- ---- the frame after an instruction

module _ (classes : List ClassFact) (m : Method Act) (frames : Frames) (at : ℕ) (act : Act) (p : TypingRule) (f : FrameFact) where
  abbrev why : Option conditions.Reason
  why = least (rules.conditions classes m at p f)

  abbrev at_target : Sought → Option DetailFact
  at_target sought = target_if classes m frames at act p sought (Some f)

  -- the rule does not refuse it
  pub passed_at : (sought : Sought) (now : FrameFact) → HasRun Passed why (after m at p f) now → option_map target (at_targets sought classes frames now (targets at p)) ≡ at_target sought
  passed_at sought now r =
      let here : target_difference sought classes m frames at p (Some f) ≡ at_targets sought classes frames (after m at p f) (targets at p) = rw r.by refl in
      ap (λ g. option_map target (at_targets sought classes frames g (targets at p))) (r.frame refl) ∙ ap (option_map target) (sym here)

  -- no protected member asks for a class
  pub of_handler : is_class_asked (least (member_conditions classes m act f)) ≡ false → handler_if classes m frames at act p Missing (Some f) ≡ unknown_aside classes m frames at act p f
  of_handler q = sym (rw q refl)

  map_or : (a b : Option Detail) → option_map detail_of (option_or a b) ≡ option_or (option_map detail_of a) (option_map detail_of b)
  map_or None b = refl
  map_or (Some x) b = refl

  -- the first of two comparisons that ask for a class, where the rule does not
  pub of_passed : (a b r : Option Detail) → r ≡ option_or a b → why ≡ None → option_map detail_of a ≡ at_target Missing → option_map detail_of b ≡ unknown_aside classes m frames at act p f
      → option_map detail_of r ≡ unknown_in classes m frames at act p f
  of_passed a b r is none t u =
      let asks : is_class_asked why ≡ false = ap is_class_asked none in
      ap (option_map detail_of) is ∙ map_or a b ∙ ap₂ option_or t u ∙ sym (rw asks refl)
