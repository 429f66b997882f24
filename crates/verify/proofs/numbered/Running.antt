-- The running frame is another, and nothing else is.
use Rattle.std.proofs.Common.{◌≡◌, ◌∙◌, ℕ, ℤ, Bool, length, List, Option, Result, Ok, Err, refl, sym, ap, subst}
use Rattle.std.specs.Prelude.{IfOk, IsOk, OnOk}
use Rattle.classfile.specs.Methods.{Method, ExceptionEntry}
use Rattle.insn.specs.Meanings.{Act}
use Rattle.insn.specs.Offsets.{at_offset}
use Rattle.frames.specs.FrameFact.{FrameFact}
use Rattle.method_frames.specs.NumberedFrames.{NumberedFrame, NumberedFrames}
use Rattle.method_frames.specs.MapFrames.{frames_by}
use Rattle.rules.specs.declared.reason.Reason.{Reason}
use Rattle.rules.specs.After.{after}
use Rattle.rules.specs.Outcomes.{Done, Judges}
use Rattle.rules.specs.TypingRules.{TypingRule}
use Rattle.verify.specs.Verdict.{at_conditions, target_conditions}
use Rattle.verify.specs.private.JudgingSteps.{Enters}
use Rattle.numbered_rules.specs.RunningFrame.{held, IsRunning}
use Rattle.numbered_rules.specs.RuleNumbers.{AreRuleNumbers}
use Rattle.numbered_rules.specs.declared.rule_numbers.RuleNumbers.{RuleNumbers}
use Rattle.verify.specs.declared.pass.handlers.Handlers.{Handlers}
use Rattle.verify.specs.private.pass.Following.{Follows, IsOnward}

pub onward_on : (a b c : NumberedFrames) → IsOnward a b → IsOnward b c → IsOnward a c
onward_on a b c p q = record {
  others = q.others ∙ ap (λ (x : NumberedFrames). record x { running = c.running; kept = c.kept }) p.others;
  size = q.size ∙ p.size;
}

pub onward_same : (a : NumberedFrames) → IsOnward a a
onward_same a = record { others = refl; size = refl }

pub onward_running : (a b : NumberedFrames) → IsRunning a b → IsOnward a b
onward_running a b r = record {
  others = r.others ∙ ap (λ ns. record a { running = b.running; kept = ns }) (sym (ap (λ (x : NumberedFrames). x.kept) r.others));
  size = r.size;
}

pub onward_kept : (a b : NumberedFrames) → b ≡ record a { kept = b.kept } → IsOnward a b
onward_kept a b e = record {
  others = e ∙ ap (λ (f : NumberedFrame). record a { running = f; kept = b.kept }) (sym (ap (λ (x : NumberedFrames). x.running) e));
  size = ap (λ (x : NumberedFrames). length x.running.locals) e;
}

-- the table is followed as before
pub follows_on : (old now : NumberedFrames) → IsRunning old now → (es : List ExceptionEntry) (at : ℕ) (h : Handlers) → Follows old es at h → Follows now es at h
follows_on old now r es at h k =
    let before : Follows (record old { running = now.running }) es at h = record {
      entries = k.entries;
      moved = k.moved;
      rises = k.rises;
      few = k.few;
      within = k.within;
      reached = k.reached;
      later = k.later;
      settled = λ place one o. let so = k.settled place one o in record { stands = so.stands; comes = so.comes };
      representatives = k.representatives;
      standing = k.standing;
      caught = λ key one there. let c = k.caught key one there in record { even = c.even ∙ sym r.size; stack = c.stack };
    } in
    subst (λ (y : NumberedFrames). Follows y es at h) (sym r.others) before

module _ (old now : NumberedFrames) (r : IsOnward old now) where
  pub entered_from : (comes : Bool) (at : ℕ) (g : FrameFact) (res : Result Unit Reason) → Enters now.types.classes comes (held now) (at_offset (frames_by now.types now.declared) at) g res
      → Enters old.types.classes comes (held now) (at_offset (frames_by old.types old.declared) at) g res
  entered_from comes at g res e = subst (λ (y : NumberedFrames). Enters y.types.classes comes (held now) (at_offset (frames_by y.types y.declared) at) g res) r.others e

  pub targets_from : (f : FrameFact) (ts : List ℤ) (res : Result Unit Reason) → Judges (target_conditions now.types.classes (frames_by now.types now.declared) f ts) res
      → Judges (target_conditions old.types.classes (frames_by old.types old.declared) f ts) res
  targets_from f ts res j = subst (λ (y : NumberedFrames). Judges (target_conditions y.types.classes (frames_by y.types y.declared) f ts) res) r.others j

  pub done_from : (m : Method Act) (at : ℕ) (a : Act) (p : TypingRule) (next : Option ℕ) (f g : FrameFact) (res : Result Unit Reason)
      → Done (at_conditions now.types.classes m (frames_by now.types now.declared) at a p next f) (after m at p f) g res
      → Done (at_conditions old.types.classes m (frames_by old.types old.declared) at a p next f) (after m at p f) g res
  done_from m at a p next f g res d = subst (λ (y : NumberedFrames). Done (at_conditions y.types.classes m (frames_by y.types y.declared) at a p next f) (after m at p f) g res) r.others d

  pub numbers_to : (m : Method Act) (x : RuleNumbers) → AreRuleNumbers old.types m x → AreRuleNumbers now.types m x
  numbers_to m x k = subst (λ (y : NumberedFrames). AreRuleNumbers y.types m x) (sym r.others) k

pub when_ok : {T E : Type 0} (P : Type 0) (r : Result T E) → IsOk r → OnOk r P → P
when_ok P (Ok x) e p = p
when_ok P (Err x) e p = cc

pub if_ok : {T E : Type 0} (P Q : T → Type 0) (r : Result T E) → ((x : T) → P x → Q x) → IfOk r P → IfOk r Q
if_ok P Q (Ok x) f p = f x p
if_ok P Q (Err e) f p = tt

-- a property that follows from each answer that is no refusal
pub on_ok : {T E : Type 0} {P : Type 0} (r : Result T E) → ((x : T) → r ≡ Ok x → P) → OnOk r P
on_ok (Ok x) p = p x refl
on_ok (Err e) p = tt
