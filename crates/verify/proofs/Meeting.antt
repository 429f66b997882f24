-- The frames at an instruction, from one instruction to the next.
use Rattle.std.proofs.Common.{◌≡◌, ℕ, ◌+◌, ◌≤◌, Bool, true, false, ◌&&◌, is_none, nat_eq, nat_lt, List, ◌∷◌, length, ◌⊎◌, inl, inr, Option, Some, None, Result, Ok, Err, refl, sym, ◌∙◌, ap, subst, arith}
use Rattle.std.specs.Prelude.{◌≢◌, IfOk}
use Rattle.std.specs.Option.{option_map, option_map_or}
use Rattle.std.proofs.lemmas.Bool.Decides.{nat_tests}
use Rattle.layout.specs.Place.{Place}
use Rattle.classfile.specs.Methods.{Method}
use Rattle.hierarchy.specs.Class.{ClassFact}
use Rattle.insn.specs.Instructions.{Instruction}
use Rattle.insn.specs.Meanings.{Act}
use Rattle.insn.specs.Offsets.{at_offset, acts, IsStart, StartsRise}
use Rattle.insn.proofs.CodeResults.{result_at}
use Rattle.frames.specs.declared.frame.Frame.{Frame}
use Rattle.frames.specs.FrameFact.{FrameFact, frame_of}
use Rattle.frames.specs.Slots.{in_locals}
use Rattle.frames.specs.Conditions.{Conditions, least}
use Rattle.type_numbers.specs.Numbers.{Numbering}
use Rattle.method_frames.specs.MapFrames.{frames_by}
use Rattle.method_frames.specs.NumberedFrames.{NumberedFrames}
use Rattle.numbered_rules.specs.RunningFrame.{held, IsRunning}
use Rattle.numbered_rules.specs.RuleNumbers.{AreRuleNumbers}
use Rattle.numbered_rules.specs.declared.body.Body.{Body}
use Rattle.numbered_rules.proofs.Taking.{types_stay}
use Rattle.rules.specs.Bodies.{method_view}
use Rattle.rules.specs.Guards.{Surroundings}
use Rattle.rules.specs.TypingRules.{TypingRule, falls}
use Rattle.rules.specs.Table.{typing_rule}
use Rattle.rules.specs.After.{after}
use Rattle.rules.specs.Rules.{conditions}
use Rattle.rules.specs.Ways.{goes_on as act_goes_on}
use Rattle.rules.specs.Reasons.{reason_view}
use Rattle.rules.specs.declared.reason.Reason.{Reason as RuleReason}
use Rattle.rules.specs.declared.reason.Reason.TheVariants as reasons
use Rattle.verify.specs.declared.verdict.VerifyFault.{VerifyFault}
use Rattle.verify.specs.InitialFrames.{initial_types, initial_frame}
use Rattle.verify.specs.TypeSafety.{Frames}
use Rattle.verify.specs.Verdict.{MapRefusal, frames_declared}
use Rattle.verify.specs.Coming.{FramesFact, frames_with, before, frame_if, going, met, met_under, without_map, frames_at}
use Rattle.verify.specs.Details.{DetailFact, detail_at}
use Rattle.verify.specs.private.Ran.{IsIf}
use Rattle.verify.specs.private.Ready.{IsReady}
use Rattle.verify.proofs.Declared.{full_length}
use Rattle.verify.proofs.Successors.{ways}
use Rattle.verify.proofs.Premises.{not_at}

-- no instruction stands in front of where they begin
pub not_before : (low : ℕ) (cs : List (ℕ × Act)) (at : ℕ) → StartsRise low cs → IsStart cs at → low ≤ at
not_before low cs at rise s = grind (arith, nat_tests, not_at low cs at rise, s.here)

module _ (classes : List ClassFact) (m : Method Act) (frames : Frames) (reason at : ℕ) where
  abbrev pub met_at : List (ℕ × Act) → Option FrameFact → FramesFact
  met_at cs coming = met typing_rule classes m frames reason cs coming at

  abbrev goes_from : ℕ × Act → Option FrameFact → Option FrameFact → Option FrameFact
  goes_from c coming declared = going classes m c.0 (typing_rule m c.1) (before coming declared)

  module _ (c : ℕ × Act) (cs : List (ℕ × Act)) (coming : Option FrameFact) where
    passed : nat_eq c.0 at ≡ false → met_at (c ∷ cs) coming ≡ met_at cs (goes_from c coming (at_offset frames c.0))
    passed e = rw e refl

    pub goes_past : (total : FramesFact) → total ≡ met_at (c ∷ cs) coming → nat_eq c.0 at ≡ false → (next : Option FrameFact) → next ≡ goes_from c coming (at_offset frames c.0) → total ≡ met_at cs next
    goes_past total same e next n = same ∙ passed e ∙ ap (met_at cs) (sym n)

    pub meets : (total : FramesFact) → total ≡ met_at (c ∷ cs) coming → nat_eq c.0 at ≡ true → total ≡ frames_with classes m frames c.0 c.1 (typing_rule m c.1) reason coming (at_offset frames c.0)
    meets total same e = same ∙ rw e refl

-- where the running frame alone is another, the frames are declared as they were
module _ (old now : NumberedFrames) (r : IsRunning old now) (m : Method Act) (at : ℕ) (p : TypingRule) where
  pub going_from : (coming : Option FrameFact) → going now.types.classes m at p (before coming (at_offset (frames_by now.types now.declared) at)) ≡ going old.types.classes m at p (before coming (at_offset (frames_by old.types old.declared) at))
  going_from coming = ap (λ (y : NumberedFrames). going y.types.classes m at p (before coming (at_offset (frames_by y.types y.declared) at))) r.others

  module _ (a : Act) (reason : ℕ) where
    pub met_from : (coming : Option FrameFact) → frames_with now.types.classes m (frames_by now.types now.declared) at a p reason coming (at_offset (frames_by now.types now.declared) at)
        ≡ frames_with old.types.classes m (frames_by old.types old.declared) at a p reason coming (at_offset (frames_by old.types old.declared) at)
    met_from coming = ap (λ (y : NumberedFrames). frames_with y.types.classes m (frames_by y.types y.declared) at a p reason coming (at_offset (frames_by y.types y.declared) at)) r.others

    abbrev with_old : Option FrameFact → Option FrameFact → FramesFact
    with_old = frames_with old.types.classes m (frames_by old.types old.declared) at a p reason

    -- frames that were found, and what is wrong with them
    pub met_is : (found there coming declared : Option FrameFact) (detail : Option DetailFact) → found ≡ coming → there ≡ declared
        → detail ≡ detail_at now.types.classes m (frames_by now.types now.declared) at a p reason found there (before found there)
        → (let x : FramesFact = record { coming = found; declared = there; detail = detail } in x) ≡ with_old coming declared
    met_is found there coming declared detail c d told =
        ap (λ (o : Option DetailFact). let x : FramesFact = record { coming = found; declared = there; detail = o } in x) told
        ∙ ap (λ (y : NumberedFrames). frames_with y.types.classes m (frames_by y.types y.declared) at a p reason found there) r.others
        ∙ ap (λ o. with_old o there) c ∙ ap (with_old coming) d

-- what goes on with the running frame, which is the one before the instruction
pub goes_before : (old now : NumberedFrames) → IsRunning old now → (m : Method Act) (at : ℕ) (p : TypingRule) (is : Bool) (o : Option FrameFact) → is ≡ true → frame_if is (held now) ≡ o
    → (r : Result Bool VerifyFault) (f : FrameFact) → IfOk r (λ goes. frame_if goes f ≡ going now.types.classes m at p (Some (held now)))
    → IfOk r (λ goes. frame_if goes f ≡ going old.types.classes m at p o)
goes_before old now run m at p is o there e r f =
    let same = ap (λ (s : Numbering). going s.classes m at p (Some (held now))) (types_stay old now run) ∙ ap (going old.types.classes m at p) (sym (ap (λ b. frame_if b (held now)) there) ∙ e) in
    subst (λ (z : Option FrameFact). IfOk r (λ goes. frame_if goes f ≡ z)) same

pub stops_before : (classes : List ClassFact) (m : Method Act) (at : ℕ) (p : TypingRule) (f : FrameFact) (is : Bool) (o : Option FrameFact) → is ≡ false → frame_if is f ≡ o → None ≡ going classes m at p o
stops_before classes m at p f is o none e = ap (going classes m at p) (sym (ap (λ b. frame_if b f) none) ∙ e)

-- the running frame is the one before the instruction, where there is one
pub before_is : (comes : Bool) (f now : FrameFact) (coming : Option FrameFact) (declared : Option Frame) → coming ≡ frame_if comes f → now ≡ option_map_or frame_of declared f
    → IsIf (before coming (option_map frame_of declared)) now
before_is true f now coming None e q = subst (λ o. IsIf o now) (sym e) (sym q)
before_is false f now coming None e q = subst (λ o. IsIf o now) (sym e) tt
before_is comes f now coming (Some d) e q = sym q

-- ---- what goes on from an instruction

and_true : (a b : Bool) → b ≡ true → a && b ≡ a
and_true true b e = e
and_true false b e = refl

and_false : (a b : Bool) → b ≡ false → a && b ≡ false
and_false true b e = e
and_false false b e = refl

module _ (classes : List ClassFact) (m : Method Act) (at : ℕ) (a : Act) (f now : FrameFact) where
  abbrev rule : Conditions
  rule = conditions classes m at (typing_rule m a) f

  pub goes_is : (goes : Bool) → goes ≡ act_goes_on a → least rule ≡ None → now ≡ after m at (typing_rule m a) f → frame_if goes now ≡ going classes m at (typing_rule m a) (Some f)
  goes_is goes k none q =
      ap (λ b. frame_if b now) (k ∙ (ways m a).way.falls_on) ∙ ap (frame_if (falls (typing_rule m a))) q
      ∙ ap (λ b. frame_if b (after m at (typing_rule m a) f)) (sym (and_true (falls (typing_rule m a)) (is_none (least rule)) (ap is_none none)))

  pub stopped_is : (e : RuleReason) (r : Result Bool VerifyFault) → (e ≡ reasons.OutOfMemory) ⊎ (least rule ≡ Some (reason_view e))
      → IfOk r (λ goes. (goes ≡ false) × (e ≢ reasons.OutOfMemory)) → IfOk r (λ goes. frame_if goes now ≡ going classes m at (typing_rule m a) (Some f))
  stopped_is e (Ok goes) (inl z) p = absurd (p.1 z)
  stopped_is e (Ok goes) (inr w) p =
      ap (λ b. frame_if b now) p.0
      ∙ ap (λ b. frame_if b (after m at (typing_rule m a) f)) (sym (and_false (falls (typing_rule m a)) (is_none (least rule)) (ap is_none w)))
  stopped_is e (Err x) o p = tt

-- ---- the frame with which a method begins

pub started_length : (m : Method Act) → nat_lt m.max_locals (length (in_locals (initial_types m))) ≡ false → length (initial_frame m).locals ≡ m.max_locals
started_length m e = full_length m.max_locals (initial_types m) e

pub frames_are : (classes : List ClassFact) (m : Method Act) (frames : Frames) (reason at : ℕ) → nat_lt m.max_locals (length (in_locals (initial_types m))) ≡ false → frames_declared m ≡ Ok frames
    → (f : FrameFact) → f ≡ initial_frame m → met typing_rule classes m frames reason m.code (Some f) at ≡ frames_at typing_rule classes m reason at
frames_are classes m frames reason at wide d f same =
    let there : frames_at typing_rule classes m reason at ≡ met_under typing_rule classes m (Ok frames) reason at = rw wide (ap (λ r. met_under typing_rule classes m r reason at) d) in
    ap (λ g. met typing_rule classes m frames reason m.code (Some g) at) same ∙ sym there

-- where the stack map is refused
pub map_is : (classes : List ClassFact) (m : Method Act) (why : MapRefusal) (reason at : ℕ) → nat_lt m.max_locals (length (in_locals (initial_types m))) ≡ false → frames_declared m ≡ Err why
    → without_map m ≡ frames_at typing_rule classes m reason at
map_is classes m why reason at wide d =
    let there : frames_at typing_rule classes m reason at ≡ met_under typing_rule classes m (Err why) reason at = rw wide (ap (λ r. met_under typing_rule classes m r reason at) d) in
    sym there

-- ---- the bytes that are left

-- they are these instructions, and with them the frames at the offset are what they are
pub record Walks (classes : List ClassFact) (m : Method Act) (frames : Frames) (reason at size : ℕ) (p : Place) (coming : Option FrameFact) (total : FramesFact) : Type 0 where
  pub instructions : List (ℕ × Instruction)
  pub read : result_at p ≡ Ok instructions
  pub same : total ≡ met_at classes m frames reason at (acts instructions) coming
  pub within : p.at + length p.rest ≡ size

-- where the running frame alone is another, the next instruction can be run
pub ready_still : (body : Body) (was is : Surroundings) (old now : NumberedFrames) → is ≡ was → IsRunning old now → IsReady body was old → IsReady body is now
ready_still body was is old now same run r =
    let types = types_stay old now run in
    record {
      constants = same ∙ r.constants ∙ ap (λ (s : Numbering). let all : Surroundings = record { class = body.method.now.class.now; classes = s.classes } in all) (sym types);
      locals = run.size ∙ r.locals;
      numbers = subst (λ s. AreRuleNumbers s (method_view body.method.now) body.numbers) (sym types) r.numbers;
    }
