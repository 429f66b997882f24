-- A method is verified exactly where it is type-safe.
use Rattle.std.proofs.Common.{◌≡◌, ℕ, ◌≤◌, Bool, true, false, nat_lt, List, length, Some, None, Result, Ok, Err, refl, sym, ◌∙◌, ap, subst, if◌then◌else◌, ltb-false, le-ltb}
use Rattle.classfile.specs.Methods.{Method}
use Rattle.hierarchy.specs.Class.{ClassFact}
use Rattle.insn.specs.Meanings.{Act}
use Rattle.insn.specs.Offsets.{at_offset, first_offset, IsStart, StartsRise}
use Rattle.frames.specs.Slots.{in_locals}
use Rattle.frames.specs.Conditions.{reason}
use Rattle.rules.specs.Table.{TypingRules}
use Rattle.verify.specs.InitialFrames.{initial_types, initial_frame}
use Rattle.verify.specs.TypeSafety.{Frames, Declares, Comes, IsTypeSafeBy}
use Rattle.verify.specs.Verdict.{MapRefusal, verified, refused, code_judged, table_judged, with_frames, frames_declared, verdict}
use Rattle.verify.specs.VerdictLaws.{VerifiedIsTypeSafe, TypeSafeIsVerified}
use Rattle.verify.proofs.Declared.{good_frames}
use Rattle.verify.proofs.verdicts.Passing.{comes_in, came, tail_of, enters_of, own_of, HasTable, has_table, IsFineIn}
use Rattle.verify.proofs.verdicts.Following.{comes_none, onward, passes_all}
use Rattle.verify.proofs.Premises.{rising_apart, first_at_zero, frames_there, there_frames, table_sound, sound_table}

module _ (typing_rule : TypingRules) (classes : List ClassFact) (m : Method Act) (rise : StartsRise 0 m.code) where
  first_fits : (frames : Frames) → first_offset m.code ≡ Some 0 → code_judged typing_rule classes m frames ≡ verified → HasTable typing_rule classes m frames m.code (came typing_rule classes m frames m.code (initial_frame m))
  first_fits frames first judged =
      has_table typing_rule classes m frames m.code (came typing_rule classes m frames m.code (initial_frame m)) (rising_apart 0 m.code rise) (λ p k i j. own_of typing_rule classes m frames m.code (initial_frame m) p k i j)
      (tail_of typing_rule classes m frames m.code true (initial_frame m) judged)

  type_safe_with : (frames : Frames) → IsStart m.code 0 → length (in_locals (initial_types m)) ≤ m.max_locals → Declares m frames
      → table_judged classes m frames m.exceptions (code_judged typing_rule classes m frames) ≡ verified → IsTypeSafeBy typing_rule classes m
  type_safe_with frames begins enough d v =
      let first = first_at_zero m.code rise begins in
      let s = table_sound classes m frames m.exceptions (code_judged typing_rule classes m frames) v in
      let r = first_fits frames first s.1 in
      let y = enters_of typing_rule classes m frames m.code true (initial_frame m) 0 s.1 first in
      record {
        begins = begins;
        enough = enough;
        frames = frames;
        declares = d;
        entries = s.0;
        table = r.table;
        first = comes_in typing_rule classes m frames r.table 0 (initial_frame m) (at_offset frames 0) refl y.0 (r.head 0 first ∙ y.1);
        at_declared = λ at f e.
            let start = (good_frames m.constant_pool m.code m.max_locals m.max_stack None (initial_types m) d.entries frames d.declared at f e).start in
            (r.each at start.what start.here).own f e;
        each = λ at act e.
            let x = r.each at act e in
            record { rule = x.fine.rule; protected = x.fine.protected; leads = x.fine.leads; next = x.next; alone = x.alone; handled = x.fine.handled; uncovered = x.fine.uncovered };
      }

  judged_type_safe : IsStart m.code 0 → verdict typing_rule classes m ≡ verified → IsTypeSafeBy typing_rule classes m
  judged_type_safe begins v = by (nat_lt m.max_locals (length (in_locals (initial_types m)))) refl v
    where
      on : length (in_locals (initial_types m)) ≤ m.max_locals → (r : Result Frames MapRefusal) → frames_declared m ≡ r → with_frames typing_rule classes m r ≡ verified → IsTypeSafeBy typing_rule classes m
      on enough (Ok frames) r w = type_safe_with frames begins enough (frames_there m frames r) w
      on enough (Err why) r w = cc

      by : (b : Bool) → nat_lt m.max_locals (length (in_locals (initial_types m))) ≡ b → (if b then refused 0 (reason 64) else with_frames typing_rule classes m (frames_declared m)) ≡ verified → IsTypeSafeBy typing_rule classes m
      by true b w = cc
      by false b w = on (ltb-false m.max_locals (length (in_locals (initial_types m))) b) (frames_declared m) refl w

  module _ (safe : IsTypeSafeBy typing_rule classes m) where
    fine : (at : ℕ) (act : Act) → at_offset m.code at ≡ Some act → IsFineIn typing_rule classes m safe.frames safe.table m.code at act
    fine at act e =
        let x = safe.each at act e in
        record {
          fine = record { rule = x.rule; protected = x.protected; leads = x.leads; handled = x.handled; uncovered = x.uncovered };
          next = x.next;
          alone = x.alone;
          own = safe.at_declared at;
        }

    code_verified : code_judged typing_rule classes m safe.frames ≡ verified
    code_verified =
        onward typing_rule classes m safe.frames safe.table m.code true (initial_frame m)
        (λ p i. let w : Some 0 ≡ Some p = sym (first_at_zero m.code rise safe.begins) ∙ i in let q : 0 ≡ p = cc in
        comes_none typing_rule classes m safe.frames safe.table p (initial_frame m) (at_offset safe.frames p) refl (safe.at_declared p) (subst (λ z. Comes classes safe.frames safe.table (initial_frame m) z) q safe.first))
        (λ k n. passes_all typing_rule classes m safe.frames safe.table m.code k (rising_apart 0 m.code rise) fine n)

    is_verified : verdict typing_rule classes m ≡ verified
    is_verified =
        rw (le-ltb m.max_locals (length (in_locals (initial_types m))) safe.enough)
        (ap (with_frames typing_rule classes m) (there_frames m safe.frames safe.declares) ∙ sound_table classes m safe.frames m.exceptions (code_judged typing_rule classes m safe.frames) safe.entries ∙ code_verified)

pub verified_is_type_safe : VerifiedIsTypeSafe
verified_is_type_safe typing_rule classes m rise begins v = judged_type_safe typing_rule classes m rise begins v

pub type_safe_is_verified : TypeSafeIsVerified
type_safe_is_verified typing_rule classes m rise safe = is_verified typing_rule classes m rise safe
