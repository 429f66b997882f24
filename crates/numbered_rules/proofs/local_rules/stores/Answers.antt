use Rattle.std.proofs.Common.{◌≡◌, ◌∙◌, true, false, inr, sym, ap, arith}
use Rattle.hierarchy.specs.Answer.{outcome_of}
use Rattle.type_numbers.specs.Decoding.{type_by}
use Rattle.method_frames.specs.NumberedFrames.{NumberedFrames}
use Rattle.rules.specs.After.{stored_type}
use Rattle.rules.specs.Bodies.{method_view}
use Rattle.rules.specs.Rules.{is_outside}
use Rattle.rules.specs.After.{with_locals}
use Rattle.rules.proofs.Settling.{store_off_out, store_off_done, is_less, not_less, not_no}
use Rattle.numbered_rules.specs.Expected.{accepts_by}
use Rattle.numbered_rules.specs.RunningFrame.{held}
use Rattle.numbered_rules.proofs.Taking.{under_held, under_running, running_then}
use Rattle.numbered_rules.proofs.local_rules.stores.Goals as goal

pub returns-then-from-place : goal.returns-then-from-place
returns-then-from-place g c = record {
  done = λ w z.
      let x = c.args.frames.now in
      let y = c.pop.new.self in
      let n = c.in-Some.number in
      let same : c.types.result.now ≡ x.types = c.types.ensures ∙ ap (λ (f : NumberedFrames). f.types) (sym c.in-Some.ensures.taken) in
      let told = c.meets-answer.ensures ∙ ap (λ s. accepts_by s c.args.ask (type_by s n)) same ∙ z (type_by x.types n) in
      let outside : is_outside (method_view c.args.method.now) c.args.local c.args.width ≡ true = is_less _ _ (omega arith) in
      record {
        outcome = inr (store_off_out x.types.classes (method_view c.args.method.now) w c.args.local c.args.width (held x) (held y) (type_by x.types n) (under_held x y n c.in-Some.ensures.taken)
            (outcome_of c.meets-answer.result) told (not_no c.meets-answer.result c.in_default-answer.not-No) outside);
      };
  rest = under_running c.args.frames.now c.pop.new.self c.in-Some.number c.in-Some.ensures.taken;
}

pub returns-in_ok-store-in_default-answer : goal.returns-in_ok-store-in_default-answer
returns-in_ok-store-in_default-answer g c = record {
  done = λ w z.
      let x = c.args.frames.now in
      let y = c.pop.new.self in
      let n = c.in-Some.number in
      let same : c.types.result.now ≡ x.types = c.types.ensures ∙ ap (λ (f : NumberedFrames). f.types) (sym c.in-Some.ensures.taken) in
      let told = c.meets-answer.ensures ∙ ap (λ s. accepts_by s c.args.ask (type_by s n)) same ∙ z (type_by x.types n) in
      let inside : is_outside (method_view c.args.method.now) c.args.local c.args.width ≡ false = not_less _ _ (omega arith) in
      let kept = ap (λ (f : NumberedFrames). f.types) (sym c.in-Some.ensures.taken) in
      let stored = c.in_ok-store-in_default-answer.ensures.ok ∙ (λ i. with_locals (held y) (stored_type (type_by (kept i) n) (c.from-place.ensures i) (held y).locals)) in
      store_off_done x.types.classes (method_view c.args.method.now) w c.args.local c.args.width (held x) (held y) (type_by x.types n) (under_held x y n c.in-Some.ensures.taken)
      (outcome_of c.meets-answer.result) (held c.store.new.frames) (held c.store.new.frames) c.judge_frame_after.result told (not_no c.meets-answer.result c.in_default-answer.not-No) inside stored c.judge_frame_after.ensures;
  rest = running_then c.args.frames.now c.pop.new.self c.store.new.frames (under_running c.args.frames.now c.pop.new.self c.in-Some.number c.in-Some.ensures.taken) c.in_ok-store-in_default-answer.ensures.rest;
}
