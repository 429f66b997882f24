use Rattle.std.proofs.Common.{◌≡◌, ◌∙◌, false, inr, sym, ap, arith}
use Rattle.hierarchy.specs.Answer.{outcome_of}
use Rattle.type_numbers.specs.Decoding.{type_by}
use Rattle.rules.specs.Bodies.{method_view}
use Rattle.rules.specs.Rules.{is_outside}
use Rattle.rules.proofs.Settling.{load_no, load_done, not_less, not_no}
use Rattle.numbered_rules.specs.Expected.{accepts_by}
use Rattle.numbered_rules.specs.RunningFrame.{held}
use Rattle.numbered_rules.proofs.Reading.{local_typed}
use Rattle.numbered_rules.proofs.local_rules.loads.Goals as goal

pub returns-in-No-clause-done : goal.returns-in-No-clause-done
returns-in-No-clause-done g c = λ w z.
    let x = c.args.frames.now in
    let m = method_view c.args.method.now in
    let n = c.local-number.result in
    let t = type_by x.types n in
    let inside : is_outside m c.args.local c.args.width ≡ false = not_less _ _ (omega arith) in
    let told = ap outcome_of (sym c.in-No.is) ∙ c.meets-answer.ensures ∙ ap (λ s. accepts_by s c.args.ask (type_by s n)) c.types.ensures ∙ z t in
    record { outcome = inr (load_no x.types.classes m w c.args.local c.args.width (held x) t (local_typed x c.args.local c.from-place.result n c.from-place.ensures c.local-number.ensures.number) inside (sym told)) }

pub returns-in_default : goal.returns-in_default
returns-in_default g c = record {
  done = λ w z.
      let x = c.args.frames.now in
      let m = method_view c.args.method.now in
      let n = c.local-number.result in
      let t = type_by x.types n in
      let inside : is_outside m c.args.local c.args.width ≡ false = not_less _ _ (omega arith) in
      let told = c.meets-answer.ensures ∙ ap (λ s. accepts_by s c.args.ask (type_by s n)) c.types.ensures ∙ z t in
      load_done x.types.classes m w c.args.local c.args.width (held x) t (outcome_of c.meets-answer.result) (held c.push_result.new.frames) c.push_result.result
      (local_typed x c.args.local c.from-place.result n c.from-place.ensures c.local-number.ensures.number) inside told (not_no c.meets-answer.result c.in_default.not-No) c.push_result.ensures.done;
  rest = c.push_result.ensures.rest;
}
