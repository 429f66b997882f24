use Rattle.std.proofs.Common.{◌≡◌, ◌∙◌, false, sym, arith}
use Rattle.hierarchy.specs.Answer.{yes}
use Rattle.frames.proofs.Types.{no_is_yes}
use Rattle.type_numbers.specs.Decoding.{type_by}
use Rattle.rules.specs.Bodies.{method_view}
use Rattle.rules.specs.Rules.{is_outside}
use Rattle.rules.proofs.Settling.{load_done, not_less}
use Rattle.numbered_rules.specs.RunningFrame.{held}
use Rattle.numbered_rules.proofs.Reading.{local_typed}
use Rattle.numbered_rules.proofs.pushing.local_pushed.Goals as goal

pub returns-then-is_met_at_once : goal.returns-then-is_met_at_once
returns-then-is_met_at_once g c = λ w z.
    let x = c.args.frames.now in
    let m = method_view c.args.method.now in
    let n = c.local-number.result in
    let t = type_by x.types n in
    let inside : is_outside m c.args.local c.args.width ≡ false = not_less _ _ (omega arith) in
    let told = sym (c.is_met_at_once.ensures x.types c.local-number.ensures.given c.requires.asked c.if-is_met_at_once.true) ∙ z t in
    record {
      given = c.local-number.ensures.given;
      judged = λ at now r d. load_done x.types.classes m w c.args.local c.args.width (held x) t yes now r
          (local_typed x c.args.local c.from-place.result n c.from-place.ensures c.local-number.ensures.number) inside told (λ e. no_is_yes (sym e)) d;
    }
