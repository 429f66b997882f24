use Rattle.std.proofs.Common.{subst}
use Rattle.rules.specs.TypingRules.{loads, number}
use Rattle.rules.specs.After.{after}
use Rattle.rules.specs.Bodies.{method_view}
use Rattle.rules.specs.Outcomes.{Done}
use Rattle.rules.specs.Rules.{conditions}
use Rattle.numbered_rules.specs.RunningFrame.{held}
use Rattle.numbered_rules.proofs.simple_rules.loads_number.Goals as goal

pub loads-requires-clause-asked : goal.loads-requires-clause-asked
loads-requires-clause-asked g c = c.number.ensures.given c.args.frames.now.types

pub returns-clause-done : goal.returns-clause-done
returns-clause-done g c =
    let s = c.args.frames.now.types in
    let f = held c.args.frames.now in
    let m = method_view c.args.method.now in
    let w = number c.args.kind in
    subst (λ k. Done (conditions s.classes m 0 (loads w c.args.local k) f) (after m 0 (loads w c.args.local k) f) (held c.loads.new.frames) c.loads.result) c.units.ensures (c.loads.ensures.done w (c.number.ensures.stands s))
