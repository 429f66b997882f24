use Rattle.std.proofs.Common.{subst}
use Rattle.frames.specs.Slots.{number_type}
use Rattle.type_numbers.proofs.Decoded.{number_read}
use Rattle.rules.specs.TypingRules.{gives}
use Rattle.rules.specs.After.{after}
use Rattle.rules.specs.Bodies.{method_view}
use Rattle.rules.specs.Outcomes.{Done}
use Rattle.rules.specs.Rules.{conditions}
use Rattle.numbered_rules.specs.RunningFrame.{held}
use Rattle.numbered_rules.proofs.simple_rules.gives_number.Goals as goal

pub gives-requires : goal.gives-requires
gives-requires g c = (number_type c.args.kind, c.number_of.ensures.given c.args.frames.now.types)

pub returns-clause-done : goal.returns-clause-done
returns-clause-done g c =
    let s = c.args.frames.now.types in
    let f = held c.args.frames.now in
    let m = method_view c.args.method.now in
    subst (λ t. Done (conditions s.classes m 0 (gives t) f) (after m 0 (gives t) f) (held c.gives.new.frames) c.gives.result) (number_read s c.number_of.result (number_type c.args.kind) (c.number_of.ensures.given s)) c.gives.ensures.done
