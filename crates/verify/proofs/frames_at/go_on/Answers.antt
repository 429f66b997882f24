use Rattle.std.proofs.Common.{subst}
use Rattle.insn.specs.Views.{act_view}
use Rattle.numbered_rules.specs.RunningFrame.{held}
use Rattle.rules.specs.After.{after}
use Rattle.rules.specs.Bodies.{method_view}
use Rattle.rules.specs.Outcomes.{Done}
use Rattle.rules.specs.Rules.{conditions}
use Rattle.rules.specs.Table.{typing_rule}
use Rattle.verify.proofs.Meeting.{goes_is, stopped_is}
use Rattle.verify.proofs.frames_at.go_on.Goals as goal

pub returns-in-Ok-clause-goes : goal.returns-in-Ok-clause-goes
returns-in-Ok-clause-goes g c =
    let x = c.args.frames.now in
    let m = method_view c.args.body.now.method.now in
    let a = act_view c.args.act.now in
    let p = typing_rule m a in
    let now = held c.run.new.frames in
    let done = subst (Done (conditions x.types.classes m c.args.at p (held x)) (after m c.args.at p (held x)) now) c.in-Ok.is c.run.ensures.done in
    goes_is x.types.classes m c.args.at a (held x) now c.goes_on.result c.goes_on.ensures done.outcome.0 done.outcome.1

pub returns-in-Err-clause-goes : goal.returns-in-Err-clause-goes
returns-in-Err-clause-goes g c =
    let x = c.args.frames.now in
    let m = method_view c.args.body.now.method.now in
    let a = act_view c.args.act.now in
    let p = typing_rule m a in
    let now = held c.run.new.frames in
    let done = subst (Done (conditions x.types.classes m c.args.at p (held x)) (after m c.args.at p (held x)) now) c.in-Err.is c.run.ensures.done in
    stopped_is x.types.classes m c.args.at a (held x) now c.in-Err.reason c.stopped.result done.outcome c.stopped.ensures.found
