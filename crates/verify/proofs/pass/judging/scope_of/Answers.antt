use Rattle.std.proofs.Common.{◌∙◌, false, sym, ap}
use Rattle.insn.specs.Views.{act_view}
use Rattle.method_frames.specs.MapFrames.{frames_by}
use Rattle.numbered_rules.specs.RunningFrame.{held}
use Rattle.rules.specs.Bodies.{method_view}
use Rattle.rules.specs.Guards.{Surroundings}
use Rattle.verify.specs.Verdict.{is_covered}
use Rattle.verify.proofs.Plain as plainly
use Rattle.verify.proofs.numbered.Alone.{aside_none, direct_none, names_none, sets_none, uncalled, uses_none}
use Rattle.verify.proofs.numbered.Objects.{unused}
use Rattle.verify.proofs.pass.judging.scope_of.Goals as goal

pub returns-then-is_plain-clause-scope : goal.returns-then-is_plain-clause-scope
returns-then-is_plain-clause-scope g c =
    let x = c.args.frames.now in
    let m = method_view c.args.body.now.method.now in
    let a = act_view c.args.act.now in
    let plain = sym c.is_plain.ensures ∙ c.if-is_plain.true in
    let (follows, ahead) = c.come_to.ensures x m.exceptions c.requires.handlers in
    let idle = c.are_idle.ensures c.if-not-are_idle.false m.exceptions follows ahead in (
      plain,
      aside_none x.types.classes m (frames_by x.types x.declared) c.args.at (held x) a c.args.last (plainly.direct_none m a plain) (unused x.types.classes m a false (plainly.uses_none m.release a plain)) idle
          (sym c.falls_off.ensures ∙ c.if-falls_off.false) (uncalled a (is_covered m.exceptions c.args.at) (plainly.calls_none a plain)),
    )

pub returns-then-asks_no_more-clause-scope : goal.returns-then-asks_no_more-clause-scope
returns-then-asks_no_more-clause-scope g c =
    let x = c.args.frames.now in
    let m = method_view c.args.body.now.method.now in
    let a = act_view c.args.act.now in
    let no_more = sym c.asks_no_more.ensures ∙ c.if-asks_no_more.true in
    let (follows, ahead) = c.come_to.ensures x m.exceptions c.requires.handlers in
    let idle = c.are_idle.ensures c.if-not-are_idle.false m.exceptions follows ahead in (
      sets_none m m.release a no_more,
      names_none m m.release a no_more,
      aside_none x.types.classes m (frames_by x.types x.declared) c.args.at (held x) a c.args.last (direct_none m a no_more) (unused x.types.classes m a false (uses_none m.release a no_more)) idle
          (sym c.falls_off.ensures ∙ c.if-falls_off.false) (sym (c.is_covered_call.ensures x m.exceptions follows ahead) ∙ c.if-is_covered_call.false),
    )

pub returns-in-Some-clause-scope : goal.returns-in-Some-clause-scope
returns-in-Some-clause-scope g c =
    let x = c.args.frames.now in
    let m = method_view c.args.body.now.method.now in
    let a = act_view c.args.act.now in
    let (follows, ahead) = c.come_to.ensures x m.exceptions c.requires.handlers in
    let idle = c.are_idle.ensures c.if-not-are_idle.false m.exceptions follows ahead in
    let direct = c.in-Some.ensures.direct x.types c.requires.numbers in
    let unguarded = c.in-Some.ensures.unguarded x.types (sym (ap (λ (z : Surroundings). z.classes) c.requires.constants)) c.requires.numbers in (
      c.in-Some.ensures.own,
      c.in-Some.ensures.bootstrapped,
      aside_none x.types.classes m (frames_by x.types x.declared) c.args.at (held x) a c.args.last direct unguarded idle
          (sym c.falls_off.ensures ∙ c.if-falls_off.false) (sym (c.is_covered_call.ensures x m.exceptions follows ahead) ∙ c.if-is_covered_call.false),
    )

pub returns-then-falls_off-clause-ahead : goal.returns-then-falls_off-clause-ahead
returns-then-falls_off-clause-ahead g c = (c.come_to.ensures c.args.frames.now (method_view c.args.body.now.method.now).exceptions c.requires.handlers).1

pub returns-then-not-are_idle-clause-ahead : goal.returns-then-not-are_idle-clause-ahead
returns-then-not-are_idle-clause-ahead g c = (c.come_to.ensures c.args.frames.now (method_view c.args.body.now.method.now).exceptions c.requires.handlers).1

pub returns-then-is_plain-clause-ahead : goal.returns-then-is_plain-clause-ahead
returns-then-is_plain-clause-ahead g c = (c.come_to.ensures c.args.frames.now (method_view c.args.body.now.method.now).exceptions c.requires.handlers).1

pub returns-then-is_covered_call-clause-ahead : goal.returns-then-is_covered_call-clause-ahead
returns-then-is_covered_call-clause-ahead g c = (c.come_to.ensures c.args.frames.now (method_view c.args.body.now.method.now).exceptions c.requires.handlers).1

pub returns-then-asks_no_more-clause-ahead : goal.returns-then-asks_no_more-clause-ahead
returns-then-asks_no_more-clause-ahead g c = (c.come_to.ensures c.args.frames.now (method_view c.args.body.now.method.now).exceptions c.requires.handlers).1

pub returns-in-Some-clause-ahead : goal.returns-in-Some-clause-ahead
returns-in-Some-clause-ahead g c = (c.come_to.ensures c.args.frames.now (method_view c.args.body.now.method.now).exceptions c.requires.handlers).1

pub returns-in-None-clause-ahead : goal.returns-in-None-clause-ahead
returns-in-None-clause-ahead g c = (c.come_to.ensures c.args.frames.now (method_view c.args.body.now.method.now).exceptions c.requires.handlers).1
