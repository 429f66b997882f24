use Rattle.std.proofs.Common.{refl}
use Rattle.pool.specs.ConstantMeanings.{call_site_at}
use Rattle.rules.specs.Bodies.{method_view}
use Rattle.rules.specs.Constants.{invoke_dynamic, dynamic_call}
use Rattle.rules.proofs.Settling.{by_judged}
use Rattle.numbered_rules.specs.RunningFrame.{held}
use Rattle.numbered_rules.proofs.calls.invoke_dynamic.Goals as goal

pub returns-then-method-clause-done : goal.returns-then-method-clause-done
returns-then-method-clause-done g c = λ at.
    let s = c.args.frames.now.types in
    let m = method_view c.args.method.now in
    let f = held c.args.frames.now in
    let o = call_site_at m.constant_pool c.args.index in
    by_judged m at (invoke_dynamic m c.args.bootstrapped o) m.dynamic (dynamic_call c.args.bootstrapped o) s.classes f (held c.dynamic_call.new.frames) c.dynamic_call.result
    refl c.if-method.true (c.dynamic_call.ensures.done at)
