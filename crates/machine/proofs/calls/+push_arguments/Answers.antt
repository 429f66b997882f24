use Rattle.machine.proofs.OperandDemands.{pushed_first}
use Rattle.machine.proofs.calls.+push_arguments.Goals as goal

pub returns-in_ok-push-in-len1-up : goal.returns-in_ok-push-in-len1-up
returns-in_ok-push-in-len1-up t c =
    pushed_first c.args.params.now c.in-len1-up.len_at_least _ c.args.demands.now.items c.push_arguments.new.demands.items c.push.new.self.items c.demand_of.result
    c.in_ok-push_arguments-in-len1-up.ensures c.demand_of.ensures c.in_ok-push-in-len1-up.ensures.items
