use Rattle.std.proofs.Common.{arith}
use Rattle.method_frames.proofs.Stacks.{stacks_popped}
use Rattle.method_frames.proofs.stack_rows.StackRows.pop.Goals as goal

pub invariant_of-self-2 : goal.invariant_of-self-2
invariant_of-self-2 g c =
    let x = c.self.inside in
    stacks_popped x.items c.pop.new.self c.in_ok-number.number x.rows x.written x.high c.min-self-inside.result x.declared.items c.in_ok-number.ensures c.self.invariant
    (omega (arith, c.min-self-inside.ensures)) (omega (arith, c.min-self-inside.ensures, c.count.ensures))
