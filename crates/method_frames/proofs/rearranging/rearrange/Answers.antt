use Rattle.std.proofs.Common.{◌-◌, length, arith}
use Rattle.insn.specs.Views.{stack_form_view}
use Rattle.method_frames.proofs.ItemMoves.{removes_first, removes_next, removes_end, removes_kept, removes_above}
use Rattle.method_frames.proofs.rearranging.rearrange.Goals as goal

pub loop-init : goal.loop-init
loop-init c = removes_first c.args.form.leaves.now _ c.args.stack.now.items c.push_chosen.new.stack.items (omega arith) c.in_ok-push_chosen.ensures

pub loop-preserved : goal.loop-preserved
loop-preserved c = removes_next c.args.form.leaves.now _ c.loop.counter c.args.stack.now.items c.loop.stack.items c.loop.invariant c.remove.result c.remove.new.self.items (omega arith) c.remove.ensures.by_index.2

pub returns : goal.returns
returns c =
    record {
      all = removes_end (stack_form_view c.args.form) _ c.loop.counter c.args.stack.now.items c.loop.stack.items (omega arith) (omega arith) c.loop.invariant;
      kept = removes_kept c.args.form.leaves.now _ c.loop.counter c.args.stack.now.items c.loop.stack.items c.loop.invariant (length c.args.stack.now.items - length c.args.form.takes.now) (omega arith);
      above = removes_above c.args.form.leaves.now _ c.loop.counter c.args.stack.now.items c.loop.stack.items c.loop.invariant (length c.args.stack.now.items - length c.args.form.takes.now) (omega arith);
    }
