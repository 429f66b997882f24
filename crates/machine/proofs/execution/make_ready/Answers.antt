use Rattle.std.proofs.Common.{rules, ◌∙◌, ap}
use Rattle.machine.specs.Heap.{with_object}
use Rattle.machine.specs.Steps.{moved_with}
use Rattle.machine.specs.Views.{stack_of, run_type_view, status_view, heap_view, state_view}
use Rattle.machine.proofs.Addresses.{put}
use Rattle.machine.proofs.execution.make_ready.Goals as goal

pub returns : goal.returns
returns c = (
  run_type_view c.in-Some.object.now.run_type,
  status_view c.in-Some.object.now.status,
  search rules,
  ap (λ h. moved_with (state_view c.args.state) c.args.state.at (stack_of c.args.state.stack.items) h) (put c.args.state.heap c.insert.new.self c.args.address _ c.in_ok-insert.ensures.updates.0 ∙ ap (with_object (heap_view c.args.state.heap) c.args.address) c.initialized-ready.ensures),
)
