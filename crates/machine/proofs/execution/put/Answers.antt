use Rattle.std.specs.Prelude.{option_map}
use Rattle.machine.specs.Views.{value_view, object_view, state_view}
use Rattle.machine.proofs.EffectLaws.{named, placed}
use Rattle.machine.proofs.execution.put.Goals as goal

pub returns-in-Ref : goal.returns-in-Ref
returns-in-Ref c =
    placed (object_view c.args.object) (state_view c.args.state) (option_map value_view c.args.answer) c.in-Ref.address
    (named c.args.answer c.in-Some.value c.in-Ref.address c.in-Some.is c.in-Ref.is) c.put_at.result c.put_at.ensures
