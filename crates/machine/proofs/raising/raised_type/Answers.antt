use Rattle.hierarchy.specs.Class.{world_of}
use Rattle.names.specs.ReferenceTypes.{class_type}
use Rattle.names.specs.StandardNames.{throwable_name}
use Rattle.machine.specs.Views.{heap_view}
use Rattle.machine.proofs.Raised.{other_type}
use Rattle.machine.proofs.raising.raised_type.Goals as goal

pub returns-else-is_below : goal.returns-else-is_below
returns-else-is_below g c = λ x here below. other_type (world_of (g.C.Classes.content c.args.classes.now)) (heap_view c.args.heap.now c.args.address) _ x (class_type throwable_name) c.is_below.result c.in_ok-run_type.ensures here below c.if-is_below.false c.is_below.ensures.1
