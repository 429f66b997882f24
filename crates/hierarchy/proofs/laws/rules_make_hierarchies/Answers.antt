use Rattle.hierarchy.specs.Faults.{once, no_cycle, superclasses, object, array_interfaces, few_classes, interfaces}
use Rattle.hierarchy.proofs.OneFault.{all_kept}
use Rattle.hierarchy.proofs.laws.rules_make_hierarchies.Goals as goal

pub returns : goal.returns
returns c classes = (
  all_kept classes,
  λ k. record { one_each = k once; acyclic = k no_cycle; rooted = k superclasses; object = k object; arrays = k array_interfaces; few = k few_classes; interfaces = k interfaces },
)
