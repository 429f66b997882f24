use Rattle.std.proofs.Common.{sym, ◌∙◌, subst}
use Rattle.machine.specs.Heap.{IsRunTimeType}
use Rattle.machine.specs.Views.{run_type_view}
use Rattle.machine.proofs.heaps.run_time_type.Goals as goal

pub returns-in-Array-clause-of : goal.returns-in-Array-clause-of
returns-in-Array-clause-of c = subst (λ t. IsRunTimeType (run_type_view t)) (c.array.ensures.is ∙ sym c.in-Array.is) c.array.ensures.of
