use Rattle.verify.proofs.safety.HeapRunBreadth.{each_moment_is_safe, heap_run_breadth}
use Rattle.verify.proofs.laws.heap_run_breadth.Goals as goal

pub returns-clause-runs : goal.returns-clause-runs
returns-clause-runs c = heap_run_breadth

pub returns-clause-safe : goal.returns-clause-safe
returns-clause-safe c = each_moment_is_safe
