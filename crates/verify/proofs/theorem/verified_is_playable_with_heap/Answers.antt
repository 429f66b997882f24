use Rattle.verify.proofs.safety.HeapRuns.{playable_is_playable_with_heap, verified_is_playable_with_heap}
use Rattle.verify.proofs.theorem.verified_is_playable_with_heap.Goals as goal

pub returns-clause-verified : goal.returns-clause-verified
returns-clause-verified c = verified_is_playable_with_heap

pub returns-clause-playable : goal.returns-clause-playable
returns-clause-playable c = playable_is_playable_with_heap
