use Rattle.std.proofs.Common.{length}
use Rattle.machine.proofs.operands.+are_form.Given as goal

abbrev pub decreases-are_form : goal.decreases-are_form
decreases-are_form l = length l.places.now
