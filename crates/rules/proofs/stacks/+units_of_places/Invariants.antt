use Rattle.std.proofs.Common.{length}
use Rattle.rules.proofs.stacks.+units_of_places.Given as goal

abbrev pub decreases-units_of_places : goal.decreases-units_of_places
decreases-units_of_places l = length l.places.now
