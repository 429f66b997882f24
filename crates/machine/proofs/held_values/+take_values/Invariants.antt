use Rattle.machine.proofs.held_values.+take_values.Given as goal

abbrev pub decreases-take_values : goal.decreases-take_values
decreases-take_values l = l.count
