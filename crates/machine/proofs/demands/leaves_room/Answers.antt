use Rattle.machine.proofs.demands.leaves_room.Goals as goal

pub returns-in-Moves : goal.returns-in-Moves
returns-in-Moves c = rw c.in-Moves.is c.moves_have_room.ensures
