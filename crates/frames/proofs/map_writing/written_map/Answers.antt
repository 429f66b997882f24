use Rattle.frames.specs.StackMaps.{map_pieces}
use Rattle.frames.proofs.map_writing.written_map.Goals as goal

pub returns : goal.returns
returns c = c.delivered.ensures (map_pieces c.args.map.now) (rw c.new-out.ensures at c.put_map-answer.ensures)
