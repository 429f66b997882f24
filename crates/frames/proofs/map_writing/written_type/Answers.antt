use Rattle.frames.specs.StackMaps.{type_pieces}
use Rattle.frames.specs.MapViews.{info_of}
use Rattle.frames.proofs.map_writing.written_type.Goals as goal

pub returns : goal.returns
returns c = c.delivered.ensures (type_pieces (info_of c.args.info)) (rw c.new-out.ensures at c.put_type-answer.ensures)
