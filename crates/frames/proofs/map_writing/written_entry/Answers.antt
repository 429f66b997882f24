use Rattle.frames.specs.StackMaps.{entry_pieces}
use Rattle.frames.specs.MapViews.{entry_of}
use Rattle.frames.proofs.map_writing.written_entry.Goals as goal

pub returns : goal.returns
returns c = c.delivered.ensures (entry_pieces (entry_of c.args.entry.now)) (rw c.new-out.ensures at c.put_entry-answer.ensures)
