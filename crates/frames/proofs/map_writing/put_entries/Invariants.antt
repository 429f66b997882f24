use Rattle.std.proofs.Common.{◌≡◌, length, map}
use Rattle.std.specs.List.{flat_map}
use Rattle.layout.specs.Pieces.{writes}
use Rattle.frames.specs.StackMaps.{entry_pieces}
use Rattle.frames.specs.MapViews.{entry_of}
use Rattle.frames.proofs.map_writing.put_entries.Given as goal

abbrev pub invariant-loop-rest : goal.invariant-loop-rest
invariant-loop-rest l = writes (flat_map entry_pieces (map entry_of l.rest)) l.out ≡ writes (flat_map entry_pieces (map entry_of l.fn.entries)) l.fn.out

abbrev pub decreases-loop-rest : goal.decreases-loop-rest
decreases-loop-rest l = length l.rest
