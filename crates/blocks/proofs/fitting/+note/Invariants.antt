use Rattle.blocks.specs.private.Trees.{level_of, NotesOnly}
use Rattle.blocks.proofs.fitting.+note.Given as goal

abbrev pub decreases-note : goal.decreases-note
decreases-note l = level_of l.nodes.now l.id

abbrev pub invariant-loop-place : goal.invariant-loop-place
invariant-loop-place l = NotesOnly l.initial.nodes l.nodes (level_of l.initial.nodes l.id) l.id l.wanted
