use Rattle.blocks.specs.private.Trees.{level_of}
use Rattle.blocks.specs.private.Remembering.{AreCopied}
use Rattle.blocks.proofs.remembering.Fits.+save.Given as goal

abbrev pub decreases-save : goal.decreases-save
decreases-save l = level_of l.nodes.now.items l.id

abbrev pub invariant-loop-place : goal.invariant-loop-place
invariant-loop-place l = AreCopied l.initial.nodes.items l.nodes.items
