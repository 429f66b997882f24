use Rattle.blocks.specs.private.Trees.{level_of}
use Rattle.blocks.proofs.tree.+number.Given as goal

abbrev pub decreases-number : goal.decreases-number
decreases-number l = level_of l.nodes.now l.id
