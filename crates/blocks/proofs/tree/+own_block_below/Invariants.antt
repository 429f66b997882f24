use Rattle.blocks.specs.private.Trees.{level_of}
use Rattle.blocks.proofs.tree.+own_block_below.Given as goal

abbrev pub decreases-own_block_below : goal.decreases-own_block_below
decreases-own_block_below l = level_of l.nodes.now.items l.id
