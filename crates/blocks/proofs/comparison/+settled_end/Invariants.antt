use Rattle.blocks.specs.private.Trees.{level_of}
use Rattle.blocks.proofs.comparison.+settled_end.Given as goal

abbrev pub decreases-settled_end : goal.decreases-settled_end
decreases-settled_end l = level_of l.nodes.now l.id
