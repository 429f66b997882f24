use Rattle.blocks.specs.private.Trees.{level_of}
use Rattle.blocks.proofs.comparison.+equal_end.Given as goal

abbrev pub decreases-equal_end : goal.decreases-equal_end
decreases-equal_end l = level_of l.nodes.now l.id
