use Rattle.std.proofs.Common.{length}
use Rattle.rules.proofs.unmet_expectations.+item_beneath.Given as goal

abbrev pub decreases-item_beneath : goal.decreases-item_beneath
decreases-item_beneath l = length l.expected.now
