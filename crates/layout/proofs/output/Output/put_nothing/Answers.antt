use Rattle.std.proofs.Common.{rules}
use Rattle.layout.proofs.output.Output.put_nothing.Goals as goal

pub returns : goal.returns
returns c = search rules
