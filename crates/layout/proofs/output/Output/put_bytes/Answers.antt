use Rattle.std.proofs.Common.{rules}
use Rattle.layout.proofs.output.Output.put_bytes.Goals as goal

pub returns : goal.returns
returns c = search rules
