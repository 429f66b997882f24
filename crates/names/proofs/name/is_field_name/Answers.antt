use Rattle.std.proofs.Common.{rules}
use Rattle.names.proofs.name.is_field_name.Goals as goal

pub returns : goal.returns
returns c = search rules
