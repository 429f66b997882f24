use Rattle.names.proofs.ShapeLaws.{deep_result}
use Rattle.names.proofs.shape.is_deep.Goals as goal

pub returns-in-Some : goal.returns-in-Some
returns-in-Some c = deep_result c.args.returned c.in-Some.field c.in-Some.is
