use Rattle.std.proofs.Common.{rules}
use Rattle.hierarchy.proofs.rules.has_object.Goals as goal

pub returns-in-Some-superclass : goal.returns-in-Some-superclass
returns-in-Some-superclass g c = search rules
