use Rattle.std.proofs.Common.{subst}
use Rattle.rules.specs.Outcomes.{Judges}
use Rattle.rules.proofs.Lesser.{judges_behind}
use Rattle.rules.proofs.merging.together.Goals as goal

pub returns-in-Ok-clause-judged : goal.returns-in-Ok-clause-judged
returns-in-Ok-clause-judged c = λ cs ds a b. judges_behind cs ds c.in-Ok.field-0 c.args.other (subst (Judges cs) c.in-Ok.is a) b
