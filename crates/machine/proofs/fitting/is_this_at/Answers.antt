use Rattle.std.proofs.Common.{rules, refl}
use Rattle.machine.specs.Views.{run_type_view}
use Rattle.machine.proofs.fitting.is_this_at.Goals as goal

pub returns-in-This : goal.returns-in-This
returns-in-This c = (λ t. (run_type_view c.in-Some.object.now.run_type, search rules), λ p. refl)
