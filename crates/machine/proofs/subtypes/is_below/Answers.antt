use Rattle.std.proofs.Common.{sym, ◌∙◌}
use Rattle.names.specs.ReferenceTypes.{descriptor_of}
use Rattle.machine.specs.Views.{run_type_view}
use Rattle.machine.proofs.Types.{decides}
use Rattle.machine.proofs.subtypes.is_below.Goals as goal

pub returns : goal.returns
returns g c =
    let both = decides (g.C.Classes.content c.args.classes.now) (descriptor_of (run_type_view c.args.x)) (descriptor_of (run_type_view c.args.t)) in
    (λ e. both.0 (sym c.type_below.ensures ∙ e), λ p. c.type_below.ensures ∙ both.1 p)
