use Rattle.std.proofs.Common.{sym, ◌∙◌}
use Rattle.machine.proofs.Types.{found, not_found}
use Rattle.machine.proofs.subtypes.class_below.Goals as goal

pub returns-in-Yes : goal.returns-in-Yes
returns-in-Yes g c = found (g.C.Classes.content c.args.classes.now) c.args.a.now c.args.b.now c.in-Yes.ensures

pub returns-in_default : goal.returns-in_default
returns-in_default g c =
    not_found (g.C.Classes.content c.args.classes.now) c.args.a.now c.args.b.now c.is_subclass.result
    (sym c.is_above_all.ensures ∙ c.if-is_above_all.false) c.is_subclass.ensures c.in_default.not-Yes
