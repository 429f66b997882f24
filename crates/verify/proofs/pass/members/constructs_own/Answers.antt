use Rattle.std.proofs.Common.{◌∙◌, sym, ap}
use Rattle.insn.specs.Views.{act_view}
use Rattle.rules.specs.Bodies.{method_view}
use Rattle.numbered_rules.specs.RunningFrame.{held}
use Rattle.rules.proofs.Made.{own_of_index, own_by_index}
use Rattle.verify.proofs.pass.members.constructs_own.Goals as goal

pub returns-in-None-clause-own : goal.returns-in-None-clause-own
returns-in-None-clause-own g c =
    let m = method_view c.args.method.now in
    let f = held c.args.frames.now in
    sym (own_by_index m (act_view c.args.act.now) f ∙ ap (own_of_index m f) (sym c.special_index.ensures ∙ c.in-None.is))
