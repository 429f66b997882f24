use Rattle.std.proofs.Common.{[]}
use Rattle.std.specs.Option.{option_map_or}
use Rattle.insn.specs.Views.{act_view}
use Rattle.rules.specs.Bodies.{method_view}
use Rattle.rules.specs.Interfaces.{interface_conditions}
use Rattle.rules.specs.Protected.{use_conditions, used_by}
use Rattle.numbered_rules.specs.RunningFrame.{held}
use Rattle.verify.proofs.pass.members.check_member.Goals as goal

pub returns-clause-judged : goal.returns-clause-judged
returns-clause-judged g c =
    let m = method_view c.args.method.now in
    let a = act_view c.args.act.now in
    let f = held c.args.frames.now in
    c.together.ensures.judged (interface_conditions m a) (option_map_or (use_conditions c.args.frames.now.types.classes m f) (used_by m a) [])
    c.check_interface-called.ensures.judged c.check_use-used.ensures.judged
