use Rattle.std.proofs.Common.{[], refl}
use Rattle.hierarchy.specs.Answer.{yes}
use Rattle.rules.specs.Bodies.{method_view}
use Rattle.rules.proofs.Settling.{pops_done}
use Rattle.numbered_rules.specs.RunningFrame.{held}
use Rattle.numbered_rules.proofs.simple_rules.takes_nothing.Goals as goal

pub returns-clause-done : goal.returns-clause-done
returns-clause-done g c =
    let f = held c.args.frames.now in
    pops_done c.args.frames.now.types.classes (method_view c.args.method.now) [] [] f yes f.stack f c.judge_frame_after.result
    (record { enough = refl; answer_is = refl; left_is = refl }) (λ e. cc) c.judge_frame_after.ensures
