use Rattle.std.proofs.Common.{subst}
use Rattle.std.specs.Prelude.{option_map}
use Rattle.hierarchy.specs.Class.{world_of}
use Rattle.insn.specs.Branching.{targets_of}
use Rattle.machine.specs.Effects.{falls, targets}
use Rattle.machine.specs.private.EffectViews.{effect_view}
use Rattle.machine.specs.private.Happening.{MayGo, GoesWay}
use Rattle.machine.specs.Views.{value_view, state_view}
use Rattle.machine.proofs.EffectLaws.{goes_on_there}
use Rattle.machine.proofs.completion.go_on.Goals as goal

pub returns : goal.returns
returns g c =
    let w = world_of (g.C.Classes.content c.args.classes.now) in
    let t = effect_view c.args.effect.now in
    let s = state_view c.args.state in
    let way : GoesWay t c.args.next s.at c.args.completion.branch c.in-Some.at =
    subst (λ k. MayGo (targets k t) (falls t) c.args.next c.args.completion.branch c.in-Some.at) c.offset.ensures
    (subst (λ z. MayGo z (falls t) c.args.next c.args.completion.branch c.in-Some.at) c.targets.ensures
    (subst (λ z. MayGo (targets_of c.targets.result) z c.args.next c.args.completion.branch c.in-Some.at) c.falls.ensures c.in-Some.ensures)) in
    goes_on_there w t c.args.next s s.heap c.args.completion.branch (option_map value_view c.args.completion.answer) c.in-Some.at (state_view c.moved_to-moved.result) c.moved_to-moved.ensures way c.done.result c.done.ensures
