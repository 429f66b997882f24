use Rattle.std.proofs.Common.{Ok, Err, refl, sym, ◌∙◌}
use Rattle.std.proofs.lemmas.Bool.{false≢true}
use Rattle.std.specs.Prelude.{option_map}
use Rattle.hierarchy.specs.Class.{world_of}
use Rattle.machine.specs.Heap.{with_fresh}
use Rattle.machine.specs.private.EffectViews.{effect_view}
use Rattle.machine.specs.Views.{value_view, fresh_view, state_view}
use Rattle.machine.proofs.EffectLaws.{refused, goes_from_there}
use Rattle.machine.proofs.completion.go.Goals as goal

pub returns-in-Ok : goal.returns-in-Ok
returns-in-Ok g c =
    let s = state_view c.args.state in
    let new = fresh_view c.args.fresh.now in (
      c.in_ok-state.ensures.0,
      goes_from_there (world_of (g.C.Classes.content c.args.classes.now)) (effect_view c.args.effect.now) c.args.next s (with_fresh s.heap new) c.args.completion.branch (option_map value_view c.args.completion.answer)
          (state_view c.in_ok-state.state) c.in_ok-state.ensures.1 (Ok c.in-Ok.after) c.in-Ok.ensures,
    )

pub returns-in-Err : goal.returns-in-Err
returns-in-Err g c =
    let w = world_of (g.C.Classes.content c.args.classes.now) in
    let t = effect_view c.args.effect.now in
    let s = state_view c.args.state in
    let new = fresh_view c.args.fresh.now in
    refused w t c.args.next s (with_fresh s.heap new) new c.args.completion.branch (option_map value_view c.args.completion.answer) c.in-Err.fault
    (goes_from_there w t c.args.next s (with_fresh s.heap new) c.args.completion.branch (option_map value_view c.args.completion.answer) (state_view c.in_ok-state.state) c.in_ok-state.ensures.1 (Err c.in-Err.fault) c.in-Err.ensures)
    refl (λ l. false≢true (sym c.if-is_last.false ∙ c.is_last.ensures.1 l))
