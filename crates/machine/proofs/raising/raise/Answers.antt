use Rattle.std.proofs.Common.{rules, refl, sym, ap, ◌∙◌, subst}
use Rattle.hierarchy.specs.Class.{world_of}
use Rattle.machine.specs.Bodies.{method_view}
use Rattle.machine.specs.Demands.{State}
use Rattle.machine.specs.Heap.{Heap, with_fresh}
use Rattle.machine.specs.private.Happening.{Raises}
use Rattle.machine.specs.Views.{fresh_view, state_view, run_type_view}
use Rattle.machine.proofs.Raised.{caught_raises, caught_there}
use Rattle.machine.proofs.raising.raise.Goals as goal

pub returns : goal.returns
returns g c =
    let w = world_of (g.C.Classes.content c.args.classes.now) in
    let m = method_view c.args.method.now in
    let s = state_view c.args.state in
    let new = fresh_view c.args.fresh.now in
    let heap : Heap = with_fresh s.heap new in
    let t = state_view c.in_ok-state.state in
    let a = c.args.address in
    let type = run_type_view c.in-Some.run_type in
    let entry = c.in-Some-entry.entry in
    let here = sym (ap (λ (z : State). z.heap a) c.in_ok-state.ensures.1) ∙ c.in-Some.ensures.0 in
    subst (λ e. Raises w m s a new e c.caught.result) (sym c.in-Some-entry.is)
    (caught_raises w m s a new entry type heap c.in_ok-state.ensures.0 refl here c.in-Some.ensures.1 c.caught.result
    (caught_there w m s a new entry type heap c.in_ok-state.ensures.0 refl here c.in-Some.ensures.1 t c.in_ok-state.ensures.1 c.caught.result c.caught.ensures))

pub returns-in-None : goal.returns-in-None
returns-in-None g c = search rules
