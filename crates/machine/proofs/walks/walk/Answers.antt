use Rattle.std.proofs.Common.{◌≡◌, length, map, subst, arith, Ok, Err}
use Rattle.machine.specs.Walks.{Walks, more}
use Rattle.machine.specs.declared.choosing.StepFault.TheVariants.{NotAChoice}
use Rattle.machine.specs.Stepped.{Stepped}
use Rattle.machine.specs.Effects.{effect}
use Rattle.hierarchy.specs.Class.{world_of}
use Rattle.machine.specs.Bodies.{method_view}
use Rattle.machine.specs.Views.{state_view, choice_view}
use Rattle.machine.proofs.Leading.{on, at_end, at_fault, at_no_choice, used_up}
use Rattle.machine.proofs.walks.walk.Goals as goal

pub loop-taken-preserved : goal.loop-taken-preserved
loop-taken-preserved g c =
    let w = world_of (g.C.Classes.content c.args.classes.now) in
    let m = method_view c.args.method.now in
    let s = state_view c.args.state.now in
    let cs = map choice_view c.args.choices.now in
    let t = state_view c.loop-taken.at in
    on w m s cs c.args.choices.now c.loop-taken.taken c.index-choices-taken.result c.loop-taken-test.true c.index-choices-taken.is t c.loop-taken.invariant (state_view c.in-Ok-Next.next) (subst (λ o. Stepped effect w m t (choice_view c.index-choices-taken.result) (Ok o)) c.in-Ok-Next.field-0-is c.in-Ok-Next.ensures)

pub returns-in-Ok-Ended-clause-walks : goal.returns-in-Ok-Ended-clause-walks
returns-in-Ok-Ended-clause-walks g c =
    let w = world_of (g.C.Classes.content c.args.classes.now) in
    let m = method_view c.args.method.now in
    let s = state_view c.args.state.now in
    let cs = map choice_view c.args.choices.now in
    let t = state_view c.loop-taken.at in
    at_end w m s cs c.args.choices.now c.loop-taken.taken c.index-choices-taken.result c.loop-taken-test.true c.index-choices-taken.is t c.loop-taken.invariant (subst (λ o. Stepped effect w m t (choice_view c.index-choices-taken.result) (Ok o)) c.in-Ok-Ended.field-0-is c.in-Ok-Ended.ensures)

pub returns-in-Ok-Fault-clause-walks : goal.returns-in-Ok-Fault-clause-walks
returns-in-Ok-Fault-clause-walks g c =
    let w = world_of (g.C.Classes.content c.args.classes.now) in
    let m = method_view c.args.method.now in
    let s = state_view c.args.state.now in
    let cs = map choice_view c.args.choices.now in
    let t = state_view c.loop-taken.at in
    at_fault w m s cs c.args.choices.now c.loop-taken.taken c.index-choices-taken.result c.loop-taken-test.true c.index-choices-taken.is t c.loop-taken.invariant (subst (λ o. Stepped effect w m t (choice_view c.index-choices-taken.result) (Ok o)) c.in-Ok-Fault.field-0-is c.in-Ok-Fault.ensures)

pub returns-in-Err-NotAChoice-clause-walks : goal.returns-in-Err-NotAChoice-clause-walks
returns-in-Err-NotAChoice-clause-walks g c =
    let w = world_of (g.C.Classes.content c.args.classes.now) in
    let m = method_view c.args.method.now in
    let s = state_view c.args.state.now in
    let cs = map choice_view c.args.choices.now in
    let t = state_view c.loop-taken.at in
    let stuck : Stepped effect w m t (choice_view c.index-choices-taken.result) (Err NotAChoice) =
    subst (λ e. Stepped effect w m t (choice_view c.index-choices-taken.result) (Err e)) c.in-Err-NotAChoice.field-0-is c.in-Err-NotAChoice.ensures in
    at_no_choice w m s cs c.args.choices.now c.loop-taken.taken c.index-choices-taken.result c.loop-taken-test.true c.index-choices-taken.is t c.loop-taken.invariant stuck.0 stuck.1

pub returns-clause-walks : goal.returns-clause-walks
returns-clause-walks g c =
    let w = world_of (g.C.Classes.content c.args.classes.now) in
    let m = method_view c.args.method.now in
    let s = state_view c.args.state.now in
    let cs = map choice_view c.args.choices.now in
    let t = state_view c.loop-taken.at in
    let all : c.loop-taken.taken ≡ length c.args.choices.now = omega (arith, c.loop-taken-test.false, c.loop-taken.auto.taken-end) in
    subst (λ n. Walks w m s cs n (more t)) all (used_up w m s cs c.args.choices.now c.loop-taken.taken t (omega (arith, all)) c.loop-taken.invariant)
