use Rattle.std.proofs.Common.{map, ap}
use Rattle.classfile.specs.CodeMethods.{judged_class}
use Rattle.machine.specs.Views.{state_view, choice_view, stop_view}
use Rattle.verify.proofs.Walking.{safe_walk}
use Rattle.verify.proofs.verified_walk.walk_verified.Goals as goal

pub returns-clause-no_fault : goal.returns-clause-no_fault
returns-clause-no_fault g c =
    let walked = c.in_ok-walked.walked in
    let safe = safe_walk (g.C.Classes.content c.args.classes.now) c.walk_method.ensures.hierarchy (judged_class c.args.formed.now) c.args.number (state_view c.args.state.now)
    (map choice_view c.args.choices.now) (c.in_ok-begins_in.ensures.so c.if-not-branch.false) c.in_ok-check_verified.ensures.safe walked.taken (stop_view walked.last)
    c.in_ok-walked.ensures.walks in
    λ e. safe.stopped (ap stop_view e)

pub returns-clause-safe : goal.returns-clause-safe
returns-clause-safe g c =
    let walked = c.in_ok-walked.walked in
    safe_walk (g.C.Classes.content c.args.classes.now) c.walk_method.ensures.hierarchy (judged_class c.args.formed.now) c.args.number (state_view c.args.state.now)
    (map choice_view c.args.choices.now) (c.in_ok-begins_in.ensures.so c.if-not-branch.false) c.in_ok-check_verified.ensures.safe walked.taken (stop_view walked.last)
    c.in_ok-walked.ensures.walks
