use Rattle.std.proofs.Common.{[], subst}
use Rattle.std.specs.Option.{option_map}
use Rattle.names.specs.Types.{type_of}
use Rattle.classfile.specs.CodeMethods.{class_of, judged_class, code_method_view}
use Rattle.classfile.specs.Views.{class_view, code_view}
use Rattle.hierarchy.specs.Class.{world_of}
use Rattle.machine.specs.Views.{state_view}
use Rattle.verify.proofs.Walking.{begins_nowhere, tells_begins, Tells, tells_so}
use Rattle.verify.proofs.verified_walk.begins_in.Goals as goal

pub returns-in-None-clause-begins : goal.returns-in-None-clause-begins
returns-in-None-clause-begins g c =
    begins_nowhere (g.C.Classes.content c.args.classes.now) (judged_class c.args.formed.now) c.args.number (state_view c.args.state.now)
    c.in-None.ensures.told

pub returns-in-Some-clause-begins : goal.returns-in-Some-clause-begins
returns-in-Some-clause-begins g c =
    tells_begins (g.C.Classes.content c.args.classes.now) (judged_class c.args.formed.now) c.args.number (state_view c.args.state.now)
    (code_method_view c.in-Some.method []) c.in-Some.ensures.told c.is_initial.result c.is_initial.ensures

pub returns-in-Some-clause-so : goal.returns-in-Some-clause-so
returns-in-Some-clause-so g c =
    let w = world_of (g.C.Classes.content c.args.classes.now) in
    let s = state_view c.args.state.now in
    let m = c.in-Some.method in
    let here = c.in-Some.ensures.here in
    subst (λ k. Tells w (record { file = class_view k; dynamic = c.args.formed.now.dynamic }) c.args.number s c.is_initial.result) here.class_is
    (subst (λ d. Tells w (record { file = class_view m.class.now; dynamic = d }) c.args.number s c.is_initial.result) here.dynamic_is
    (subst (λ n. Tells w (class_of m) n s c.is_initial.result) here.number_is
    (tells_so w (class_of m) m.number (code_view m.code.now) m.is_static m.is_init (option_map type_of m.result_type) s m.is_method c.is_initial.result c.is_initial.ensures)))
