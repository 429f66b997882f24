use Rattle.std.proofs.Common.{◌≡◌, ◌<◌, ◌∙◌, arith, sym, subst, ap}
use Rattle.names.specs.Descriptors.{base_of, dimensioned}
use Rattle.hierarchy.specs.Answer.{outcome_of, yes_if}
use Rattle.frames.specs.Assignable.{component_answer}
use Rattle.frames.proofs.Arrays.{array_below, array_level, array_above_primitive, array_above_class}
use Rattle.frames.proofs.assignability.components_assignable.Goals as goal

pub returns-then-d-e : goal.returns-then-d-e
returns-then-d-e g c = sym (array_below (g.C.Classes.content c.args.classes.now) c.args.d c.args.e c.args.x (base_of c.args.y) c.if-d-e.true)

pub returns-then-d-e-2 : goal.returns-then-d-e-2
returns-then-d-e-2 g c =
    let classes = g.C.Classes.content c.args.classes.now in
    subst (λ k. outcome_of c.bases_assignable.result ≡ component_answer classes (dimensioned c.args.d (base_of c.args.x)) (dimensioned k (base_of c.args.y)))
    c.if-d-e-2.true
    (c.bases_assignable.ensures ∙ sym (array_level classes c.args.d (base_of c.args.x) (base_of c.args.y)))

pub returns-in-Primitive : goal.returns-in-Primitive
returns-in-Primitive g c =
    let h : c.args.e < c.args.d = omega arith in
    rw c.in-Primitive.is (sym (array_above_primitive (g.C.Classes.content c.args.classes.now) c.args.d c.args.e (base_of c.args.x) c.in-Primitive.field-0 h))

pub returns-in-Class : goal.returns-in-Class
returns-in-Class g c =
    let h : c.args.e < c.args.d = omega arith in
    rw c.in-Class.is (c.yes_if.ensures ∙ ap yes_if c.is_above_arrays.ensures ∙ sym (array_above_class (g.C.Classes.content c.args.classes.now) c.args.d c.args.e (base_of c.args.x) c.in-Class.to.now h))
