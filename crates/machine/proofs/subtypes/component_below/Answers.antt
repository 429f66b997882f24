use Rattle.std.proofs.Common.{◌≡◌, ◌<◌, ◌∙◌, arith, sym, subst}
use Rattle.names.specs.Descriptors.{base_of, dimensioned}
use Rattle.machine.specs.private.Decided.{type_below}
use Rattle.machine.proofs.Types.{fewer, as_many, more_than_primitive, more_than_class}
use Rattle.machine.proofs.subtypes.component_below.Goals as goal

pub returns-then-d-e : goal.returns-then-d-e
returns-then-d-e g c = sym (fewer (g.C.Classes.content c.args.classes.now) c.args.d c.args.e c.args.x (base_of c.args.y) c.if-d-e.true)

pub returns-then-d-e-2 : goal.returns-then-d-e-2
returns-then-d-e-2 g c =
    let h = g.C.Classes.content c.args.classes.now in
    subst (λ k. c.base_below.result ≡ type_below h (dimensioned c.args.d (base_of c.args.x)) (dimensioned k (base_of c.args.y)))
    c.if-d-e-2.true
    (c.base_below.ensures ∙ sym (as_many h c.args.d (base_of c.args.x) (base_of c.args.y)))

pub returns-in-Primitive : goal.returns-in-Primitive
returns-in-Primitive g c =
    let lt : c.args.e < c.args.d = omega arith in
    rw c.in-Primitive.is (sym (more_than_primitive (g.C.Classes.content c.args.classes.now) c.args.d c.args.e (base_of c.args.x) c.in-Primitive.field-0 lt))

pub returns-in-Class : goal.returns-in-Class
returns-in-Class g c =
    let lt : c.args.e < c.args.d = omega arith in
    rw c.in-Class.is (c.is_above_arrays.ensures ∙ sym (more_than_class (g.C.Classes.content c.args.classes.now) c.args.d c.args.e (base_of c.args.x) c.in-Class.b.now lt))
