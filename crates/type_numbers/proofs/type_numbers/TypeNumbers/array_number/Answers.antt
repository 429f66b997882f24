use Rattle.std.proofs.Common.{◌∙◌, ap, ◌-◌, ◌<◌, arith}
use Rattle.names.specs.Descriptors.{base_of, dimensioned}
use Rattle.frames.specs.Packing.{slot_of}
use Rattle.frames.specs.VerificationType.{array}
use Rattle.type_numbers.proofs.Given.{array_given, primitive_given}
use Rattle.type_numbers.proofs.type_numbers.TypeNumbers.array_number.Goals as goal

pub returns-in-Primitive-clause-given : goal.returns-in-Primitive-clause-given
returns-in-Primitive-clause-given g c =
    let few : c.args.dims < 256 = omega (arith, c.ranges.dims) in
    rw c.in-Primitive.is (primitive_given c.args.self.now (g.C.Classes.content c.self.inside.classes.now) c.args.dims c.pack.result c.in-Primitive.field-0 c.requires few
    (c.pack.ensures ∙ ap (λ b. slot_of (g.C.Classes.content c.self.inside.classes.now) (array (dimensioned (c.args.dims - 1) (base_of b)))) c.in-Primitive.is))

pub returns-in-Class-clause-given : goal.returns-in-Class-clause-given
returns-in-Class-clause-given g c = rw c.in-Class.is (array_given c.class_number.new.self c.args.dims c.in-Class.name.now c.class_number.result c.requires c.class_number.ensures.number c.class_number.ensures.noted)
