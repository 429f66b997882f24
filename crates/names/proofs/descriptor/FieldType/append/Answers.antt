use Rattle.std.proofs.Common.{ap, append_assoc, arith}
use Rattle.names.specs.Descriptors.{primitive, class, base_of}
use Rattle.names.proofs.Written.{appended}
use Rattle.names.proofs.descriptor.FieldType.append.Goals as goal

pub returns-in_ok-push-in-Primitive : goal.returns-in_ok-push-in-Primitive
returns-in_ok-push-in-Primitive c =
    appended c.args.out.now.items c.push-in-Primitive.new.self.items c.args.self.now (primitive c.in-Primitive.primitive) c.loop.counter (omega arith) (ap base_of c.in-Primitive.is)
    (rw (c.in_ok-push-in-Primitive.ensures.items, c.loop.invariant, c.letter.ensures))

pub returns-in_ok-push-in-Class-2 : goal.returns-in_ok-push-in-Class-2
returns-in_ok-push-in-Class-2 c =
    appended c.args.out.now.items c.push-in-Class-2.new.self.items c.args.self.now (class c.in-Class.name.now) c.loop.counter (omega arith) (ap base_of c.in-Class.is)
    (rw (c.in_ok-push-in-Class-2.ensures.items, c.in_ok-extend_from_slice-in-Class.ensures.items, c.in_ok-push-in-Class.ensures.items, c.loop.invariant) (simp append_assoc))
