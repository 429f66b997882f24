-- No two attributes so far have the kind, so it rests with the others.
use Rattle.std.proofs.Common.{◌≡◌, map, drop, if◌then◌else◌}
use Rattle.std.specs.List.{position_from}
use Rattle.classfile.specs.AttributeFault.{second, second_from}
use Rattle.classfile.specs.private.AttributeKinds.{has_kind}
use Rattle.classfile.proofs.attribute_fault.second.Given as goal

abbrev pub invariant-loop-n : goal.invariant-loop-n
invariant-loop-n g l =
    let later = map g.A.Tabled.attribute (drop l.n l.attributes) in
    second (has_kind l.kind) (map g.A.Tabled.attribute l.attributes)
    ≡ (if l.met then position_from (has_kind l.kind) l.n later else second_from (has_kind l.kind) l.n later)
