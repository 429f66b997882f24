use Rattle.std.proofs.Common.{◌≡◌, map, drop}
use Rattle.classfile.specs.Methods.{is_declared, declared_fields}
use Rattle.classfile.specs.Views.{member_view}
use Rattle.classfile.proofs.own_fields.is_among.Given as goal

-- no field before has the name and the descriptor
abbrev pub invariant-loop-field : goal.invariant-loop-field
invariant-loop-field l =
    is_declared (declared_fields l.pool (map member_view l.fields)) l.name l.descriptor
    ≡ is_declared (declared_fields l.pool (drop l.field-index (map member_view l.fields))) l.name l.descriptor
