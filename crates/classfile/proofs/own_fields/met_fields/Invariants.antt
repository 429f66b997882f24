use Rattle.std.proofs.Common.{map, take}
use Rattle.classfile.specs.Seen.{AreSeen}
use Rattle.classfile.specs.Views.{member_view}
use Rattle.classfile.proofs.own_fields.met_fields.Given as goal

-- the fields so far were met
abbrev pub invariant-loop-field : goal.invariant-loop-field
invariant-loop-field l = AreSeen l.pool (take l.field-index (map member_view l.fields)) l.met
