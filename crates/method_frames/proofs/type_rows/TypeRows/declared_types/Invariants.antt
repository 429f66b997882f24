use Rattle.std.proofs.Common.{◌≡◌, map, take}
use Rattle.frames.specs.VerificationType.{type_of}
use Rattle.type_numbers.specs.Decoding.{types_by}
use Rattle.method_frames.specs.NumberedRows.{declared_in}
use Rattle.method_frames.proofs.type_rows.TypeRows.declared_types.Given as goal

abbrev pub invariant-loop-place : goal.invariant-loop-place
invariant-loop-place g l = map type_of l.types.items ≡ types_by l.self.types (take l.place (declared_in l.self l.row))
