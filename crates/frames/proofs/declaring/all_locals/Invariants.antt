use Rattle.std.proofs.Common.{◌≡◌, ◌++◌, map, drop}
use Rattle.frames.specs.VerificationType.{type_of}
use Rattle.frames.specs.Slots.{in_locals}
use Rattle.frames.proofs.declaring.all_locals.Given as goal

abbrev pub invariant-loop-t : goal.invariant-loop-t
invariant-loop-t l = map type_of l.all.items ++ in_locals (map type_of (drop l.t-index l.types)) ≡ in_locals (map type_of l.types)
