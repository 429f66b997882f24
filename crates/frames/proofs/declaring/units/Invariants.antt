use Rattle.std.proofs.Common.{◌≡◌, ◌≤◌, ◌+◌, ◌*◌, map, drop}
use Rattle.frames.specs.VerificationType.{type_of}
use Rattle.frames.specs.Slots.{units_of}
use Rattle.frames.proofs.declaring.units.Given as goal

abbrev pub invariant-loop-t : goal.invariant-loop-t
invariant-loop-t l = record {
  few : l.units ≤ 2 * l.t-index;
  same : l.units + units_of (map type_of (drop l.t-index l.types)) ≡ units_of (map type_of l.types);
}
