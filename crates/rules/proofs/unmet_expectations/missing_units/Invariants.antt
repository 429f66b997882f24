use Rattle.std.proofs.Common.{◌≡◌, ◌-◌, take, map}
use Rattle.frames.specs.VerificationType.{type_of}
use Rattle.frames.specs.Slots.{units_of}
use Rattle.rules.proofs.unmet_expectations.missing_units.Given as goal

abbrev pub invariant-loop-t : goal.invariant-loop-t
invariant-loop-t l = l.missing ≡ l.taken - units_of (map type_of (take l.t-index l.stack))
