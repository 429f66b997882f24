use Rattle.std.proofs.Common.{◌≡◌, ◌*◌, ◌≤◌, take}
use Rattle.frames.specs.Slots.{units_of}
use Rattle.type_numbers.specs.Numbers.{Numbering}
use Rattle.type_numbers.specs.Decoding.{types_by}
use Rattle.verify.proofs.pass.method.units.Given as goal

abbrev pub invariant-loop-i : goal.invariant-loop-i
invariant-loop-i l = record { few : l.units ≤ 2 * l.i; told : (s : Numbering) → l.units ≡ units_of (types_by s (take l.i l.numbers)) }
