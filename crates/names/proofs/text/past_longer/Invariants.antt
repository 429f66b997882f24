use Rattle.std.proofs.Common.{◌≡◌, false, length, slice_index, ◌-◌, ◌≤◌, ◌<◌}
use Rattle.names.specs.Units.{is_single}
use Rattle.names.proofs.UnitLaws.{ReadTo}
use Rattle.names.proofs.text.past_longer.Given as goal

abbrev pub invariant-units : goal.invariant-units
invariant-units l = record {
  ahead : l.fn.from ≤ l.at;
  within : l.at < length l.bytes;
  longer : is_single (slice_index l.bytes l.at) ≡ false;
  read : ReadTo l.bytes l.at;
}

abbrev pub decreases-units : goal.decreases-units
decreases-units l = length l.bytes - l.at
