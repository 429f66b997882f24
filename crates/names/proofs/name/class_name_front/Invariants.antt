use Rattle.std.proofs.Common.{◌≤◌, ◌-◌, length}
use Rattle.std.specs.Prelude.{nat_eq}
use Rattle.names.proofs.Scan.{Front}
use Rattle.names.proofs.name.class_name_front.Given as goal

abbrev pub invariant-bytes : goal.invariant-bytes
invariant-bytes l =
    record {
      behind : l.start ≤ l.at;
      within : l.at ≤ length l.bytes;
      front : Front l.bytes l.at (nat_eq l.at l.start);
    }

abbrev pub decreases-bytes : goal.decreases-bytes
decreases-bytes l = length l.bytes - l.at
