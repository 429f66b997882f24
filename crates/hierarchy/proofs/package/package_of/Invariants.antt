use Rattle.std.proofs.Common.{◌≡◌, ◌≤◌, take}
use Rattle.hierarchy.specs.Nearest.{package_of}
use Rattle.hierarchy.proofs.package.package_of.Given as goal

abbrev pub invariant-loop-i : goal.invariant-loop-i
invariant-loop-i l = record { front : package_of (take l.i l.name) ≡ take l.end l.name; within : l.end ≤ l.i }
