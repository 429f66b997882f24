use Rattle.std.proofs.Common.{◌≤◌, take}
use Rattle.method_frames.specs.private.Counted.{IsCounted}
use Rattle.method_frames.proofs.widths.wides.Given as goal

abbrev pub invariant-loop-i : goal.invariant-loop-i
invariant-loop-i l = record { few : l.count ≤ l.i; counted : IsCounted (take l.i l.numbers) l.count }
