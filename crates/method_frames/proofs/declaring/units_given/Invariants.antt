use Rattle.std.proofs.Common.{◌≡◌, ◌≤◌, ◌*◌, List, map, take}
use Rattle.pool.specs.Entries.{Entry}
use Rattle.frames.specs.MapViews.{info_of}
use Rattle.frames.specs.DeclaredFrames.{types_given}
use Rattle.frames.specs.Slots.{units_of}
use Rattle.method_frames.proofs.declaring.units_given.Given as goal

abbrev pub invariant-loop-i : goal.invariant-loop-i
invariant-loop-i l = record {
  few : l.units ≤ 2 * l.i;
  units : (pool : List Entry) → units_of (types_given pool (map info_of (take l.i l.infos))) ≡ l.units;
}
