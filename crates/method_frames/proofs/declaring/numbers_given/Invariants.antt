use Rattle.std.proofs.Common.{List, map, take}
use Rattle.pool.specs.Entries.{Entry}
use Rattle.frames.specs.MapViews.{info_of}
use Rattle.frames.specs.DeclaredFrames.{types_given}
use Rattle.type_numbers.specs.Numbers.{Numbering}
use Rattle.type_numbers.specs.Constants.{IsTable}
use Rattle.method_frames.specs.private.MapEntries.{AreNumbers}
use Rattle.method_frames.proofs.declaring.numbers_given.Given as goal

abbrev pub invariant-loop-i : goal.invariant-loop-i
invariant-loop-i l = (s : Numbering) (pool : List Entry) → IsTable s pool l.table
    → AreNumbers s l.numbers.items (types_given pool (map info_of (take l.i l.infos)))
