use Rattle.std.proofs.Common.{◌≡◌, ◌-◌, ◌+◌, false}
use Rattle.classfile.specs.FileParts.{search_constants}
use Rattle.classfile.proofs.file_parts.constants.Given as goal

abbrev pub invariant-loop-i : goal.invariant-loop-i
invariant-loop-i l = search_constants l.at (l.count - l.i) (l.i + 1) l.second l.cursor ≡ search_constants l.at l.count 1 false l.fn.cursor
