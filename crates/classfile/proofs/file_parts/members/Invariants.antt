use Rattle.std.proofs.Common.{◌≡◌, ◌-◌}
use Rattle.classfile.specs.FileParts.{search_members}
use Rattle.classfile.specs.private.Searching.{kind_place}
use Rattle.classfile.proofs.file_parts.members.Given as goal

abbrev pub invariant-loop-n : goal.invariant-loop-n
invariant-loop-n l = search_members l.at (kind_place l.kind) (l.count - l.n) l.n l.cursor ≡ search_members l.at (kind_place l.kind) l.count 0 l.fn.cursor
