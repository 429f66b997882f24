use Rattle.std.proofs.Common.{◌≡◌, ◌-◌}
use Rattle.classfile.specs.FileParts.{search_attributes}
use Rattle.classfile.proofs.file_parts.attributes.Given as goal

abbrev pub invariant-loop-n : goal.invariant-loop-n
invariant-loop-n l = search_attributes l.at l.place (l.count - l.n) l.n l.cursor ≡ search_attributes l.at l.place l.count 0 l.fn.cursor
