-- No column so far is an index, so it rests with the others.
use Rattle.std.proofs.Common.{◌≡◌, drop}
use Rattle.classfile.specs.private.IndexColumns.{are_plain}
use Rattle.classfile.proofs.number_form.are_plain.Given as goal

abbrev pub invariant-loop-column : goal.invariant-loop-column
invariant-loop-column l = are_plain l.columns ≡ are_plain (drop l.column-index l.columns)
