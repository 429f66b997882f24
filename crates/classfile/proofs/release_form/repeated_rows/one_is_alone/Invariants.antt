-- No type so far is alone, so it rests with the others.
use Rattle.std.proofs.Common.{◌≡◌, drop}
use Rattle.std.specs.List.{list_any}
use Rattle.classfile.specs.release.DebugTables.{is_alone}
use Rattle.classfile.proofs.release_form.repeated_rows.one_is_alone.Given as goal

abbrev pub invariant-loop-row : goal.invariant-loop-row
invariant-loop-row l = list_any (is_alone l._variables) l.types ≡ list_any (is_alone l._variables) (drop l.row-index l.types)
