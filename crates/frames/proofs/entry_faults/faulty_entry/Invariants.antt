use Rattle.std.proofs.Common.{◌≡◌, ◌-◌}
use Rattle.frames.specs.RefusedEntries.{faulty_from, faulty_entry}
use Rattle.frames.proofs.entry_faults.faulty_entry.Given as goal

abbrev pub invariant-loop-place : goal.invariant-loop-place
invariant-loop-place l = faulty_entry l.body ≡ faulty_from (l.place-end - l.place) l.place l.cursor
