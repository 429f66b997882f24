use Rattle.std.proofs.Common.{◌≡◌, drop, map}
use Rattle.machine.specs.private.Demanded.{all_lead}
use Rattle.machine.specs.Bodies.{code_of, entry_view}
use Rattle.machine.proofs.starts.all_lead.Given as goal

abbrev pub invariant-loop-entry : goal.invariant-loop-entry
invariant-loop-entry l = all_lead (code_of l.list) l.at (map entry_view l.entries) ≡ all_lead (code_of l.list) l.at (map entry_view (drop l.entry-index l.entries))
