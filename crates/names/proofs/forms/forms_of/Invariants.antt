use Rattle.names.proofs.NameScan.{InName}
use Rattle.names.proofs.forms.forms_of.Given as goal

abbrev pub invariant-loop-at : goal.invariant-loop-at
invariant-loop-at l = InName l.bytes l.at l.start l.angle
