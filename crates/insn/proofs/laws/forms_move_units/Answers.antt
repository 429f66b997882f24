use Rattle.insn.proofs.ByUnits.{forms_move_units}
use Rattle.insn.proofs.laws.forms_move_units.Goals as goal

pub returns : goal.returns
returns c = forms_move_units
