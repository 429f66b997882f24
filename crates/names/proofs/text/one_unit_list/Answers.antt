use Rattle.names.proofs.UnitLaws as laws
use Rattle.names.proofs.text.one_unit_list.Goals as goal

pub returns : goal.returns
returns c = laws.one_text
