use Rattle.classfile.proofs.RowLaws.{body_spells_rows, spelled_is_laid_out}
use Rattle.classfile.proofs.laws.body_spells_rows.Goals as goal

pub returns-clause-rows : goal.returns-clause-rows
returns-clause-rows c layout body h = body_spells_rows layout body h

pub returns-clause-layout : goal.returns-clause-layout
returns-clause-layout c layout body told s = spelled_is_laid_out layout body told s
