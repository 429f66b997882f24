use Rattle.layout.specs.PieceLaws.{no_other, reads_back, spells_if, spells_none}
use Rattle.layout.proofs.laws.writing_is_spelling.Goals as goal

pub returns-clause-spells : goal.returns-clause-spells
returns-clause-spells g c = λ f pieces v m. spells_if m v

pub returns-clause-refused : goal.returns-clause-refused
returns-clause-refused g c = λ f pieces v e bytes m. spells_none m v e bytes

pub returns-clause-back : goal.returns-clause-back
returns-clause-back g c = λ f pieces v bytes m. reads_back m v bytes

pub returns-clause-one : goal.returns-clause-one
returns-clause-one g c = λ f pieces v a b m. no_other m v a b
