use Rattle.layout.specs.FormatLaws.{reads_inside}
use Rattle.layout.specs.AttributeLaws.{inside_spells, spells_inside}
use Rattle.layout.proofs.laws.body_is_whole.Goals as goal

pub returns-clause-spelled : goal.returns-clause-spelled
returns-clause-spelled g c = λ n body f make bytes w. inside_spells n body f make bytes w

pub returns-clause-spells : goal.returns-clause-spells
returns-clause-spells g c = λ n body f make v. spells_inside n body f make v

pub returns-clause-read : goal.returns-clause-read
returns-clause-read g c = λ n body f make at bytes. reads_inside n body f make at bytes
