use Rattle.hierarchy.proofs.Numbering.{no_numbers, no_number}
use Rattle.hierarchy.proofs.member_numbers.MemberNumbers.new.Goals as goal

pub returns-clause-good : goal.returns-clause-good
returns-clause-good c = no_numbers c.new.result c.new-2.result c.new.ensures.empty c.new-2.ensures.empty

pub returns-clause-none : goal.returns-clause-none
returns-clause-none c = no_number c.new.result c.new-2.result c.new.ensures.empty c.new-2.ensures.empty
