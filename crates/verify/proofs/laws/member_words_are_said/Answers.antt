use Rattle.verify.proofs.MemberWords.{packages_are_said, guards_are_said, constructors_are_said, interfaces_are_said, bootstraps_are_said}
use Rattle.verify.proofs.laws.member_words_are_said.Goals as goal

pub returns-clause-packages : goal.returns-clause-packages
returns-clause-packages c = packages_are_said

pub returns-clause-guards : goal.returns-clause-guards
returns-clause-guards c = guards_are_said

pub returns-clause-constructors : goal.returns-clause-constructors
returns-clause-constructors c = constructors_are_said

pub returns-clause-interfaces : goal.returns-clause-interfaces
returns-clause-interfaces c = interfaces_are_said

pub returns-clause-bootstraps : goal.returns-clause-bootstraps
returns-clause-bootstraps c = bootstraps_are_said
