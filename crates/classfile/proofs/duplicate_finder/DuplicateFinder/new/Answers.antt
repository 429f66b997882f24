use Rattle.std.proofs.Common.{false, true, ◌≡◌}
use Rattle.classfile.specs.MemberForm.{is_among}
use Rattle.classfile.proofs.duplicate_finder.DuplicateFinder.new.Goals as goal

pub returns-then-members-le-FEW : goal.returns-then-members-le-FEW
unfolding is_among
returns-then-members-le-FEW c = λ x (h : false ≡ true). absurd cc
