use Rattle.std.proofs.Common.{ap, subst, sym}
use Rattle.std.proofs.lemmas.List.Elements.{All-nil}
use Rattle.std.specs.List.{All, list_any}
use Rattle.classfile.specs.Seen.{AreBothNumbers, is_pair_of}
use Rattle.classfile.specs.MemberForm.{is_among}
use Rattle.classfile.proofs.member_keys.MemberKeys.new.Goals as goal

pub returns : goal.returns
unfolding is_among
returns c = record {
  numbers = c.in_ok-new.ensures;
  pairs = subst (All (AreBothNumbers c.args.pool.now c.in_ok-new.field-0)) (sym c.new-2.ensures.empty) (All-nil (AreBothNumbers c.args.pool.now c.in_ok-new.field-0));
  exactly = λ x. ap (list_any (is_pair_of c.args.pool.now x)) c.new-2.ensures.empty;
}
