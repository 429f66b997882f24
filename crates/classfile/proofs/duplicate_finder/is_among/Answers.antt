use Rattle.std.proofs.Common.{rules, tests, ◌≡◌, ◌∙◌, Bool}
use Rattle.std.specs.List.{list_any}
use Rattle.std.proofs.lemmas.Iterator.{YieldsList-from_slice}
use Rattle.std.proofs.lemmas.Iterator.Search.{any_from_yields_List}
use Rattle.pool.specs.Views.{name_and_type_view}
use Rattle.classfile.specs.MemberForm.{are_same, on_member, is_among}
use Rattle.classfile.specs.Values.{Member}
use Rattle.classfile.specs.Views.{member_view}
use Rattle.classfile.proofs.Tables.{any_viewed}
use Rattle.classfile.proofs.duplicate_finder.is_among.Goals as goal

pub returns : goal.returns
unfolding is_among
returns c =
    let xs = c.args.members.now in
    let test : Member → Bool = λ m. on_member c.args.pool.now m (are_same (name_and_type_view c.args.texts)) in
    let e : c.any.result ≡ list_any (λ a. test (member_view a)) xs =
    any_from_yields_List (λ a. test (member_view a)) _ _ c.any.result c.any.ensures.ran (YieldsList-from_slice xs cc) (λ x b q k. search (rules, tests)) in
    e ∙ any_viewed test member_view xs
