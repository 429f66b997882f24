use Rattle.std.proofs.Common.{rules, tests, ◌≡◌, ◌∙◌, Bool, map, ap}
use Rattle.std.specs.List.{list_any}
use Rattle.std.proofs.lemmas.Iterator.{YieldsList-from_slice}
use Rattle.std.proofs.lemmas.Iterator.Search.{any_from_yields_List}
use Rattle.classfile.specs.release.Attributes.{Single, single_stands_twice, singles_stand_twice}
use Rattle.classfile.specs.release.Views.{single_view}
use Rattle.classfile.proofs.Tables.{any_viewed}
use Rattle.classfile.proofs.release_form.repeated.any_stands_twice.Goals as goal

pub returns : goal.returns
unfolding singles_stand_twice
returns g c =
    let xs = c.singles_in.result.now in
    let test : Single → Bool = single_stands_twice c.args.major c.args.pool.now (map g.A.Tabled.attribute c.args.attributes.now) in
    let e : c.any.result ≡ list_any (λ a. test (single_view a)) xs =
    any_from_yields_List (λ a. test (single_view a)) _ _ c.any.result c.any.ensures.ran (YieldsList-from_slice xs cc) (λ x b q k. search (rules, tests)) in
    e ∙ any_viewed test single_view xs ∙ ap (list_any test) c.singles_in.ensures
