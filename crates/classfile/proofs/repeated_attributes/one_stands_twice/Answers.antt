use Rattle.std.proofs.Common.{rules, tests, ◌≡◌, ◌∙◌, Bool, map, ap}
use Rattle.std.specs.List.{list_any}
use Rattle.std.proofs.lemmas.Iterator.{YieldsList-from_slice}
use Rattle.std.proofs.lemmas.Iterator.Search.{any_from_yields_List}
use Rattle.classfile.specs.Layouts.{AttributeLayout}
use Rattle.classfile.specs.LayoutViews.{layout_view}
use Rattle.classfile.specs.NumberForm.{layout_stands_twice, numbers_stand_twice}
use Rattle.classfile.proofs.Tables.{any_viewed}
use Rattle.classfile.proofs.repeated_attributes.one_stands_twice.Goals as goal

pub returns : goal.returns
unfolding numbers_stand_twice
returns g c =
    let xs = c.layouts_in.result.now in
    let test : AttributeLayout → Bool = layout_stands_twice (map g.A.Tabled.attribute c.args.attributes.now) in
    let e : c.any.result ≡ list_any (λ a. test (layout_view a)) xs =
    any_from_yields_List (λ a. test (layout_view a)) _ _ c.any.result c.any.ensures.ran (YieldsList-from_slice xs cc) (λ x b q k. search (rules, tests)) in
    e ∙ any_viewed test layout_view xs ∙ ap (list_any test) c.layouts_in.ensures
