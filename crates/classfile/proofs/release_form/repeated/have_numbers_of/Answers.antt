use Rattle.std.proofs.Common.{rules, tests, ◌≡◌, ◌∙◌, Bool}
use Rattle.std.specs.List.{list_any}
use Rattle.std.proofs.lemmas.Iterator.{YieldsList-from_slice}
use Rattle.std.proofs.lemmas.Iterator.Search.{any_from_yields_List}
use Rattle.classfile.specs.release.Attributes.{is_numbers_of, have_numbers_of}
use Rattle.classfile.specs.NumberForm.{on_numbers}
use Rattle.classfile.specs.Values.{ClassAttribute}
use Rattle.classfile.specs.Views.{class_attribute_view}
use Rattle.classfile.proofs.Tables.{any_viewed}
use Rattle.classfile.proofs.release_form.repeated.have_numbers_of.Goals as goal

pub returns : goal.returns
unfolding have_numbers_of
returns c =
    let xs = c.args.attributes.now in
    let test : ClassAttribute → Bool = on_numbers (is_numbers_of c.args.name.now) in
    let e : c.any.result ≡ list_any (λ a. test (class_attribute_view a)) xs =
    any_from_yields_List (λ a. test (class_attribute_view a)) _ _ c.any.result c.any.ensures.ran (YieldsList-from_slice xs cc) (λ x b q k. search (rules, tests)) in
    e ∙ any_viewed test class_attribute_view xs
