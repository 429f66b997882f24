use Rattle.std.proofs.Common.{rules, tests, ◌≡◌, ◌∙◌, Bool}
use Rattle.std.specs.List.{list_any}
use Rattle.std.proofs.lemmas.Iterator.{YieldsList-from_slice}
use Rattle.std.proofs.lemmas.Iterator.Search.{any_from_yields_List}
use Rattle.classfile.specs.release.Attributes.{has_other_value, have_other_value}
use Rattle.classfile.specs.NumberForm.{on_numbers}
use Rattle.classfile.specs.Values.{Attribute}
use Rattle.classfile.specs.Views.{attribute_view}
use Rattle.classfile.proofs.Tables.{any_viewed}
use Rattle.classfile.proofs.release_form.values.have_other_value.Goals as goal

pub returns : goal.returns
unfolding have_other_value
returns c =
    let xs = c.args.attributes.now in
    let test : Attribute → Bool = on_numbers (has_other_value c.args.pool.now c.args.descriptor.bytes.now) in
    let e : c.any.result ≡ list_any (λ a. test (attribute_view a)) xs =
    any_from_yields_List (λ a. test (attribute_view a)) _ _ c.any.result c.any.ensures.ran (YieldsList-from_slice xs cc) (λ x b q k. search (rules, tests)) in
    e ∙ any_viewed test attribute_view xs
