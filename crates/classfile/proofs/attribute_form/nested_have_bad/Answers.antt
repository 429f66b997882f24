use Rattle.std.proofs.Common.{rules, tests, ◌≡◌, ◌∙◌, Bool}
use Rattle.std.specs.List.{list_any}
use Rattle.std.proofs.lemmas.Iterator.{YieldsList-from_slice}
use Rattle.std.proofs.lemmas.Iterator.Search.{any_from_yields_List}
use Rattle.classfile.specs.AttributeForm.{head_has_bad, nested_have_bad}
use Rattle.classfile.specs.Values.{Nested}
use Rattle.classfile.specs.Views.{nested_view}
use Rattle.classfile.proofs.Tables.{any_viewed}
use Rattle.classfile.proofs.attribute_form.nested_have_bad.Goals as goal

pub returns : goal.returns
unfolding nested_have_bad
returns c =
    let xs = c.args.attributes.now in
    let test : Nested → Bool = head_has_bad c.args.pool.now in
    let e : c.any.result ≡ list_any (λ a. test (nested_view a)) xs =
    any_from_yields_List (λ a. test (nested_view a)) _ _ c.any.result c.any.ensures.ran (YieldsList-from_slice xs cc) (λ x b q k. search (rules, tests)) in
    e ∙ any_viewed test nested_view xs
