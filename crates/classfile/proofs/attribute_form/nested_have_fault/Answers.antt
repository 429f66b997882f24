use Rattle.std.proofs.Common.{rules, tests, ◌≡◌, ◌∙◌, Bool, ◌||◌, map}
use Rattle.std.specs.List.{list_any}
use Rattle.std.proofs.lemmas.Iterator.{YieldsList-from_slice}
use Rattle.std.proofs.lemmas.Iterator.Search.{any_from_yields_List}
use Rattle.classfile.specs.AttributeForm.{head_has_bad, head_has_other, nested_have_bad, nested_have_other}
use Rattle.classfile.specs.Values.{Nested}
use Rattle.classfile.specs.Views.{nested_view}
use Rattle.classfile.proofs.Tables.{any_viewed, any_either}
use Rattle.classfile.proofs.attribute_form.nested_have_fault.Goals as goal

pub returns : goal.returns
unfolding nested_have_bad nested_have_other
returns c =
    let xs = c.args.attributes.now in
    let bad : Nested → Bool = head_has_bad c.args.pool.now in
    let other : Nested → Bool = head_has_other c.args.pool.now in
    let e : c.any.result ≡ list_any (λ a. bad (nested_view a) || other (nested_view a)) xs =
    any_from_yields_List (λ a. bad (nested_view a) || other (nested_view a)) _ _ c.any.result c.any.ensures.ran (YieldsList-from_slice xs cc) (λ x b q k. search (rules, tests)) in
    e ∙ any_viewed (λ a. bad a || other a) nested_view xs ∙ any_either bad other (map nested_view xs)
