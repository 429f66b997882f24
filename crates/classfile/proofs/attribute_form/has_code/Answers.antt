use Rattle.std.proofs.Common.{rules, tests, ◌≡◌, ◌∙◌, Bool}
use Rattle.std.specs.List.{list_any}
use Rattle.std.proofs.lemmas.Iterator.{YieldsList-from_slice}
use Rattle.std.proofs.lemmas.Iterator.Search.{any_from_yields_List}
use Rattle.classfile.specs.AttributeForm.{is_of_parts}
use Rattle.classfile.specs.Values.{Attribute}
use Rattle.classfile.specs.MemberForm.{has_code}
use Rattle.classfile.specs.Views.{attribute_view}
use Rattle.classfile.proofs.Tables.{any_viewed}
use Rattle.classfile.proofs.attribute_form.has_code.Goals as goal

pub returns : goal.returns
unfolding has_code
returns c =
    let xs = c.args.attributes.now in
    let test : Attribute → Bool = is_of_parts in
    let e : c.any.result ≡ list_any (λ a. test (attribute_view a)) xs =
    any_from_yields_List (λ a. test (attribute_view a)) _ _ c.any.result c.any.ensures.ran (YieldsList-from_slice xs cc) (λ x b q k. search (rules, tests)) in
    e ∙ any_viewed test attribute_view xs
