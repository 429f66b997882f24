use Rattle.std.proofs.Common.{rules, tests, ◌≡◌, ◌∙◌, Bool, ◌||◌, map}
use Rattle.std.specs.List.{list_any}
use Rattle.std.proofs.lemmas.Iterator.{YieldsList-from_slice}
use Rattle.std.proofs.lemmas.Iterator.Search.{any_from_yields_List}
use Rattle.classfile.specs.RecordForm.{class_attribute_has_bad, class_attribute_has_other, class_attributes_have_bad, class_attributes_have_other}
use Rattle.classfile.specs.Values.{ClassAttribute}
use Rattle.classfile.specs.Views.{class_attribute_view}
use Rattle.classfile.proofs.Tables.{any_viewed, any_either}
use Rattle.classfile.proofs.record_form.class_attributes_have_fault.Goals as goal

pub returns : goal.returns
unfolding class_attributes_have_bad class_attributes_have_other
returns c =
    let xs = c.args.attributes.now in
    let bad : ClassAttribute → Bool = class_attribute_has_bad c.args.pool.now in
    let other : ClassAttribute → Bool = class_attribute_has_other c.args.pool.now in
    let e : c.any.result ≡ list_any (λ a. bad (class_attribute_view a) || other (class_attribute_view a)) xs =
    any_from_yields_List (λ a. bad (class_attribute_view a) || other (class_attribute_view a)) _ _ c.any.result c.any.ensures.ran (YieldsList-from_slice xs cc) (λ x b q k. search (rules, tests)) in
    e ∙ any_viewed (λ a. bad a || other a) class_attribute_view xs ∙ any_either bad other (map class_attribute_view xs)
