use Rattle.std.proofs.Common.{rules, tests, ◌≡◌, ◌∙◌, Bool, ◌||◌, map}
use Rattle.std.specs.List.{list_any}
use Rattle.std.proofs.lemmas.Iterator.{YieldsList-from_slice}
use Rattle.std.proofs.lemmas.Iterator.Search.{any_from_yields_List}
use Rattle.classfile.specs.RecordForm.{component_has_bad, component_has_other, components_have_bad, components_have_other}
use Rattle.classfile.specs.Values.{Component}
use Rattle.classfile.specs.Views.{component_view}
use Rattle.classfile.proofs.Tables.{any_viewed, any_either}
use Rattle.classfile.proofs.record_form.components_have_fault.Goals as goal

pub returns : goal.returns
unfolding components_have_bad components_have_other
returns c =
    let xs = c.args.components.now in
    let bad : Component → Bool = component_has_bad c.args.pool.now in
    let other : Component → Bool = component_has_other c.args.pool.now in
    let e : c.any.result ≡ list_any (λ a. bad (component_view a) || other (component_view a)) xs =
    any_from_yields_List (λ a. bad (component_view a) || other (component_view a)) _ _ c.any.result c.any.ensures.ran (YieldsList-from_slice xs cc) (λ x b q k. search (rules, tests)) in
    e ∙ any_viewed (λ a. bad a || other a) component_view xs ∙ any_either bad other (map component_view xs)
