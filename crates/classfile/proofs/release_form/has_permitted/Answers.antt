use Rattle.std.proofs.Common.{rules, tests, ◌≡◌, ◌∙◌, Bool}
use Rattle.std.specs.List.{list_any}
use Rattle.std.proofs.lemmas.Iterator.{YieldsList-from_slice}
use Rattle.std.proofs.lemmas.Iterator.Search.{any_from_yields_List}
use Rattle.std.specs.Option.{is_some}
use Rattle.classfile.specs.ClassAttributes.{permitted_in}
use Rattle.classfile.specs.release.ClassRules.{has_permitted}
use Rattle.classfile.specs.Values.{ClassAttribute}
use Rattle.classfile.specs.Views.{class_attribute_view}
use Rattle.classfile.proofs.Tables.{any_viewed}
use Rattle.classfile.proofs.release_form.has_permitted.Goals as goal

pub returns : goal.returns
unfolding has_permitted
returns c =
    let xs = c.args.attributes.now in
    let test : ClassAttribute → Bool = λ a. is_some (permitted_in a) in
    let e : c.any.result ≡ list_any (λ a. test (class_attribute_view a)) xs =
    any_from_yields_List (λ a. test (class_attribute_view a)) _ _ c.any.result c.any.ensures.ran (YieldsList-from_slice xs cc) (λ x b q k. search (rules, tests)) in
    e ∙ any_viewed test class_attribute_view xs
