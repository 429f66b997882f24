use Rattle.std.proofs.Common.{rules, tests, ◌≡◌, ◌∙◌, Bool, position}
use Rattle.std.proofs.lemmas.Iterator.{YieldsList-from_slice}
use Rattle.std.proofs.lemmas.Iterator.Search.{position_from_yields_List}
use Rattle.classfile.specs.AttributeFault.{class_attribute_breaks}
use Rattle.classfile.specs.Values.{ClassAttribute}
use Rattle.classfile.specs.Views.{class_attribute_view}
use Rattle.classfile.proofs.Tables.{position_viewed}
use Rattle.classfile.proofs.attribute_fault.class_first_to_break.Goals as goal

pub returns : goal.returns
returns c =
    let xs = c.args.attributes.now in
    let test : ClassAttribute → Bool = class_attribute_breaks c.args.pool.now c.args.rule in
    let e : c.position.result ≡ position (λ a. test (class_attribute_view a)) xs =
    position_from_yields_List (λ a. test (class_attribute_view a)) _ _ c.position.result c.position.ensures.ran (YieldsList-from_slice xs cc) (λ x b q k. search (rules, tests)) in
    e ∙ position_viewed test class_attribute_view xs
