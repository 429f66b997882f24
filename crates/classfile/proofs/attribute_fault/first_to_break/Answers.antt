use Rattle.std.proofs.Common.{rules, tests, ◌≡◌, ◌∙◌, Bool, position}
use Rattle.std.proofs.lemmas.Iterator.{YieldsList-from_slice}
use Rattle.std.proofs.lemmas.Iterator.Search.{position_from_yields_List}
use Rattle.classfile.specs.AttributeFault.{attribute_breaks}
use Rattle.classfile.specs.Values.{Attribute}
use Rattle.classfile.specs.Views.{attribute_view}
use Rattle.classfile.proofs.Tables.{position_viewed}
use Rattle.classfile.proofs.attribute_fault.first_to_break.Goals as goal

pub returns : goal.returns
returns c =
    let xs = c.args.attributes.now in
    let test : Attribute → Bool = attribute_breaks c.args.pool.now c.args.rule in
    let e : c.position.result ≡ position (λ a. test (attribute_view a)) xs =
    position_from_yields_List (λ a. test (attribute_view a)) _ _ c.position.result c.position.ensures.ran (YieldsList-from_slice xs cc) (λ x b q k. search (rules, tests)) in
    e ∙ position_viewed test attribute_view xs
