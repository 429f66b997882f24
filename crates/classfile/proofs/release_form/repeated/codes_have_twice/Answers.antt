use Rattle.std.proofs.Common.{rules, tests, ◌≡◌, ◌∙◌, Bool}
use Rattle.std.specs.List.{list_any}
use Rattle.std.proofs.lemmas.Iterator.{YieldsList-from_slice}
use Rattle.std.proofs.lemmas.Iterator.Search.{any_from_yields_List}
use Rattle.classfile.specs.release.Attributes.{code_has_twice, codes_have_twice}
use Rattle.classfile.specs.AttributeForm.{on_body}
use Rattle.classfile.specs.Values.{Attribute}
use Rattle.classfile.specs.Views.{attribute_view}
use Rattle.classfile.proofs.Tables.{any_viewed}
use Rattle.classfile.proofs.release_form.repeated.codes_have_twice.Goals as goal

pub returns : goal.returns
unfolding codes_have_twice
returns c =
    let xs = c.args.attributes.now in
    let test : Attribute → Bool = on_body (code_has_twice c.args.major c.args.pool.now) in
    let e : c.any.result ≡ list_any (λ a. test (attribute_view a)) xs =
    any_from_yields_List (λ a. test (attribute_view a)) _ _ c.any.result c.any.ensures.ran (YieldsList-from_slice xs cc) (λ x b q k. search (rules, tests)) in
    e ∙ any_viewed test attribute_view xs
