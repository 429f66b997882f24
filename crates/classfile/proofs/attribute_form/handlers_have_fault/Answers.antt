use Rattle.std.proofs.Common.{rules, tests, ◌≡◌, ◌∙◌, Bool, ◌||◌, map}
use Rattle.std.specs.List.{list_any}
use Rattle.std.proofs.lemmas.Iterator.{YieldsList-from_slice}
use Rattle.std.proofs.lemmas.Iterator.Search.{any_from_yields_List}
use Rattle.classfile.specs.AttributeForm.{handlers_have_bad, handlers_have_other}
use Rattle.classfile.specs.Indices.{is_bad_unless_zero, is_other}
use Rattle.classfile.specs.declared.indices.ConstantKind.TheVariants as kinds
use Rattle.classfile.specs.Values.{Handler}
use Rattle.classfile.specs.Views.{handler_view}
use Rattle.classfile.proofs.Tables.{any_viewed, any_either}
use Rattle.classfile.proofs.attribute_form.handlers_have_fault.Goals as goal

pub returns : goal.returns
unfolding handlers_have_bad handlers_have_other
returns c =
    let xs = c.args.handlers.now in
    let bad : Handler → Bool = λ h. is_bad_unless_zero c.args.pool.now h.catch_type in
    let other : Handler → Bool = λ h. is_other c.args.pool.now kinds.Class h.catch_type in
    let e : c.any.result ≡ list_any (λ a. bad (handler_view a) || other (handler_view a)) xs =
    any_from_yields_List (λ a. bad (handler_view a) || other (handler_view a)) _ _ c.any.result c.any.ensures.ran (YieldsList-from_slice xs cc) (λ x b q k. search (rules, tests)) in
    e ∙ any_viewed (λ a. bad a || other a) handler_view xs ∙ any_either bad other (map handler_view xs)
