use Rattle.std.proofs.Common.{◌≡◌, ◌∷◌, ◌+◌, ◌∙◌, ℕ, Box, Global, List, Some, refl, sym, ap, map, drop}
use Rattle.std.specs.Prelude.{slice_get}
use Rattle.classfile.specs.declared.attribute.Attribute.{Attribute as Own}
use Rattle.classfile.specs.declared.attribute.Attribute.TheVariants as attributes
use Rattle.classfile.specs.declared.code.CodeAttr.{CodeAttr}
use Rattle.classfile.specs.Values.{Attribute}
use Rattle.classfile.specs.Methods.{code_of}
use Rattle.classfile.specs.Views.{attribute_view}
use Rattle.classfile.proofs.Places.{viewed_at}
use Rattle.classfile.proofs.MethodLaws.{code_from}
use Rattle.classfile.proofs.code_method.code_of.Goals as goal

no_code : (x : Own) → ((name : ℕ) (code : Box CodeAttr Global) → x ≡ attributes.Code name code → ⊥) → (others : List Attribute)
    → code_of (attribute_view x ∷ others) ≡ code_of others
no_code (attributes.Code name code) not others = absurd (not name code refl)
no_code (attributes.Numbers name numbers) not others = refl
no_code (attributes.Raw name body) not others = refl

pub returns-in-Code : goal.returns-in-Code
returns-in-Code c =
    let xs = map attribute_view c.args.attributes.now in
    let at = c.loop-attribute.attribute-index in
    let a : Attribute = attribute_view c.attribute-item.result in
    let here : slice_get xs at ≡ Some a =
    viewed_at attribute_view c.args.attributes.now at c.attribute-item.result c.loop-attribute-test.true c.attribute-item.is in
    rw c.deref.ensures
    (sym (c.loop-attribute.invariant ∙ code_from xs at a here ∙ ap (λ x. code_of (attribute_view x ∷ drop (at + 1) xs)) c.in-Code.is))

pub loop-attribute-preserved : goal.loop-attribute-preserved
loop-attribute-preserved c =
    let xs = map attribute_view c.args.attributes.now in
    let at = c.loop-attribute.attribute-index in
    let a : Attribute = attribute_view c.attribute-item.result in
    let here : slice_get xs at ≡ Some a =
    viewed_at attribute_view c.args.attributes.now at c.attribute-item.result c.loop-attribute-test.true c.attribute-item.is in
    c.loop-attribute.invariant ∙ code_from xs at a here ∙ no_code c.attribute-item.result c.in_default.not-Code (drop (at + 1) xs)
