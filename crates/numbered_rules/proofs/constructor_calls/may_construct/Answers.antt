use Rattle.std.proofs.Common.{◌∙◌, ◌%◌, sym, ap}
use Rattle.rules.specs.Bodies.{method_view}
use Rattle.rules.specs.Rules.{may_construct}
use Rattle.rules.specs.Table.{class_made_at}
use Rattle.numbered_rules.proofs.Objects.{own_type, made_type, may_not}
use Rattle.numbered_rules.proofs.constructor_calls.may_construct.Goals as goal

pub returns-then-object-eq-OWN_OBJECT : goal.returns-then-object-eq-OWN_OBJECT
returns-then-object-eq-OWN_OBJECT c = λ s name t numbers class object.
    let m = method_view c.args.body.now.method.now in
    c.is_class_or_superclass.ensures s m name numbers class ∙ sym (ap (may_construct m name) (own_type s c.args.object t object c.if-object-eq-OWN_OBJECT.true))

pub returns-then-not-is_uninitialized : goal.returns-then-not-is_uninitialized
returns-then-not-is_uninitialized c = λ s name t numbers class object.
    sym (may_not s c.args.object t object (method_view c.args.body.now.method.now) name (sym c.is_uninitialized.ensures ∙ c.if-not-is_uninitialized.true))

pub returns : goal.returns
returns c = λ s name t numbers class object.
    let m = method_view c.args.body.now.method.now in
    let at = c.args.object % 65536 in
    let made = made_type s c.args.object t object (sym c.is_uninitialized.ensures ∙ c.if-not-is_uninitialized.false) c.if-object-eq-OWN_OBJECT.false in
    c.is_class.ensures s (class_made_at m at) name (c.class_made_at.ensures s numbers.table) class ∙ sym (ap (may_construct m name) made)
