use Rattle.std.proofs.Common.{◌∙◌, ◌||◌, Some, sym, ap}
use Rattle.classfile.specs.Methods.{is_name}
use Rattle.numbered_rules.proofs.constructor_calls.is_class_or_superclass.Goals as goal

pub returns-then-is_class : goal.returns-then-is_class
returns-then-is_class c = λ s m name numbers class.
    let own = c.is_class.ensures s (Some m.class) name numbers.class class in
    c.if-is_class.true ∙ sym (ap (λ b. b || is_name m.superclass name) (sym own ∙ c.if-is_class.true))

pub returns-else-is_class : goal.returns-else-is_class
returns-else-is_class c = λ s m name numbers class.
    let own = c.is_class.ensures s (Some m.class) name numbers.class class in
    c.is_class-else-is_class.ensures s m.superclass name numbers.superclass class ∙ sym (ap (λ b. b || is_name m.superclass name) (sym own ∙ c.if-is_class.false))
