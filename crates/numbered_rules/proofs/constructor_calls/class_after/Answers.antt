use Rattle.std.proofs.Common.{sym, subst}
use Rattle.frames.specs.VerificationType.{class as class_of}
use Rattle.type_numbers.specs.Numbers.{IsNumber}
use Rattle.numbered_rules.proofs.Objects.{after_own, after_other}
use Rattle.numbered_rules.proofs.constructor_calls.class_after.Goals as goal

pub returns-then-object-eq-OWN_OBJECT : goal.returns-then-object-eq-OWN_OBJECT
returns-then-object-eq-OWN_OBJECT c = λ s m name t numbers class object.
    subst (λ z. IsNumber s c.args.numbers.now.class (class_of z)) (sym (after_own s c.args.object t object m name c.if-object-eq-OWN_OBJECT.true)) numbers.class

pub returns-else-object-eq-OWN_OBJECT : goal.returns-else-object-eq-OWN_OBJECT
returns-else-object-eq-OWN_OBJECT c = λ s m name t numbers class object.
    subst (λ z. IsNumber s c.args.class (class_of z)) (sym (after_other s c.args.object t object m name c.if-object-eq-OWN_OBJECT.false)) class
