use Rattle.std.proofs.Common.{Some, true, false, refl, sym, subst, ◌∙◌}
use Rattle.rules.specs.Bodies.{method_view}
use Rattle.type_numbers.specs.Numbers.{IsNumberOf}
use Rattle.verify.specs.private.pass.ClassTypes.{receiver_type}
use Rattle.verify.proofs.numbered.ClassTyped.{receiver_by}
use Rattle.verify.proofs.pass.class_types.ClassTypes.receiver.Goals as goal

pub returns-then-begins_uninitialized : goal.returns-then-begins_uninitialized
returns-then-begins_uninitialized c = λ s k.
    let m = method_view c.args.method.now in
    subst (λ r. IsNumberOf s (Some 100663296) (receiver_type m r)) (sym (receiver_by m true c.if-method.false (sym c.if-begins_uninitialized.true ∙ c.begins_uninitialized.ensures)))
    (record { number = refl; noted = tt })

pub returns : goal.returns
returns c = λ s k.
    let m = method_view c.args.method.now in
    subst (λ r. IsNumberOf s (Some c.args.self.now.numbers.class) (receiver_type m r)) (sym (receiver_by m false c.if-method.false (sym c.if-begins_uninitialized.false ∙ c.begins_uninitialized.ensures)))
    k.numbers.class
