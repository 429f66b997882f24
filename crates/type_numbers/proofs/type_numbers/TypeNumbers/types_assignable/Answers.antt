use Rattle.std.proofs.Common.{◌∙◌}
use Rattle.frames.specs.Assignable.{type_answer}
use Rattle.frames.specs.VerificationType.{type_of}
use Rattle.type_numbers.proofs.Decoded.{one_type}
use Rattle.type_numbers.proofs.type_numbers.TypeNumbers.types_assignable.Goals as goal

pub returns : goal.returns
returns g c = λ t u a b.
    let s = c.args.self.now in
    let first = one_type s c.args.from (type_of c.vtype.result) t c.vtype.ensures a in
    let second = one_type s c.args.to (type_of c.vtype-2.result) u c.vtype-2.ensures b in
    c.assignable.ensures ∙ (λ i. type_answer (c.self.view_is i).classes (first i) (second i))
