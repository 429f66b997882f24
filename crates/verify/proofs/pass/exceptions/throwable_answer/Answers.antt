use Rattle.std.proofs.Common.{rules, ◌≡◌, sym, subst}
use Rattle.names.specs.StandardNames.{throwable_name}
use Rattle.hierarchy.specs.Answer.{outcome_of}
use Rattle.frames.specs.Assignable.{type_answer}
use Rattle.frames.specs.Slots.{to_reference}
use Rattle.frames.specs.VerificationType.{class}
use Rattle.type_numbers.specs.Numbers.{Numbering, IsNumber}
use Rattle.verify.proofs.pass.exceptions.throwable_answer.Goals as goal

pub returns : goal.returns
returns g c = λ e is.
    let caught = subst (λ (z : Numbering). IsNumber z c.args.entry.now.caught (to_reference e.caught)) (sym c.types.ensures) is.caught in
    let throwable = subst (λ (z : Numbering). IsNumber z c.args.body.now.numbers.throwable (class throwable_name)) (sym c.types.ensures) c.requires.numbers.throwable in
    subst (λ (z : Numbering). outcome_of c.assignable.result ≡ type_answer z.classes (to_reference e.caught) (class throwable_name)) c.types.ensures (search (rules, c.assignable.ensures, caught, throwable))
