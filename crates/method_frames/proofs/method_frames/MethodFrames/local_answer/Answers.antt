use Rattle.std.proofs.Common.{◌≡◌, ◌∙◌, ap, ap₂, sym, subst}
use Rattle.hierarchy.specs.Answer.{outcome_of}
use Rattle.frames.specs.Assignable.{type_answer}
use Rattle.frames.specs.VerificationType.{VerificationType}
use Rattle.type_numbers.specs.Numbers.{IsNumber}
use Rattle.type_numbers.specs.Decoding.{type_by}
use Rattle.type_numbers.proofs.Decoded.{number_read}
use Rattle.method_frames.proofs.method_frames.MethodFrames.local_answer.Goals as goal

pub returns : goal.returns
returns g c =
    let s = c.args.self.now.types in
    let wanted = c.declared_local-wanted.result in
    let from = c.requires.given in
    let to = c.declared_local-wanted.ensures.given in
    let told = subst (λ z. (a b : VerificationType) → IsNumber z c.args.number a → IsNumber z wanted b → outcome_of c.assignable.result ≡ type_answer z.classes a b) c.types.ensures c.assignable.ensures in
    told from.0 to.0 from.1 to.1
    ∙ ap₂ (type_answer s.classes) (sym (number_read s c.args.number from.0 from.1)) (sym (number_read s wanted to.0 to.1))
    ∙ ap (λ m. type_answer s.classes (type_by s c.args.number) (type_by s m)) c.declared_local-wanted.ensures.number
