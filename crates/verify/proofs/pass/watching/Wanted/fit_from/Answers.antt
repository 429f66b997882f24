use Rattle.std.proofs.Common.{◌≡◌, ◌∙◌, length, refl, sym, ap, ap₂, subst, arith}
use Rattle.std.proofs.lemmas.Option.{slice_get_read}
use Rattle.hierarchy.specs.Answer.{outcome_of}
use Rattle.hierarchy.specs.declared.answer.Answer.TheVariants.{Yes}
use Rattle.frames.specs.Assignable.{type_answer}
use Rattle.frames.specs.VerificationType.{VerificationType}
use Rattle.type_numbers.specs.Numbers.{IsNumber}
use Rattle.type_numbers.proofs.Decoded.{number_read}
use Rattle.verify.proofs.numbered.Watched.{fit_more, fit_less}
use Rattle.verify.proofs.pass.watching.Wanted.fit_from.Goals as goal
use Rattle.verify.proofs.pass.watching.Wanted.fit_from.Goals.{in-Yes, in_default}

pub loop-i-preserved : goal.loop-i-preserved
loop-i-preserved g c =
    let s = c.args.frames.now.types in
    let numbers = c.args.self.now.numbers.items in
    let number = c.args.number in
    let one = c.index.result.now in
    let here = slice_get_read numbers (length numbers) c.loop-i.i one refl (omega (arith, c.loop-i-test.true, c.len-i-end.ensures, c.args.self.now.numbers.ok.0)) c.index.ensures in
    let from = c.requires.number in
    let to = c.requires.fitting.given c.loop-i.i one here in
    let told = subst (λ z. (a b : VerificationType) → IsNumber z number a → IsNumber z one b → outcome_of c.assignable-answer.result ≡ type_answer z.classes a b) c.types.ensures c.assignable-answer.ensures in
    let fits : c.assignable-answer.result ≡ Yes = elim c.match-matches.branch [
      | in-Yes w ↦ w.in-Yes.is
      | in_default w ↦ absurd (let not = w.matches-is in let is = c.if-not-matches.false in cc)
    ] in
    fit_more s number c.loop-i.i one numbers here
    (ap₂ (type_answer s.classes) (number_read s number from.0 from.1) (number_read s one to.0 to.1) ∙ sym (told from.0 to.0 from.1 to.1) ∙ ap outcome_of fits)
    c.loop-i.invariant

pub returns : goal.returns
returns g c = λ t.
    fit_less c.args.frames.now.types c.args.number c.loop-i.i (length c.args.self.now.numbers.items) c.args.self.now.numbers.items
    (omega (arith, c.loop-i-test.false, c.len-i-end.ensures, c.args.self.now.numbers.ok.0)) c.loop-i.invariant
