use Rattle.std.proofs.Common.{◌≡◌, ◌∙◌, false, inr, refl, sym, ap, arith}
use Rattle.hierarchy.specs.Answer.{outcome_of}
use Rattle.insn.specs.declared.kinds.Kind.TheVariants.{Int}
use Rattle.frames.specs.VerificationType.{int}
use Rattle.type_numbers.specs.Decoding.{type_by}
use Rattle.rules.specs.Bodies.{method_view}
use Rattle.rules.specs.Rules.{accepts, is_outside}
use Rattle.rules.specs.TypingRules.{number}
use Rattle.rules.proofs.Settling.{not_less, not_no}
use Rattle.numbered_rules.specs.declared.expected.Expected.TheVariants.{Assignable}
use Rattle.numbered_rules.specs.Expected.{accepts_by}
use Rattle.numbered_rules.specs.RunningFrame.{held}
use Rattle.numbered_rules.proofs.Reading.{local_typed, count_no, count_done}
use Rattle.numbered_rules.proofs.local_rules.increments.Goals as goal

pub meets-answer-requires-clause-expected : goal.meets-answer-requires-clause-expected
meets-answer-requires-clause-expected g c = (int, record { number = refl; noted = tt })

pub returns-in-No : goal.returns-in-No
returns-in-No g c =
    let x = c.args.frames.now in
    let m = method_view c.args.method.now in
    let n = c.local.result in
    let inside : is_outside m c.args.local 1 ≡ false = not_less _ _ (omega arith) in
    let told : outcome_of c.meets-answer.result ≡ accepts x.types.classes (number Int) (type_by x.types n) = c.meets-answer.ensures ∙ ap (λ s. accepts_by s (Assignable 16777216) (type_by s n)) c.types.ensures in
    let at = local_typed x c.args.local c.from-place.result n c.from-place.ensures c.local.ensures.number in
    record { outcome = inr (count_no x.types.classes m c.args.local (held x) inside (ap (accepts x.types.classes (number Int)) at ∙ sym told ∙ ap outcome_of c.in-No.is)) }

pub returns-in_default : goal.returns-in_default
returns-in_default g c =
    let x = c.args.frames.now in
    let m = method_view c.args.method.now in
    let n = c.local.result in
    let inside : is_outside m c.args.local 1 ≡ false = not_less _ _ (omega arith) in
    let told : outcome_of c.meets-answer.result ≡ accepts x.types.classes (number Int) (type_by x.types n) = c.meets-answer.ensures ∙ ap (λ s. accepts_by s (Assignable 16777216) (type_by s n)) c.types.ensures in
    let at = local_typed x c.args.local c.from-place.result n c.from-place.ensures c.local.ensures.number in
    count_done x.types.classes m c.args.local (held x) inside (outcome_of c.meets-answer.result) c.judge_frame_after.result (told ∙ ap (accepts x.types.classes (number Int)) (sym at)) (not_no c.meets-answer.result c.in_default.not-No) c.judge_frame_after.ensures
