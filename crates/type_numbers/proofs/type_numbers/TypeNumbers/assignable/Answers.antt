use Rattle.std.proofs.Common.{◌∙◌, ap, subst, sym}
use Rattle.frames.specs.Assignable.{type_answer}
use Rattle.frames.proofs.Types.{type_itself}
use Rattle.type_numbers.specs.Numbers.{IsNumber}
use Rattle.type_numbers.specs.private.Deciding.{decided}
use Rattle.type_numbers.proofs.DecidedTypes.{number_decides}
use Rattle.type_numbers.proofs.Decoded.{one_type}
use Rattle.type_numbers.proofs.LawsOfNumbers.{one_number}
use Rattle.type_numbers.proofs.type_numbers.TypeNumbers.assignable.Goals as goal

pub returns-then-from-to : goal.returns-then-from-to
returns-then-from-to g c = λ t u a b.
    let s = c.args.self.now in
    let same = one_type s c.args.to t u (subst (λ n. IsNumber s n t) c.if-from-to.true a) b in
    sym (type_itself s.classes u) ∙ ap (λ v. type_answer s.classes v u) (sym same)

pub returns-in-Some : goal.returns-in-Some
returns-in-Some g c = λ t u a b.
    let s = c.args.self.now in
    let p = c.of.ensures in
    let q = c.of-2.ensures in
    let e = sym (λ i. decided (p.tag i) (p.dims i) (q.tag i) (q.dims i)) ∙ sym c.decided.ensures ∙ c.in-Some.is in
    c.yes_if.ensures
    ∙ sym (number_decides s c.args.from c.args.to t u c.in-Some.holds a b (λ f. c.if-from-to.false (one_number s c.args.from c.args.to u (subst (IsNumber s c.args.from) f a) b)) e)
