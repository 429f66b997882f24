use Rattle.std.proofs.Common.{subst}
use Rattle.names.specs.Types.{type_of}
use Rattle.type_numbers.specs.Numbers.{IsNumber}
use Rattle.type_numbers.proofs.LawsOfNumbers.{extends_itself, extends_on}
use Rattle.type_numbers.proofs.PushedTypes.{all_pushed, next_pushed, none_pushed}
use Rattle.type_numbers.proofs.method_numbers.push_numbers.Goals as goal

pub types-init : goal.types-init
types-init g c = record {
  kept = extends_itself c.args.numbers.now;
  pushed = λ types rest h. none_pushed c.args.numbers.now c.args.row.now.items c.args.bytes.now types rest h;
}

pub returns-in-None-clause-pushed : goal.returns-in-None-clause-pushed
returns-in-None-clause-pushed g c = λ types rest h.
    all_pushed c.types.numbers c.args.row.now.items c.types.row.items c.types.rest.now types rest (c.types.invariant.pushed types rest h) (λ t others b. c.in-None.ensures.named t others b)

pub returns-in_err-number-in-Some-clause-kept : goal.returns-in_err-number-in-Some-clause-kept
returns-in_err-number-in-Some-clause-kept g c = extends_on c.args.numbers.now c.types.numbers c.number.new.self c.types.invariant.kept c.number.ensures.kept

pub returns-in_err-push-in-Some-clause-kept : goal.returns-in_err-push-in-Some-clause-kept
returns-in_err-push-in-Some-clause-kept g c = extends_on c.args.numbers.now c.types.numbers c.number.new.self c.types.invariant.kept c.number.ensures.kept

pub types-preserved : goal.types-preserved
types-preserved g c = record {
  kept = extends_on c.args.numbers.now c.types.numbers c.number.new.self c.types.invariant.kept c.number.ensures.kept;
  pushed = λ types rest h.
      next_pushed c.types.numbers c.number.new.self c.number.ensures.kept c.args.row.now.items c.types.row.items c.types.rest.now types rest (c.types.invariant.pushed types rest h)
      (type_of c.in-Some.parameter) c.in-Some.behind.now (λ t others b. c.in-Some.ensures.named t others b) (λ others e. absurd (let none = c.in-Some.ensures.none others e in cc))
      c.in_ok-number-in-Some.number (subst (IsNumber c.number.new.self c.in_ok-number-in-Some.number) c.held_by.ensures c.in_ok-number-in-Some.ensures.given) c.push.new.self.items c.in_ok-push-in-Some.ensures.items;
}
