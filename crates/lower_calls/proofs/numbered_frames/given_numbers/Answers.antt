use Rattle.frames.specs.VerificationType.{type_of, int}
use Rattle.type_numbers.proofs.LawsOfNumbers.{number_stays}
use Rattle.lower_calls.proofs.numbered_frames.given_numbers.Goals as goal

pub returns-clause-int : goal.returns-clause-int
returns-clause-int g c =
    let first = c.number.new.self in
    let second = c.number-2.new.self in
    (int, number_stays second c.number-3.new.self c.number-3.ensures.kept c.in_ok-int.int int (number_stays first second c.number-2.ensures.kept c.in_ok-int.int int c.in_ok-int.ensures.given))

pub returns-clause-ours : goal.returns-clause-ours
returns-clause-ours g c =
    let t = type_of c.args.pair.0 in
    (t, number_stays c.number-2.new.self c.number-3.new.self c.number-3.ensures.kept c.in_ok-ours.ours t c.in_ok-ours.ensures.given)
