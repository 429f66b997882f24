use Rattle.std.proofs.Common.{map, subst}
use Rattle.frames.specs.VerificationType.{type_of}
use Rattle.type_numbers.specs.MethodNumbers.{AreNumbers}
use Rattle.type_numbers.proofs.LawsOfNumbers.{extends_on}
use Rattle.type_numbers.proofs.MethodReadings.{numbers_on}
use Rattle.verify.proofs.applying.number.Goals as goal

pub returns-clause-numbers : goal.returns-clause-numbers
returns-clause-numbers g c =
    let f = c.args.frame.now in
    let s1 = c.numbers_of.new.types in
    let s2 = c.numbers_of-2.new.types in
    let s3 = c.new.new.types in
    let later = extends_on s1 s2 s3 c.numbers_of-2.ensures.kept c.new.ensures.kept in
    let locals = c.in_ok-locals.locals.items in
    let stack = c.in_ok-stack.stack.items in
    record {
      class = c.in_ok-class.ensures.given;
      locals = numbers_on s1 s3 later locals (map type_of f.locals.items) (subst (λ ts. AreNumbers s1 locals (map type_of ts)) c.deref.ensures.value c.in_ok-locals.ensures.numbers);
      stack = numbers_on s2 s3 c.new.ensures.kept stack (map type_of f.stack.items) (subst (λ ts. AreNumbers s2 stack (map type_of ts)) c.deref-2.ensures.value c.in_ok-stack.ensures.numbers);
    }
