use Rattle.std.proofs.Common.{sym, ap, not, eq-eqb, arith, get_or}
use Rattle.std.proofs.lemmas.List.Sums.{prefix_len_is}
use Rattle.type_numbers.specs.private.SpelledTypes.{is_other}
use Rattle.type_numbers.proofs.spelled_types.before_semicolon.Goals as goal

pub returns-else-bytes-at-ne59-clause-place : goal.returns-else-bytes-at-ne59-clause-place
returns-else-bytes-at-ne59-clause-place c =
    let i = c.loop-at.invariant in
    sym (prefix_len_is is_other c.args.bytes.now c.loop-at.at 0 i.within (λ k l. i.others k (omega arith) l) (λ l. ap not (eq-eqb (get_or c.args.bytes.now c.loop-at.at 0) 59 c.if-bytes-at-ne59.false)))

pub returns-after-loop-at-clause-place : goal.returns-after-loop-at-clause-place
returns-after-loop-at-clause-place c =
    let i = c.loop-at.invariant in
    let done = c.loop-at-test.false in
    sym (prefix_len_is is_other c.args.bytes.now c.loop-at.at 0 i.within (λ k l. i.others k (omega arith) l) (λ l. absurd (omega (arith, l, done))))
