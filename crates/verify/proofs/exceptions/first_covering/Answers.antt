use Rattle.std.proofs.Common.{◌≡◌, true, false, sym, ◌∙◌, ap, arith}
use Rattle.std.proofs.lemmas.Bool.Decides.{nat_tests}
use Rattle.std.proofs.lemmas.List.{drop_all}
use Rattle.classfile.specs.Methods.{covers}
use Rattle.verify.specs.DifferencesAt.{first_covering}
use Rattle.verify.proofs.EntriesAtFault.{covering_here, covering_later}
use Rattle.verify.proofs.numbered.TableEntries.{has_entry_by, as_many_entries}
use Rattle.verify.proofs.exceptions.first_covering.Goals as goal

pub returns-then-at-entry : goal.returns-then-at-entry
returns-then-at-entry c = λ s es are.
    let i = c.loop-place.place in
    let one = has_entry_by s es c.args.entries.now i are c.loop-place-test.true in
    let covered : covers one.entry c.args.at ≡ true = grind (arith, nat_tests, one.is.from, one.is.to, c.if-entry-at.true, c.if-at-entry.true) in
    sym (c.loop-place.invariant s es are ∙ covering_here es i one.entry one.here c.args.at covered)

pub loop-place-preserved : goal.loop-place-preserved
loop-place-preserved c = λ s es are.
    let i = c.loop-place.place in
    let one = has_entry_by s es c.args.entries.now i are c.loop-place-test.true in
    let outside : covers one.entry c.args.at ≡ false = grind (arith, nat_tests, one.is.from, one.is.to, c.else-entry-at.either) in
    c.loop-place.invariant s es are ∙ covering_later es i one.entry one.here c.args.at outside

pub returns : goal.returns
returns c = λ s es are.
    let i = c.loop-place.place in
    let all = as_many_entries s es c.args.entries.now are in
    sym (c.loop-place.invariant s es are ∙ ap (first_covering c.args.at i) (drop_all i es (omega (arith, c.loop-place-test.false, all))))
