use Rattle.std.proofs.Common.{◌∙◌, sym}
use Rattle.type_numbers.specs.private.Readings.{shared_row}
use Rattle.type_numbers.proofs.FieldEntries.{nothing_described}
use Rattle.type_numbers.proofs.MethodReadings.{goes_nowhere}
use Rattle.type_numbers.proofs.texts.Texts.push.Goals as goal

pub returns-then-names_nothing-clause-grown : goal.returns-then-names_nothing-clause-grown
returns-then-names_nothing-clause-grown g c = goes_nowhere (shared_row c.args.self.now)

pub returns-then-names_nothing-clause-pushed : goal.returns-then-names_nothing-clause-pushed
returns-then-names_nothing-clause-pushed g c = record {
  named = _;
  is = c.in_ok-push.ensures.items;
  described = nothing_described c.args.numbers.now (shared_row c.args.self.now) c.args.pool.now c.args.constant (sym c.names_nothing.ensures ∙ c.if-names_nothing.true);
}

pub returns-clause-pushed : goal.returns-clause-pushed
returns-clause-pushed g c = record { named = c.in_ok-named.named; is = c.in_ok-push-2.ensures.items; described = c.in_ok-named.ensures.described }
