-- Each step takes the unit in front.
use Rattle.std.proofs.Common.{rules, ◌≡◌, ◌∙◌, ◌∷◌, sym, ap, Some, None}
use Rattle.names.specs.Units.{unit_at, units_of}
use Rattle.names.proofs.UnitLaws.{units_on_from, fewer_units, no_units}
use Rattle.names.proofs.text.TextUnitsIterator.next.Goals as goal

pub returns-in_err-unit-clause-steps : goal.returns-in_err-unit-clause-steps
returns-in_err-unit-clause-steps c =
    let none : unit_at c.args.self.now.rest.now ≡ None = search rules in
    let nothing = no_units c.args.self.now.rest.now none in
    rw (c.from_residual.ensures) (nothing, nothing)

pub returns-clause-steps : goal.returns-clause-steps
returns-clause-steps c =
    let some : unit_at c.args.self.now.rest.now ≡ Some (c.in_ok-unit.unit, c.in_ok-unit.n) = search rules in
    units_on_from c.args.self.now.rest.now c.in_ok-unit.unit c.in_ok-unit.n some ∙ ap (λ bs. c.in_ok-unit.unit ∷ units_of bs) (sym c.split_at.ensures.back)

pub returns-clause-goes : goal.returns-clause-goes
returns-clause-goes c =
    let some : unit_at c.args.self.now.rest.now ≡ Some (c.in_ok-unit.unit, c.in_ok-unit.n) = search rules in
    let fewer = fewer_units c.args.self.now.rest.now c.in_ok-unit.unit c.in_ok-unit.n some in
    record { on = λ _. (tt, tt, rw c.split_at.ensures.back fewer); keeps = tt; rests = λ _. tt }
