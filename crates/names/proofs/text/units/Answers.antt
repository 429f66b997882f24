use Rattle.std.proofs.Common.{◌≡◌, sym, ◌∙◌, Some, None}
use Rattle.std.proofs.lemmas.List.{append-nil}
use Rattle.names.specs.Texts.{spelling}
use Rattle.names.specs.Units.{unit_at}
use Rattle.names.proofs.UnitLaws.{fit_push, unit_found, units_on, text_after, text_ended}
use Rattle.names.proofs.text.units.Goals as goal

pub units-preserved : goal.units-preserved
units-preserved c =
    let some : unit_at c.units.rest.now ≡ Some (c.in-Some.u, c.in-Some.n) = cc (c.in-Some.ensures) in
    rw (c.in_ok-push-in-Some.ensures.items, c.split_at.ensures.back)
    (record {
      fit = fit_push c.units.out.items c.in-Some.u c.units.invariant.fit (unit_found c.units.rest.now (c.in-Some.u, c.in-Some.n) some).fits;
      so_far = units_on c.units.out.items c.units.rest.now c.args.text.bytes.now c.in-Some.u c.in-Some.n some c.units.invariant.so_far;
      left = text_after c.units.rest.now c.in-Some.u c.in-Some.n some c.units.invariant.left;
    })

pub returns-in-None-clause-spelled : goal.returns-in-None-clause-spelled
returns-in-None-clause-spelled c =
    let none : unit_at c.units.rest.now ≡ None = cc (c.in-None.ensures) in
    sym (append-nil (spelling c.units.out.items)) ∙ rw (← text_ended c.units.rest.now none c.units.invariant.left) c.units.invariant.so_far
