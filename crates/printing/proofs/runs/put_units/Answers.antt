use Rattle.std.proofs.Common.{◌≡◌, Some, None}
use Rattle.std.specs.List.{flat_map}
use Rattle.names.specs.Units.{unit_at, units_of}
use Rattle.printing.proofs.RunLaws.{run_stops, run_written, unit_stops, unit_written, units_written}
use Rattle.printing.proofs.runs.put_units.Goals as goal

pub returns-in-Err : goal.returns-in-Err
returns-in-Err g c =
    let held = g.W.Write.contents in
    let text = g.E.Escapes.text in
    run_stops text (held c.args.out.now) (held c.units.out) (flat_map text (units_of c.args.bytes.now)) c.units.rest.now c.split_at.result.0.now c.split_at.result.1.now c.run_in_front.result
    c.run_in_front.ensures c.split_at.ensures.front c.split_at.ensures.back c.units.invariant (held c.put_bytes.new.out) c.in-Err.ensures

pub returns-in-None : goal.returns-in-None
returns-in-None g c =
    let held = g.W.Write.contents in
    let text = g.E.Escapes.text in
    let whole = flat_map text (units_of c.args.bytes.now) in
    let behind = c.split_at.result.1.now in
    let none : unit_at behind ≡ None = cc (c.in-None.ensures) in
    let so = run_written text (held c.args.out.now) (held c.units.out) whole c.units.rest.now c.split_at.result.0.now behind c.run_in_front.result
    c.run_in_front.ensures c.split_at.ensures.front c.split_at.ensures.back c.units.invariant (held c.put_bytes.new.out) c.in-Ok.ensures in
    units_written text (held c.args.out.now) (held c.put_bytes.new.out) whole behind none so

pub returns-in-Err-put_unit : goal.returns-in-Err-put_unit
returns-in-Err-put_unit g c =
    let held = g.W.Write.contents in
    let text = g.E.Escapes.text in
    let whole = flat_map text (units_of c.args.bytes.now) in
    let behind = c.split_at.result.1.now in
    let some : unit_at behind ≡ Some (c.in-Some.unit, c.in-Some.n) = cc (c.in-Some.ensures) in
    let so = run_written text (held c.args.out.now) (held c.units.out) whole c.units.rest.now c.split_at.result.0.now behind c.run_in_front.result
    c.run_in_front.ensures c.split_at.ensures.front c.split_at.ensures.back c.units.invariant (held c.put_bytes.new.out) c.in-Ok.ensures in
    unit_stops text (held c.args.out.now) (held c.put_bytes.new.out) whole behind c.in-Some.unit c.in-Some.n some so (held c.put_unit.new.out) c.in-Err-put_unit.ensures

pub units-preserved : goal.units-preserved
units-preserved g c =
    let held = g.W.Write.contents in
    let text = g.E.Escapes.text in
    let whole = flat_map text (units_of c.args.bytes.now) in
    let behind = c.split_at.result.1.now in
    let some : unit_at behind ≡ Some (c.in-Some.unit, c.in-Some.n) = cc (c.in-Some.ensures) in
    let so = run_written text (held c.args.out.now) (held c.units.out) whole c.units.rest.now c.split_at.result.0.now behind c.run_in_front.result
    c.run_in_front.ensures c.split_at.ensures.front c.split_at.ensures.back c.units.invariant (held c.put_bytes.new.out) c.in-Ok.ensures in
    unit_written text (held c.args.out.now) (held c.put_bytes.new.out) whole behind c.in-Some.unit c.in-Some.n some so (held c.put_unit.new.out) c.split_at-in-Some.result.1.now c.split_at-in-Some.ensures.back c.in-Ok-put_unit.ensures
