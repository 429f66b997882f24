use Rattle.std.proofs.Common.{◌≡◌, ◌++◌, ◌∷◌, [], map}
use Rattle.std.proofs.lemmas.Result.{err_from_is_err_and}
use Rattle.std.proofs.lemmas.List.{map_push}
use Rattle.layout.specs.Faults.{UnlessMemory-map}
use Rattle.layout.specs.FormatLaws.{times_on, times_stop, times_end}
use Rattle.classfile.proofs.table.items.Goals as goal

pub returns-in_err-one : goal.returns-in_err-one
returns-in_err-one g c =
    let p = err_from_is_err_and c.from_residual-in_err-one.result c.from_residual-in_err-one.ensures.1 in
    rw (p.1, p.2) (UnlessMemory-map c.in_err-one.field-0.0
    (times_stop (g.T.Item.format c.args.pool.now c.args.location) (map g.T.Item.view c.loop.out.items) c.args.count c.loop.counter c.loop.cursor.at c.loop.cursor.rest c.in_err-one.field-0.0 _ c.loop-test.true c.loop.invariant)
    c.in_err-one.ensures)

pub loop-preserved : goal.loop-preserved
loop-preserved g c =
    let e : map g.T.Item.view c.push.new.self.items ≡ map g.T.Item.view c.loop.out.items ++ g.T.Item.view c.in_ok-one.one ∷ [] = rw c.in_ok-push.ensures.items (map_push _ c.loop.out.items c.in_ok-one.one) in
    rw e (times_on (g.T.Item.format c.args.pool.now c.args.location) (map g.T.Item.view c.loop.out.items) c.args.count c.loop.counter c.loop.cursor.at c.loop.cursor.rest (g.T.Item.view c.in_ok-one.one) c.take.new.cursor _ c.loop-test.true c.in_ok-one.ensures c.loop.invariant)

pub returns : goal.returns
returns g c = times_end (g.T.Item.format c.args.pool.now c.args.location) (map g.T.Item.view c.loop.out.items) c.args.count c.loop.counter c.loop.cursor _ c.loop-test.false c.loop.invariant
