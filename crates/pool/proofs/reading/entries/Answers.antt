use Rattle.std.proofs.Common.{◌≡◌, ◌++◌, ◌∷◌, [], sym, ◌∙◌, arith}
use Rattle.std.proofs.lemmas.Result.{err_from_is_err_and}
use Rattle.std.proofs.lemmas.List.{map_push}
use Rattle.layout.specs.Faults.{UnlessMemory-map}
use Rattle.pool.specs.Views.{view, views}
use Rattle.pool.proofs.Loop.{steps, stops, is_done}
use Rattle.pool.proofs.reading.entries.Goals as goal

pub returns-in_err-constant : goal.returns-in_err-constant
returns-in_err-constant c =
    let p = err_from_is_err_and c.from_residual-in_err-constant.result c.from_residual-in_err-constant.ensures.1 in
    rw (p.1, p.2) (UnlessMemory-map c.in_err-constant.field-0.0
    (stops (views c.loop-left.out.items) c.loop-left.left c.loop-left.cursor.at c.loop-left.second c.loop-left.cursor.rest c.in_err-constant.field-0.0 _ (omega arith) c.loop-left.invariant)
    c.in_err-constant.ensures)

pub loop-left-preserved : goal.loop-left-preserved
loop-left-preserved c =
    let e : views c.push.new.self.items ≡ views c.loop-left.out.items ++ view c.in_ok-constant.constant ∷ [] = rw c.in_ok-push.ensures.items (map_push _ c.loop-left.out.items c.in_ok-constant.constant) in
    rw (e, c.is_wide-second.ensures)
    (steps (views c.loop-left.out.items) c.loop-left.left c.loop-left.cursor.at c.loop-left.second c.loop-left.cursor.rest (view c.in_ok-constant.constant) c.indexed.new.cursor _ (omega arith) c.in_ok-constant.ensures c.loop-left.invariant)

pub returns : goal.returns
returns c =
    let none : c.loop-left.left ≡ 0 = omega arith in
    sym c.loop-left.invariant ∙ rw none (is_done (views c.loop-left.out.items) c.loop-left.second c.loop-left.cursor)
