use Rattle.std.proofs.Common.{◌≡◌, ◌∙◌, [], set, ap, arith}
use Rattle.std.proofs.lemmas.Result.{on_ok_weaker}
use Rattle.blocks.specs.Rows.{Rows}
use Rattle.blocks.proofs.Pendings.{none_pending, settled_rows}
use Rattle.blocks.proofs.arena.Arena.set.Goals as goal

pub returns-then-slot-self-clause-ok : goal.returns-then-slot-self-clause-ok
returns-then-slot-self-clause-ok c =
    let a = c.self.inside in
    let less = c.if-slot-self.true in
    let none : a.pending.pairs.items ≡ [] = c.self.invariant (omega (arith, less)) in
    on_ok_weaker c.set.result (λ is.
    none_pending a.pending.pairs.items c.set.new.self none ∙ is
    ∙ ap (λ (x : Rows). let y : Rows = record x { running = set x.running c.args.slot c.args.number } in y)
    (settled_rows a.pending.pairs.items a.rows c.args.self.now none c.self.view_is)) c.set.ensures.ok
