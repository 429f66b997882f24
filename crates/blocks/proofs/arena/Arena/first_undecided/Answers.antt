use Rattle.std.proofs.Common.{◌≡◌, [], subst, arith}
use Rattle.blocks.specs.Rows.{IsFirstUndecided}
use Rattle.blocks.proofs.Pendings.{settled_rows}
use Rattle.blocks.proofs.arena.Arena.first_undecided.Goals as goal

pub returns-clause-first : goal.returns-clause-first
returns-clause-first c =
    let a = c.self.inside in
    let some = c.if-self-eq0.false in
    let none : a.pending.pairs.items ≡ [] = c.self.invariant (omega (arith, some)) in
    subst (λ x. IsFirstUndecided x c.args.row c.args.from c.first_undecided.result) (settled_rows a.pending.pairs.items a.rows c.args.self.now none c.self.view_is) c.first_undecided.ensures.first
