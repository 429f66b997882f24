use Rattle.std.proofs.Common.{◌≡◌, ◌∙◌, inr, [], sym, subst}
use Rattle.blocks.specs.Rows.{IsSaidToFit}
use Rattle.blocks.proofs.Pendings.{none_pending}
use Rattle.blocks.proofs.arena.Arena.note_fit.Goals as goal

pub returns-then-self-gt0 : goal.returns-then-self-gt0
returns-then-self-gt0 c =
    let a = c.self.inside in
    let none : a.pending.pairs.items ≡ [] = c.self.invariant c.if-self-gt0.true in
    inr (subst (λ x. IsSaidToFit c.args.self.now x c.args.row) (sym (none_pending a.pending.pairs.items c.note_fit.new.self none))
    (subst (λ x. IsSaidToFit x c.note_fit.new.self c.args.row) (sym (none_pending a.pending.pairs.items a.rows none) ∙ c.self.view_is) c.note_fit.ensures))
