use Rattle.std.proofs.Common.{rules}
use Rattle.std.proofs.lemmas.List.Sorted.{answers_always}
use Rattle.insn.proofs.Places.{missed, met}
use Rattle.insn.proofs.finding.found_at.Goals as goal

pub returns-in-Err : goal.returns-in-Err
returns-in-Err c =
    let facts = c.binary_search_by_key.ensures in
    let by_start = facts.position (λ x. x.0) (answers_always _ _ _ (λ f a r g called. search rules)) in
    missed c.args.list.now c.args.at c.requires _ (rw c.in-Err.is at facts.bound) (rw c.in-Err.is at by_start)

pub returns-in-Ok : goal.returns-in-Ok
returns-in-Ok c =
    let facts = c.binary_search_by_key.ensures in
    let by_start = facts.position (λ x. x.0) (answers_always _ _ _ (λ f a r g called. search rules)) in
    met c.args.list.now c.args.at c.requires c.in-Ok.place _ _ _ (rw c.in-Ok.is at facts.bound) (rw c.in-Ok.is at by_start) c.act.ensures c.start_at-next.ensures
