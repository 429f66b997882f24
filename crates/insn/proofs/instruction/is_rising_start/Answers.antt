use Rattle.std.proofs.Common.{rules}
use Rattle.std.proofs.lemmas.List.Sorted.{answers_always}
use Rattle.insn.proofs.Starts.{searched}
use Rattle.insn.proofs.instruction.is_rising_start.Goals as goal

pub returns : goal.returns
returns c =
    let facts = c.binary_search_by_key.ensures in
    let by_start = facts.position (λ x. x.0) (answers_always _ _ _ (λ f a r g called. search rules)) in
    rw c.is_ok.ensures.value (searched c.args.list.now c.args.at c.binary_search_by_key.result facts.bound by_start c.requires)
