use Rattle.std.proofs.Common.{rules, ◌∙◌, subst, refl}
use Rattle.std.specs.List.Sorted.{IsPermutation}
use Rattle.std.proofs.lemmas.List.Sorted.{IsNonDecreasingBy-from_sort_by_key, IsPermutation-trans}
use Rattle.verify.specs.declared.pass.handlers.Handler.{Handler}
use Rattle.verify.proofs.numbered.Starting.{follows_first}
use Rattle.verify.proofs.pass.handlers.Handlers.new.Goals as goal

pub returns : goal.returns
returns c = λ x es a.
    let table = c.args.table.items in
    let by_frame = c.sort_by_key.new.self.items in
    let sorted = c.sort_by_key-2.new.self.items in
    let rises = IsNonDecreasingBy-from_sort_by_key (λ (one : Handler). one.from) sorted c.in_ok-sort_by_key-2.ensures.sorted (λ a r q k. search rules) in
    let first = subst (λ xs. IsPermutation xs by_frame) (c.in_ok-by_start.ensures ∙ c.deref.ensures.value) c.in_ok-sort_by_key.ensures.permutation in
    follows_first x es _ a (IsPermutation-trans table by_frame sorted first c.in_ok-sort_by_key-2.ensures.permutation) rises refl refl refl refl (c.new.ensures.are x.types x.declared) c.new.ensures.none c.new-2.ensures.empty
