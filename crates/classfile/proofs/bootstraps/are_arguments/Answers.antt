use Rattle.std.proofs.Common.{rules, tests, ◌≡◌, ◌∙◌, ℕ, Bool, sym}
use Rattle.std.specs.List.{list_all}
use Rattle.std.proofs.lemmas.Iterator.{YieldsList-from_slice}
use Rattle.std.proofs.lemmas.Iterator.Search.{all_from_yields_List}
use Rattle.std.proofs.lemmas.List.Folds.{list_all-map}
use Rattle.classfile.specs.Bootstraps.{is_argument, are_arguments}
use Rattle.classfile.proofs.bootstraps.are_arguments.Goals as goal

pub returns : goal.returns
unfolding are_arguments
returns c =
    let xs = c.args.indices.now in
    let test : ℕ → Bool = is_argument c.args.pool.now in
    let e : c.all.result ≡ list_all (λ n. test n) xs =
    all_from_yields_List (λ n. test n) _ _ c.all.result c.all.ensures.ran (YieldsList-from_slice xs cc) (λ x b q k. search (rules, tests)) in
    e ∙ sym (list_all-map test (λ n. n) xs)
