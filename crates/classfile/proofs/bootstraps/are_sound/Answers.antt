use Rattle.std.proofs.Common.{rules, tests, ◌≡◌, ◌∙◌, Bool, sym}
use Rattle.std.specs.List.{list_all}
use Rattle.std.proofs.lemmas.Iterator.{YieldsList-from_slice}
use Rattle.std.proofs.lemmas.Iterator.Search.{all_from_yields_List}
use Rattle.std.proofs.lemmas.List.Folds.{list_all-map}
use Rattle.classfile.specs.Bootstraps.{BootstrapMethod, is_sound}
use Rattle.classfile.specs.BootstrapViews.{bootstrap_view}
use Rattle.classfile.proofs.bootstraps.are_sound.Goals as goal

pub returns : goal.returns
returns c =
    let xs = c.args.methods.now in
    let test : BootstrapMethod → Bool = is_sound c.args.pool.now in
    let e : c.all.result ≡ list_all (λ b. test (bootstrap_view b)) xs =
    all_from_yields_List (λ b. test (bootstrap_view b)) _ _ c.all.result c.all.ensures.ran (YieldsList-from_slice xs cc) (λ x b q k. search (rules, tests)) in
    e ∙ sym (list_all-map test bootstrap_view xs)
