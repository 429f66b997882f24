use Rattle.std.proofs.Common.{rules, tests, ◌≡◌, ◌∙◌, eqb}
use Rattle.std.specs.List.{list_any}
use Rattle.std.proofs.lemmas.Iterator.{YieldsList-from_slice}
use Rattle.std.proofs.lemmas.Iterator.Search.{any_from_yields_List}
use Rattle.insn.proofs.Starts.{looked}
use Rattle.insn.proofs.instruction.is_start.Goals as goal

pub returns : goal.returns
returns c =
    let xs = c.args.list.now in
    let found : c.any.result ≡ list_any (λ x. eqb x.0 c.args.at) xs =
    any_from_yields_List (λ x. eqb x.0 c.args.at) _ _ c.any.result c.any.ensures.ran (YieldsList-from_slice xs cc) (λ x b q k. search (rules, tests)) in
    found ∙ looked xs c.args.at
