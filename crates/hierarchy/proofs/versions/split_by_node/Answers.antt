use Rattle.std.proofs.Common.{◌≡◌, ◌+◌, ◌++◌, ◌∷◌, [], get_or, sym, subst, take}
use Rattle.std.proofs.lemmas.List.{take_more}
use Rattle.hierarchy.specs.private.Versions.{IsSplit}
use Rattle.hierarchy.proofs.Putting.{split_more}
use Rattle.hierarchy.proofs.versions.split_by_node.Goals as goal

pub loop-put-preserved : goal.loop-put-preserved
loop-put-preserved c =
    let xs = c.args.puts.now in
    let i = c.loop-put.put-index in
    subst (λ ps. IsSplit c.args.value ps c.take.new.self) (sym (take_more xs i _ c.loop-put-test.true))
    (split_more c.args.value (take i xs) (get_or xs i _) c.loop-put.split c.take.new.self c.loop-put.invariant c.in_ok-take.ensures)
