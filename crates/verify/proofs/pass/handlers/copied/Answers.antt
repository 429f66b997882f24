use Rattle.std.proofs.Common.{◌∙◌, ◌++◌, ◌∷◌, ◌+◌, [], get_or, drop, sym, ap, arith}
use Rattle.std.proofs.lemmas.List.{drop_more, drop_all, append-nil, append_assoc}
use Rattle.verify.proofs.pass.handlers.copied.Goals as goal

pub loop-handler-init : goal.loop-handler-init
loop-handler-init c = ap (λ xs. xs ++ c.args.table.now) c.in_ok-copy.ensures.items

pub loop-handler-preserved : goal.loop-handler-preserved
loop-handler-preserved c =
    let i = c.loop-handler.handler-index in
    let table = c.args.table.now in
    ap (λ xs. xs ++ drop (i + 1) table) c.in_ok-push.ensures.items ∙ append_assoc c.loop-handler.copy.items (get_or table i _ ∷ []) (drop (i + 1) table)
    ∙ ap (λ xs. c.loop-handler.copy.items ++ xs) (sym (drop_more table i _ c.loop-handler-test.true)) ∙ c.loop-handler.invariant

pub returns : goal.returns
returns c =
    sym (append-nil c.loop-handler.copy.items) ∙ ap (λ xs. c.loop-handler.copy.items ++ xs) (sym (drop_all c.loop-handler.handler-index c.args.table.now (omega (arith, c.loop-handler-test.false)))) ∙ c.loop-handler.invariant
