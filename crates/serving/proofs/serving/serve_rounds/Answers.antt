use Rattle.std.proofs.Common.{[], Ok, subst}
use Rattle.serving.specs.private.Serving.{ServesRound}
use Rattle.serving.specs.declared.serving.Pause.TheVariants as pauses
use Rattle.serving.proofs.Talks.{none_yet, both, stops_behind}
use Rattle.serving.proofs.serving.serve_rounds.Goals as goal

pub loop-init : goal.loop-init
loop-init g c = (c.requires.flushed, none_yet c.args.setting [] _ _)

pub returns-in-Err-clause-served : goal.returns-in-Err-clause-served
returns-in-Err-clause-served g c = stops_behind c.args.setting [] [] _ _ _ _ _ _ c.in-Err.stop c.loop.invariant.1 (c.in-Err.ensures.served [] (tt, c.new-known.ensures))

pub returns-in-Ok-AtEnd-clause-served : goal.returns-in-Ok-AtEnd-clause-served
returns-in-Ok-AtEnd-clause-served g c =
    let left = g.R.Read.remaining in
    let held = g.W.Write.contents in
    let s = c.args.setting in
    let round : ServesRound s [] (left c.loop.peer.input) (left c.serve_round.new.peer.input) (held c.loop.peer.output) (held c.serve_round.new.peer.output) (Ok pauses.AtEnd) =
    subst (λ p. ServesRound s [] (left c.loop.peer.input) (left c.serve_round.new.peer.input) (held c.loop.peer.output) (held c.serve_round.new.peer.output) (Ok p)) c.in-Ok-AtEnd.field-0-is (c.in-Ok-AtEnd.ensures.served [] (tt, c.new-known.ensures)) in
    let (new, said, end) = round in
    (new, both s [] [] new _ _ _ _ _ _ c.loop.invariant.1 said, end)

pub loop-preserved : goal.loop-preserved
loop-preserved g c =
    let left = g.R.Read.remaining in
    let held = g.W.Write.contents in
    let s = c.args.setting in
    let round : ServesRound s [] (left c.loop.peer.input) (left c.serve_round.new.peer.input) (held c.loop.peer.output) (held c.serve_round.new.peer.output) (Ok pauses.Forgotten) =
    subst (λ p. ServesRound s [] (left c.loop.peer.input) (left c.serve_round.new.peer.input) (held c.loop.peer.output) (held c.serve_round.new.peer.output) (Ok p)) c.in-Ok-Forgotten.field-0-is (c.in-Ok-Forgotten.ensures.served [] (tt, c.new-known.ensures)) in
    (c.in-Ok-Forgotten.ensures.flushed, both s [] [] [] _ _ _ _ _ _ c.loop.invariant.1 round)
