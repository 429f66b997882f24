use Rattle.std.proofs.Common.{[], Ok, subst}
use Rattle.serving.specs.private.Serving.{TakesTurn}
use Rattle.serving.specs.declared.serving.Turn.TheVariants as turns
use Rattle.serving.proofs.Talks.{none_yet, both, single}
use Rattle.serving.proofs.serving.serve_round.Goals as goal

pub loop-init : goal.loop-init
loop-init g c = (c.requires.flushed, λ ks knows. (ks, none_yet c.args.setting ks _ _, knows))

pub returns-in-Forgotten-clause-served : goal.returns-in-Forgotten-clause-served
returns-in-Forgotten-clause-served g c = λ ks knows.
    let left = g.R.Read.remaining in
    let held = g.W.Write.contents in
    let s = c.args.setting in
    let (now, said, known) = c.loop.invariant.1 ks knows in
    let next : TakesTurn s now (left c.loop.peer.input) (left c.take_turn.new.peer.input) (held c.loop.peer.output) (held c.take_turn.new.peer.output) (Ok turns.Forgotten) =
    subst (λ t. TakesTurn s now (left c.loop.peer.input) (left c.take_turn.new.peer.input) (held c.loop.peer.output) (held c.take_turn.new.peer.output) (Ok t)) c.in-Forgotten.is (c.in_ok-take_turn.ensures.turn now known) in
    both s ks now [] _ _ _ _ _ _ said (single s now [] _ _ _ _ next)

pub loop-preserved : goal.loop-preserved
loop-preserved g c = (
  c.in_ok-take_turn.ensures.flushed,
  λ ks knows.
      let left = g.R.Read.remaining in
      let held = g.W.Write.contents in
      let s = c.args.setting in
      let (now, said, known) = c.loop.invariant.1 ks knows in
      let next : TakesTurn s now (left c.loop.peer.input) (left c.take_turn.new.peer.input) (held c.loop.peer.output) (held c.take_turn.new.peer.output) (Ok (turns.Answered c.in-Answered.next)) =
      subst (λ t. TakesTurn s now (left c.loop.peer.input) (left c.take_turn.new.peer.input) (held c.loop.peer.output) (held c.take_turn.new.peer.output) (Ok t)) c.in-Answered.is (c.in_ok-take_turn.ensures.turn now known) in
      (next.0, both s ks now next.0 _ _ _ _ _ _ said (single s now next.0 _ _ _ _ next.2), next.1),
)
