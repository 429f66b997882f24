-- The messages so far were answered, and the last of them forgot all.
use Rattle.std.proofs.Common.{◌≡◌, true, []}
use Rattle.serving.specs.Conversations.{Conversation}
use Rattle.serving.proofs.serving.serve_rounds.Given as goal

abbrev pub invariant-loop : goal.invariant-loop
invariant-loop g l = (l.peer.is_flushed ≡ true)
    × Conversation l.setting [] [] (g.R.Read.remaining l.initial.peer.input) (g.R.Read.remaining l.peer.input) (g.W.Write.contents l.initial.peer.output) (g.W.Write.contents l.peer.output)
