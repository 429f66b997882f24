-- The messages so far were answered.
use Rattle.std.proofs.Common.{◌≡◌, true, List}
use Rattle.serving.specs.Conversations.{Conversation}
use Rattle.serving.specs.KnownClasses.{KnownClass}
use Rattle.serving.specs.private.Stepping.{Knows}
use Rattle.serving.proofs.serving.serve_round.Given as goal

abbrev pub invariant-loop : goal.invariant-loop
invariant-loop g l = (l.peer.is_flushed ≡ true) × ((ks : List KnownClass) → Knows l.setting.profile ks l.initial.known
    → (now : List KnownClass)
    × Conversation l.setting ks now (g.R.Read.remaining l.initial.peer.input) (g.R.Read.remaining l.peer.input) (g.W.Write.contents l.initial.peer.output) (g.W.Write.contents l.peer.output)
    × Knows l.setting.profile now l.known)
