use Rattle.std.proofs.Common.{[], Ok, map, subst}
use Rattle.answers.specs.Files.{input_view}
use Rattle.serving.specs.private.Serving.{ServesFirst}
use Rattle.serving.specs.declared.serving.Pause.TheVariants as pauses
use Rattle.serving.proofs.Talks.{both, stops_behind}
use Rattle.serving.proofs.serving.serve.Goals as goal

pub returns-in-Ok-clause-served : goal.returns-in-Ok-clause-served
returns-in-Ok-clause-served g c =
    let left = g.R.Read.remaining in
    let held = g.W.Write.contents in
    let s = c.args.setting in
    let files = map input_view c.args.reads.items in
    let first : ServesFirst s files (left c.args.peer.now.input) (left c.serve_first.new.peer.input) (held c.args.peer.now.output) (held c.serve_first.new.peer.output) (Ok pauses.Forgotten) =
    subst (λ p. ServesFirst s files (left c.args.peer.now.input) (left c.serve_first.new.peer.input) (held c.args.peer.now.output) (held c.serve_first.new.peer.output) (Ok p)) c.in-Forgotten.is c.in_ok-serve_first.ensures.served in
    let (known, become, said) = first in
    let (new, more, end) = c.in-Ok.ensures.served in
    (known, become, (new, both s known [] new _ _ _ _ _ _ said more, end))

pub returns-in-Err-clause-served : goal.returns-in-Err-clause-served
returns-in-Err-clause-served g c =
    let left = g.R.Read.remaining in
    let held = g.W.Write.contents in
    let s = c.args.setting in
    let files = map input_view c.args.reads.items in
    let first : ServesFirst s files (left c.args.peer.now.input) (left c.serve_first.new.peer.input) (held c.args.peer.now.output) (held c.serve_first.new.peer.output) (Ok pauses.Forgotten) =
    subst (λ p. ServesFirst s files (left c.args.peer.now.input) (left c.serve_first.new.peer.input) (held c.args.peer.now.output) (held c.serve_first.new.peer.output) (Ok p)) c.in-Forgotten.is c.in_ok-serve_first.ensures.served in
    let (known, become, said) = first in
    (known, become, stops_behind s known [] _ _ _ _ _ _ c.in-Err.stop said c.in-Err.ensures.served)
