use Rattle.std.proofs.Common.{◌∙◌, [], ap, sym}
use Rattle.std.proofs.lemmas.List.{append-nil}
use Rattle.method_frames.specs.MapFrames.{frames_by}
use Rattle.numbered_rules.specs.RunningFrame.{held}
use Rattle.verify.specs.DifferencesAt.{at_targets}
use Rattle.verify.proofs.Ways.{alone, alone_is}
use Rattle.verify.proofs.difference_at.target_ways.Goals as goal

pub returns-clause-same : goal.returns-clause-same
returns-clause-same g c = λ s.
    let x = c.args.frames.now in
    let ways = c.loop-target.ways.items in
    c.loop-target.invariant.same s [] (ap (at_targets s x.types.classes (frames_by x.types x.declared) (held x)) c.in-None.ensures.steps.0)
    ∙ ap (alone s x) (append-nil ways) ∙ sym (alone_is s x 0 ways)
