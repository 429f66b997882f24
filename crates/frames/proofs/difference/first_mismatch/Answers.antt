use Rattle.std.proofs.Common.{◌∙◌, sym, length, ◌≤◌, ◌⊎◌, arith}
use Rattle.frames.specs.FrameAssignable.{slot_answer}
use Rattle.frames.specs.Differences.{is_sought}
use Rattle.frames.proofs.Differences.{mismatch_end}
use Rattle.frames.proofs.difference.first_mismatch.Goals as goal

pub returns : goal.returns
returns g c =
    let f = slot_answer (g.C.Classes.content c.args.classes.now) c.args.on_stack in
    let h : (length c.args.from.now ≤ c.loop-place.place) ⊎ (length c.args.to.now ≤ c.loop-place.place) = grind arith in
    sym (c.loop-place.invariant ∙ mismatch_end (is_sought c.args.sought) f c.args.from.now c.args.to.now c.loop-place.place h)
