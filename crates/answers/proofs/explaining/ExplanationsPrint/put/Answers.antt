use Rattle.std.proofs.Common.{◌<◌, ◌≤◌, ◌+◌, map, length, slice_index_or, arith}
use Rattle.std.specs.Prelude.{min}
use Rattle.classfile.specs.Views.{member_view}
use Rattle.printing.proofs.Writings.{with_left, one_more, stops_inside, all_written}
use Rattle.answers.specs.Explanations.{explanations}
use Rattle.answers.specs.Verdicts.{explained}
use Rattle.answers.proofs.Explained.{left, one, explained_left, none_left}
use Rattle.answers.proofs.explaining.ExplanationsPrint.put.Goals as goal

pub returns-in-Err : goal.returns-in-Err
returns-in-Err g c =
    let held = g.W.Write.contents in
    let self = c.args.self.now in
    let said = explained self.form self.pool.now in
    let members = self.members.now in
    let methods = self.methods.now in
    let frames = self.frames.now in
    let i = c.loop-i.i in
    let lt : i < length members = omega (arith, c.loop-i-test.true, c.min-count.ensures, c.min-count-2.ensures) in
    let less : i < length methods = omega (arith, c.loop-i-test.true, c.min-count.ensures, c.min-count-2.ensures) in
    let few : i < length frames = omega (arith, c.loop-i-test.true, c.min-count-2.ensures) in
    let m = c.index-self-i.result in
    let r = c.index-self-i-in-loop-i.result in
    let x = c.index-self-i-in-loop-i-2.result in
    stops_inside (held c.args.out.now) (held c.loop-i.out) (held c.put.new.out) (explanations said (map member_view members) methods frames)
    (one member_view said (slice_index_or members i m) (slice_index_or methods i r) (slice_index_or frames i x)) (left member_view said members methods frames (i + 1))
    (with_left _ _ _ _ _ (explained_left member_view said members methods frames i m r x lt less few) c.loop-i.invariant) c.in-Err.ensures

pub loop-i-preserved : goal.loop-i-preserved
loop-i-preserved g c =
    let held = g.W.Write.contents in
    let self = c.args.self.now in
    let said = explained self.form self.pool.now in
    let members = self.members.now in
    let methods = self.methods.now in
    let frames = self.frames.now in
    let i = c.loop-i.i in
    let lt : i < length members = omega (arith, c.loop-i-test.true, c.min-count.ensures, c.min-count-2.ensures) in
    let less : i < length methods = omega (arith, c.loop-i-test.true, c.min-count.ensures, c.min-count-2.ensures) in
    let few : i < length frames = omega (arith, c.loop-i-test.true, c.min-count-2.ensures) in
    let m = c.index-self-i.result in
    let r = c.index-self-i-in-loop-i.result in
    let x = c.index-self-i-in-loop-i-2.result in
    one_more (held c.args.out.now) (held c.loop-i.out) (held c.put.new.out) (explanations said (map member_view members) methods frames)
    (one member_view said (slice_index_or members i m) (slice_index_or methods i r) (slice_index_or frames i x)) (left member_view said members methods frames (i + 1))
    (with_left _ _ _ _ _ (explained_left member_view said members methods frames i m r x lt less few) c.loop-i.invariant) c.in-Ok.ensures

pub returns : goal.returns
returns g c =
    let held = g.W.Write.contents in
    let self = c.args.self.now in
    let past : min (min (length self.members.now) (length self.methods.now)) (length self.frames.now) ≤ c.loop-i.i = omega (arith, c.loop-i-test.false, c.min-count.ensures, c.min-count-2.ensures) in
    all_written (held c.args.out.now) (held c.loop-i.out) _
    (with_left _ _ _ _ _ (none_left member_view (explained self.form self.pool.now) self.members.now self.methods.now self.frames.now c.loop-i.i past) c.loop-i.invariant)
