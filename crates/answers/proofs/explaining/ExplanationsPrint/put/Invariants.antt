-- The explanations of the methods that are gone were written.
use Rattle.std.proofs.Common.{map, drop}
use Rattle.classfile.specs.Views.{member_view}
use Rattle.printing.proofs.Writings.{SoFar}
use Rattle.answers.specs.Explanations.{explanations}
use Rattle.answers.specs.Verdicts.{explained}
use Rattle.answers.proofs.explaining.ExplanationsPrint.put.Given as goal

abbrev pub invariant-loop-i : goal.invariant-loop-i
invariant-loop-i g l =
    let held = g.W.Write.contents in
    let pool = l.self.pool.now in
    let members = l.self.members.now in
    let methods = l.self.methods.now in
    let frames = l.self.frames.now in
    SoFar (held l.initial.out) (held l.out) (explanations (explained l.self.form pool) (map member_view members) methods frames)
    (explanations (explained l.self.form pool) (map member_view (drop l.i members)) (drop l.i methods) (drop l.i frames))
