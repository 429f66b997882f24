use Rattle.std.proofs.Common.{sym}
use Rattle.hierarchy.proofs.Sharing.{at_odd, at_even, stepped, arrived}
use Rattle.hierarchy.proofs.versions.Versions.get.Goals as goal
use Rattle.hierarchy.proofs.versions.Versions.get.Goals.{then-left-eq1, else-left-eq1}

pub loop-left-preserved : goal.loop-left-preserved
loop-left-preserved c =
    let l = c.loop-left in
    let node = c.index-node.result.now in
    elim c.if-left-eq1.branch [
      | then-left-eq1 w ↦ rw w.at-is (stepped c.args.self.now l.at node c.requires.good l.invariant.0 c.index-node.ensures node.odd l.left _ c.loop-left-test.true (sym (at_odd node l.left w.if-left-eq1.true)) l.invariant.1)
      | else-left-eq1 w ↦ rw w.at-is (stepped c.args.self.now l.at node c.requires.good l.invariant.0 c.index-node.ensures node.even l.left _ c.loop-left-test.true (sym (at_even node l.left w.if-left-eq1.false)) l.invariant.1)
    ]

pub returns : goal.returns
returns c =
    let l = c.loop-left in
    arrived c.args.self.now l.at c.index.result.now c.requires.good l.invariant.0 c.index.ensures l.left _ c.loop-left-test.false l.invariant.1
