use Rattle.std.proofs.Common.{arith}
use Rattle.hierarchy.proofs.RowsKept.{begun, passed, walked_on, low, not_over}
use Rattle.hierarchy.proofs.rows.Rows.above.Goals as goal
use Rattle.hierarchy.proofs.rows.Rows.above.Goals.{then-left-eq1+in-Some, else-left-eq1}

pub loop-left-init : goal.loop-left-init
loop-left-init g c = begun c.args.self.now c.requires.formed c.args.place c.args.steps c.requires.deep.0 c.requires.deep.2

pub ancestor-requires-clause-looks : goal.ancestor-requires-clause-looks
ancestor-requires-clause-looks g c =
    let l = c.loop-left in
    let k = low c.args.self.now c.requires.formed c.args.place c.args.steps l.at l.left l.k l.looks l.invariant c.loop-left-test.true c.ranges.steps.fits in
    let few = l.invariant.few in
    omega (arith, k, few)

pub unreachable-requires : goal.unreachable-requires
unreachable-requires g c =
    let l = c.loop-left in
    let d = c.requires.deep in
    not_over c.args.self.now c.requires.formed c.args.place c.args.steps l.at l.left l.k l.looks l.invariant c.loop-left-test.true d.0 d.1 d.2 d.3 d.4 c.in-None.ensures.found

pub loop-left-preserved : goal.loop-left-preserved
loop-left-preserved g c =
    let l = c.loop-left in
    elim c.if-left-eq1.branch [
      | then-left-eq1+in-Some w ↦ rw (w.at-is, w.looks-is, w.in-Some.ensures.looked) (walked_on c.args.self.now c.requires.formed c.args.place c.args.steps l.at l.left l.k l.looks l.invariant w.in-Some.next w.if-left-eq1.true w.in-Some.ensures.found)
      | else-left-eq1 w ↦ rw (w.at-is, w.looks-is) (passed c.args.self.now c.requires.formed c.args.place c.args.steps l.at l.left l.k l.looks l.invariant (omega (arith, w.if-left-eq1.false)))
    ]
