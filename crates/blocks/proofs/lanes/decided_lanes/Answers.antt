use Rattle.std.proofs.Common.{not, eqb}
use Rattle.blocks.proofs.EightLanes.{every_fits, none_fits, none_set, some_set}
use Rattle.blocks.proofs.lanes.decided_lanes.Goals as goal
use Rattle.blocks.proofs.lanes.decided_lanes.Goals.{then-this-ne0, else-this-ne0}

pub returns-then-mask-eq0 : goal.returns-then-mask-eq0
returns-then-mask-eq0 g c =
    let mark = g.row.MARK in
    let n = g.row.MARK_FITS in
    let a = c.args.numbers in
    let b = c.args.wanted in
    let first = c.requires.numbers in
    let second = c.requires.wanted in
    elim c.if-this-ne0.branch [
      | then-this-ne0 w ↦ none_set mark a b first second (not (eqb n 0)) _ (every_fits mark a b first second n w.if-this-ne0.true _ w.undecided-is) c.if-mask-eq0.true
      | else-this-ne0 w ↦ none_set mark a b first second (not (eqb n 0)) _ (none_fits mark a b first second n w.if-this-ne0.false _ w.undecided-is) c.if-mask-eq0.true
    ]

pub returns-else-mask-eq0 : goal.returns-else-mask-eq0
returns-else-mask-eq0 g c =
    let mark = g.row.MARK in
    let n = g.row.MARK_FITS in
    let a = c.args.numbers in
    let b = c.args.wanted in
    let first = c.requires.numbers in
    let second = c.requires.wanted in
    elim c.if-this-ne0.branch [
      | then-this-ne0 w ↦ some_set mark a b first second (not (eqb n 0)) _ (every_fits mark a b first second n w.if-this-ne0.true _ w.undecided-is) c.if-mask-eq0.false
      | else-this-ne0 w ↦ some_set mark a b first second (not (eqb n 0)) _ (none_fits mark a b first second n w.if-this-ne0.false _ w.undecided-is) c.if-mask-eq0.false
    ]
