use Rattle.std.proofs.Common.{drop, ◌+◌}
use Rattle.printing.proofs.Writings.{with_left, one_more, stops_inside}
use Rattle.answers.specs.Judgements.{numbered_lines, lines_from}
use Rattle.answers.proofs.Numbering.{lines_left}
use Rattle.answers.proofs.judgements.JudgementsTextPrint.put.Goals as goal

pub returns-in-Err : goal.returns-in-Err
returns-in-Err g c =
    let held = g.W.Write.contents in
    let form = c.args.self.now.form in
    let js = c.args.self.now.judgements.now in
    let i = c.loop-i.i in
    let j = c.index-judgements-i.result in
    stops_inside (held c.args.out.now) (held c.loop-i.out) (held c.put.new.out) (lines_from form 1 js) (numbered_lines form (i + 1) j) (lines_from form ((i + 1) + 1) (drop (i + 1) js))
    (with_left _ _ _ _ _ (lines_left form js i j c.loop-i-test.true c.index-judgements-i.is) c.loop-i.invariant) c.in-Err.ensures

pub loop-i-preserved : goal.loop-i-preserved
loop-i-preserved g c =
    let held = g.W.Write.contents in
    let form = c.args.self.now.form in
    let js = c.args.self.now.judgements.now in
    let i = c.loop-i.i in
    let j = c.index-judgements-i.result in
    one_more (held c.args.out.now) (held c.loop-i.out) (held c.put.new.out) (lines_from form 1 js) (numbered_lines form (i + 1) j) (lines_from form ((i + 1) + 1) (drop (i + 1) js))
    (with_left _ _ _ _ _ (lines_left form js i j c.loop-i-test.true c.index-judgements-i.is) c.loop-i.invariant) c.in-Ok.ensures
