use Rattle.std.proofs.Common.{rules, ◌≡◌, ◌<◌, length, arith}
use Rattle.std.proofs.lemmas.List.{drop_all}
use Rattle.frames.proofs.Marking.{clear_marked, marked_from}
use Rattle.frames.proofs.code_starts.mark_list.Goals as goal

pub loop-i-init : goal.loop-i-init
loop-i-init c =
    let none = drop_all (length c.args.list.now) c.args.list.now (omega arith) in
    rw none (clear_marked c.args.marks.now c.requires.clear)

pub loop-i-preserved : goal.loop-i-preserved
loop-i-preserved c =
    let small : c.from.result < 65536 = search rules in
    marked_from c.args.list.now c.loop-i.i c.loop-i.marks _ c.mark_of.result c.from.result c.loop-i-test.true (omega arith) c.from.ensures (omega (arith, small, c.requires.len)) (c.mark_of.ensures _ c.made_index.ensures) c.loop-i.invariant

pub returns : goal.returns
returns c = let none : c.loop-i.i ≡ 0 = omega (arith, c.loop-i-test.false) in rw none at c.loop-i.invariant
