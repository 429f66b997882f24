use Rattle.std.proofs.Common.{◌+◌, ◌-◌, ◌∷◌, []}
use Rattle.std.specs.Prelude.{replicate}
use Rattle.names.specs.Names.{bracket}
use Rattle.printing.proofs.Writings.{with_left, one_more, stops_inside}
use Rattle.printing.proofs.Frames.{brackets_left}
use Rattle.printing.proofs.frame.BracketsPrint.put.Goals as goal

pub loop-preserved : goal.loop-preserved
loop-preserved g c =
    let held = g.W.Write.contents in
    let n = c.args.self.now.0 in
    let i = c.loop.counter in
    one_more (held c.args.out.now) (held c.loop.out) (held c.put_bytes.new.out) (replicate n bracket) (bracket ∷ []) (replicate (n - (i + 1)) bracket)
    (with_left _ _ _ _ _ (brackets_left n i c.loop-test.true) c.loop.invariant) c.in-Ok.ensures

pub returns-in-Err : goal.returns-in-Err
returns-in-Err g c =
    let held = g.W.Write.contents in
    let n = c.args.self.now.0 in
    let i = c.loop.counter in
    stops_inside (held c.args.out.now) (held c.loop.out) (held c.put_bytes.new.out) (replicate n bracket) (bracket ∷ []) (replicate (n - (i + 1)) bracket)
    (with_left _ _ _ _ _ (brackets_left n i c.loop-test.true) c.loop.invariant) c.in-Err.ensures
