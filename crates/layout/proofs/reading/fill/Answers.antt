use Rattle.std.proofs.Common.{rules, length, subst, sym, ◌-◌}
use Rattle.std.specs.Io.KnownBytes.{Consumes}
use Rattle.std.proofs.KnownBytes.{Consumes-trans}
use borrow.Rule.Slice.PartMut.{post_of}
use Rattle.layout.proofs.Filled.{filled}
use Rattle.layout.proofs.reading.fill.Goals as goal

pub loop-at-preserved : goal.loop-at-preserved
loop-at-preserved g c =
    let xs = c.loop-at.piece in
    let at = c.loop-at.at in
    let joined = filled xs c.read.new.buf (post_of at (length xs - at) xs) at c.in-Ok.n (search rules) (search rules) in (
      search rules,
      search rules,
      subst (Consumes _ _) (sym joined) (Consumes-trans _ _ _ _ _ c.loop-at.invariant.2 c.in-Ok.ensures.bytes.0),
    )
