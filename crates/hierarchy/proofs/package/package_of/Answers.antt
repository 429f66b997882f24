use Rattle.std.proofs.Common.{◌∙◌, ap, sym, take, arith}
use Rattle.hierarchy.proofs.Packaging.{at_slash, at_other}
use Rattle.hierarchy.proofs.package.package_of.Goals.{then-byte-eq47, else-byte-eq47}
use Rattle.hierarchy.proofs.package.package_of.Goals as goal

pub loop-i-preserved : goal.loop-i-preserved
loop-i-preserved c =
    let name = c.args.name.now in
    let i = c.loop-i.i in
    elim c.if-byte-eq47.branch [
      | then-byte-eq47 w ↦ record {
        front = at_slash name i _ c.loop-i-test.true w.if-byte-eq47.true ∙ ap (λ n. take n name) (sym w.end-is);
        within = omega (arith, w.end-is);
      }
      | else-byte-eq47 w ↦ record {
        front = at_other name i _ c.loop-i-test.true w.if-byte-eq47.false ∙ c.loop-i.invariant.front ∙ ap (λ n. take n name) (sym w.end-is);
        within = omega (arith, w.end-is, c.loop-i.invariant.within);
      }
    ]
