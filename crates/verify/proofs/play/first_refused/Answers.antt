use Rattle.std.proofs.Common.{◌∙◌, sym, ap, Some}
use Rattle.std.proofs.lemmas.Option.{slice_get-get_or}
use Rattle.verify.proofs.Playing.{not_both, more_fine}
use Rattle.verify.proofs.play.first_refused.Goals as goal

pub returns-then-not-is_fine : goal.returns-then-not-is_fine
returns-then-not-is_fine c =
    let m = c.index-methods-i.result in
    record {
      here = slice_get-get_or c.args.methods.now c.loop-i.i m c.loop-i-test.true ∙ ap Some (sym c.index-methods-i.is);
      refused = λ f. not_both c.is_fine.result (c.is_fine.ensures.1 f) c.if-not-is_fine.true;
      before = c.loop-i.invariant;
    }

pub loop-i-preserved : goal.loop-i-preserved
loop-i-preserved c =
    let m = c.index-methods-i.result in
    more_fine c.args.methods.now c.loop-i.i m c.loop-i.invariant (slice_get-get_or c.args.methods.now c.loop-i.i m c.loop-i-test.true ∙ ap Some (sym c.index-methods-i.is)) (c.is_fine.ensures.0 c.if-not-is_fine.false)
