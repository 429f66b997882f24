use Rattle.std.proofs.Common.{◌∙◌, ◌<◌, length, refl, sym, subst, inr, arith}
use Rattle.std.proofs.lemmas.Option.{slice_get_read}
use Rattle.method_frames.specs.NumberedFrames.{NumberedFrames}
use Rattle.verify.specs.private.pass.Representatives.{TakesChanges}
use Rattle.verify.proofs.numbered.Representing.{all_more, all_of}
use Rattle.verify.proofs.pass.representatives.Bucket.all_take_frame.Goals as goal

pub takes_locals-requires : goal.takes_locals-requires
takes_locals-requires g c =
    let fs = c.args.self.now.list.items in
    let here = slice_get_read fs (length fs) c.loop-i.i c.index.result.now refl (omega (arith, c.loop-i-test.true, c.len-i-end.ensures, c.args.self.now.list.ok.0)) c.index.ensures in
    record { frame = subst (λ (x : NumberedFrames). c.index.result.now < length x.declared) (sym c.loop-i.invariant.same) (c.requires.bucket.1.declared c.loop-i.i c.index.result.now here) }

pub loop-i-preserved : goal.loop-i-preserved
loop-i-preserved g c =
    let x = c.args.frames.now in
    let fs = c.args.self.now.list.items in
    let here = slice_get_read fs (length fs) c.loop-i.i c.index.result.now refl (omega (arith, c.loop-i-test.true, c.len-i-end.ensures, c.args.self.now.list.ok.0)) c.index.ensures in
    record {
      same = c.takes_locals.ensures.same ∙ c.loop-i.invariant.same;
      taken =
          all_more (λ f. TakesChanges x f (length x.running.locals)) fs c.loop-i.i c.index.result.now here c.loop-i.invariant.taken
          (subst (λ (y : NumberedFrames). TakesChanges y c.index.result.now (length y.running.locals)) c.loop-i.invariant.same
          (λ place lt. inr (c.if-not-takes_locals.ensures.taken refl place lt)));
    }

pub returns-clause-taken : goal.returns-clause-taken
returns-clause-taken g c = λ t.
    let x = c.args.frames.now in
    all_of (λ f. TakesChanges x f (length x.running.locals)) c.args.self.now.list.items c.loop-i.i c.loop-i.invariant.taken
    (omega (arith, c.loop-i-test.false, c.len-i-end.ensures, c.args.self.now.list.ok.0))
