use Rattle.std.proofs.Common.{◌∙◌, length, refl, sym, subst, arith}
use Rattle.std.proofs.lemmas.Option.{slice_get_read}
use Rattle.method_frames.specs.NumberedFrames.{NumberedFrames}
use Rattle.verify.specs.private.pass.Buckets.{IsBucket}
use Rattle.verify.specs.private.pass.Representatives.{TakesChanges}
use Rattle.verify.proofs.numbered.Representing.{all_in_more, all_named}
use Rattle.verify.proofs.pass.representatives.Representatives.all_take_frame.Goals as goal

pub all_take_frame-requires : goal.all_take_frame-requires
all_take_frame-requires g c =
    let bs = c.args.self.now.buckets.items in
    let here = slice_get_read bs (length bs) c.loop-i.i c.index.result.now refl (omega (arith, c.loop-i-test.true, c.len-i-end.ensures, c.args.self.now.buckets.ok.0)) c.index.ensures in
    let room = length c.args.self.now.until.items in
    record { bucket = (room, subst (λ (x : NumberedFrames). IsBucket x.types x.declared room c.index.result.now) (sym c.loop-i.invariant.same) (c.requires.representatives.buckets c.loop-i.i c.index.result.now here)) }

pub loop-i-preserved : goal.loop-i-preserved
loop-i-preserved g c =
    let x = c.args.frames.now in
    let bs = c.args.self.now.buckets.items in
    let here = slice_get_read bs (length bs) c.loop-i.i c.index.result.now refl (omega (arith, c.loop-i-test.true, c.len-i-end.ensures, c.args.self.now.buckets.ok.0)) c.index.ensures in
    record {
      same = c.all_take_frame.ensures.same ∙ c.loop-i.invariant.same;
      taken =
          all_in_more (λ f. TakesChanges x f (length x.running.locals)) bs c.loop-i.i c.index.result.now here
          (λ k f e. subst (λ (y : NumberedFrames). TakesChanges y f (length y.running.locals)) c.loop-i.invariant.same (c.if-not-all_take_frame.ensures.taken refl k f e)) c.loop-i.invariant.taken;
    }

pub returns-clause-taken : goal.returns-clause-taken
returns-clause-taken g c = λ t f lt.
    let x = c.args.frames.now in
    all_named (λ f. TakesChanges x f (length x.running.locals)) c.args.self.now.buckets.items c.loop-i.i c.loop-i.invariant.taken
    (omega (arith, c.loop-i-test.false, c.len-i-end.ensures, c.args.self.now.buckets.ok.0)) f (c.requires.representatives.named f lt)
