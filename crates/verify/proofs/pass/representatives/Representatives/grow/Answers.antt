use Rattle.std.proofs.Common.{length, sym, subst}
use Rattle.verify.specs.private.pass.Buckets.{AreBuckets, IsIn}
use Rattle.verify.proofs.numbered.Listed.{longer}
use Rattle.verify.proofs.numbered.Representing.{in_more, buckets_more}
use Rattle.verify.proofs.pass.representatives.Representatives.grow.Goals as goal

pub loop-self-preserved : goal.loop-self-preserved
loop-self-preserved c =
    let bs = c.loop-self.self.buckets.items in
    let pushed = c.in_ok-push.ensures.items in
    let before = c.loop-self.invariant.more in
    record {
      buckets = λ s ds room are. subst (AreBuckets s ds room) (sym pushed) (buckets_more s ds room bs c.new.result (c.new.ensures s ds room) (c.loop-self.invariant.buckets s ds room are));
      kept = λ i f at. subst (λ bs. IsIn bs i f) (sym pushed) (in_more bs c.new.result i f (c.loop-self.invariant.kept i f at));
      until = c.loop-self.invariant.until;
      moved = c.loop-self.invariant.moved;
      more = longer bs c.push.new.self.items c.new.result (length c.args.self.now.buckets.items) pushed before;
    }
