use Rattle.std.proofs.Common.{◌≡◌, ◌∙◌, length, set, slice_get, Some, refl, sym, ap, subst, arith}
use Rattle.std.proofs.lemmas.List.{length-set}
use Rattle.std.proofs.lemmas.Option.{slice_get_read}
use Rattle.verify.proofs.numbered.Listed.{set_here}
use Rattle.verify.proofs.numbered.Representing.{in_exchanged, buckets_exchanged, frames_kept, frame_last, bucket_more}
use Rattle.verify.proofs.pass.representatives.Representatives.put.Goals as goal

pub returns : goal.returns
returns c =
    let grown = c.grow.new.self in
    let bs = grown.buckets.items in
    let place = c.bucket_for-place.result in
    let frame = c.args.frame in
    let was = c.index_mut.result.now in
    let now = c.put.new.self in
    let said = c.in_ok-grow.ensures in
    let lt = said.room in
    let here = slice_get_read bs (length bs) place was refl lt c.index_mut.ensures.value in
    let list = c.in_ok-put.ensures.list in
    let watch = c.in_ok-put.ensures.watch in
    let last = frame_last was now frame list watch in
    record {
      put = record {
        buckets = λ s ds room less inside are.
            let grown_are = said.buckets s ds room are in
            buckets_exchanged bs place was now here s ds room (bucket_more was now frame list watch s ds room less inside (grown_are place was here)) grown_are;
        kept = λ f n. (n.0, in_exchanged bs place was now here (frames_kept was now frame list watch) n.0 f (said.kept n.0 f n.1));
        named = (place, record { bucket = now; there = set_here bs place now lt; place = last.0; here = last.1 });
        until = said.until;
        moved = said.moved;
        more = (let more = said.more in let long = length-set bs place now in omega (arith, more, long));
      };
    }
