use Rattle.std.proofs.Common.{◌≡◌, ◌∙◌, ◌<◌, ℕ, length, set, slice_get, Some, refl, sym, ap, subst, arith}
use Rattle.std.specs.Prelude.{slice_index}
use Rattle.std.proofs.lemmas.List.{length-set}
use Rattle.std.proofs.lemmas.Option.{slice_get_read}
use Rattle.verify.specs.private.pass.Representatives.{TakesLocal}
use Rattle.verify.proofs.numbered.Listed.{set_here}
use Rattle.verify.proofs.numbered.Representing.{all_in_more, all_named, in_exchanged, back_exchanged, buckets_exchanged}
use Rattle.verify.proofs.pass.representatives.Representatives.all_take.Goals as goal

pub loop-i-preserved : goal.loop-i-preserved
loop-i-preserved g c =
    let x = c.args.frames.now in
    let P : ℕ → Type 0 = λ f. TakesLocal x.types x.declared f c.args.place c.args.number in
    let now = c.loop-i.self in
    let inv = c.loop-i.invariant in
    let bs = now.buckets.items in
    let i = c.loop-i.i in
    let was = c.index_mut.result.now in
    let one = c.all_take.new.self in
    let long = inv.long in
    let lt : i < length bs = omega (arith, c.loop-i-test.true, c.len-i-end.ensures, c.args.self.now.buckets.ok.0, long) in
    let here = slice_get_read bs (length bs) i was refl lt c.index_mut.ensures.value in
    let room = length now.until.items in
    let is = c.in_ok-all_take.ensures.bucket room (inv.buckets i was here) in
    let list = c.all_take.ensures.list in
    let there = set_here bs i one lt in
    record {
      buckets = buckets_exchanged bs i was one here x.types x.declared room is inv.buckets;
      until = inv.until;
      long = length-set bs i one ∙ long;
      kept = λ k f at. in_exchanged bs i was one here (λ f n e. (n, ap (λ l. slice_get l.items n) list ∙ e)) k f (inv.kept k f at);
      taken =
          all_in_more P (set bs i one) i one there
          (λ k f e. c.in_ok-all_take.ensures.taken c.if-not-branch.false k f (sym (ap (λ l. slice_get l.items k) list) ∙ e))
          (λ k f less at. inv.taken k f less (back_exchanged bs i was one here (λ f n e. (n, sym (ap (λ l. slice_get l.items n) list) ∙ e)) k f at));
    }

pub returns-then-not-branch-clause-representatives : goal.returns-then-not-branch-clause-representatives
returns-then-not-branch-clause-representatives g c =
    let x = c.args.frames.now in
    let now = c.loop-i.self in
    let inv = c.loop-i.invariant in
    let bs = now.buckets.items in
    let i = c.loop-i.i in
    let was = c.index_mut.result.now in
    let one = c.all_take.new.self in
    let long = inv.long in
    let lt : i < length bs = omega (arith, c.loop-i-test.true, c.len-i-end.ensures, c.args.self.now.buckets.ok.0, long) in
    let here = slice_get_read bs (length bs) i was refl lt c.index_mut.ensures.value in
    let room = length now.until.items in
    let is = c.in_ok-all_take.ensures.bucket room (inv.buckets i was here) in
    let list = c.all_take.ensures.list in
    record {
      buckets = buckets_exchanged bs i was one here x.types x.declared room is inv.buckets;
      named = λ f at.
          let n = c.requires.representatives.named f (subst (λ u. 0 < slice_index u.items f) inv.until at) in
          (n.0, in_exchanged bs i was one here (λ f n e. (n, ap (λ l. slice_get l.items n) list ∙ e)) n.0 f (inv.kept n.0 f n.1));
    }

pub returns-clause-representatives : goal.returns-clause-representatives
returns-clause-representatives g c =
    let inv = c.loop-i.invariant in
    record {
      buckets = inv.buckets;
      named = λ f at.
          let n = c.requires.representatives.named f (subst (λ u. 0 < slice_index u.items f) inv.until at) in
          (n.0, inv.kept n.0 f n.1);
    }

pub returns-clause-taken : goal.returns-clause-taken
returns-clause-taken g c = λ t f at.
    let x = c.args.frames.now in
    let inv = c.loop-i.invariant in
    let long = inv.long in
    let n = c.requires.representatives.named f at in
    all_named (λ f. TakesLocal x.types x.declared f c.args.place c.args.number) c.loop-i.self.buckets.items c.loop-i.i inv.taken
    (omega (arith, c.loop-i-test.false, c.len-i-end.ensures, c.args.self.now.buckets.ok.0, long)) f (n.0, inv.kept n.0 f n.1)
