use Rattle.std.proofs.Common.{◌≡◌, ℕ, length}
use Rattle.verify.specs.private.pass.Representatives.{TakesLocal}
use Rattle.verify.specs.private.pass.Buckets.{AreBuckets, IsIn}
use Rattle.verify.proofs.numbered.Representing.{AllInTo}
use Rattle.verify.proofs.pass.representatives.Representatives.all_take.Given as goal

abbrev pub invariant-loop-i : goal.invariant-loop-i
invariant-loop-i g l =
    let x = l.frames in
    record {
      buckets : AreBuckets x.types x.declared (length l.self.until.items) l.self.buckets.items;
      until : l.self.until ≡ l.fn.self.until;
      long : length l.self.buckets.items ≡ length l.fn.self.buckets.items;
      kept : (i f : ℕ) → IsIn l.fn.self.buckets.items i f → IsIn l.self.buckets.items i f;
      taken : AllInTo (λ f. TakesLocal x.types x.declared f l.place l.number) l.self.buckets.items l.i;
    }
