use Rattle.std.proofs.Common.{◌≡◌, ◌∙◌, [], slice_get, Some, sym, ap}
use Rattle.verify.proofs.pass.representatives.Bucket.empty.Goals as goal

pub returns-clause-bucket : goal.returns-clause-bucket
returns-clause-bucket c = λ s ds room. record {
  declared = λ k f e. absurd (let none : slice_get [] k ≡ Some f = sym (ap (λ xs. slice_get xs k) c.in_ok-append.ensures.other_items) ∙ e in cc);
  within = λ k f e. absurd (let none : slice_get [] k ≡ Some f = sym (ap (λ xs. slice_get xs k) c.in_ok-append.ensures.other_items) ∙ e in cc);
  watch = c.clear.ensures s ds c.append.new.other.items;
}
