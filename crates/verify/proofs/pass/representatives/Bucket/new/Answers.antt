use Rattle.std.proofs.Common.{◌≡◌, ◌∙◌, [], slice_get, Some, sym, ap}
use Rattle.verify.proofs.pass.representatives.Bucket.new.Goals as goal

pub returns : goal.returns
returns c = λ s ds room. record {
  declared = λ k f e. absurd (let none : slice_get [] k ≡ Some f = sym (ap (λ xs. slice_get xs k) c.new.ensures.items) ∙ e in cc);
  within = λ k f e. absurd (let none : slice_get [] k ≡ Some f = sym (ap (λ xs. slice_get xs k) c.new.ensures.items) ∙ e in cc);
  watch = c.new-2.ensures s ds c.new.result.items;
}
