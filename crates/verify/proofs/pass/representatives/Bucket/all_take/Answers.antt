use Rattle.std.proofs.Common.{◌≡◌, ℕ, List, slice_get, Some, sym, subst}
use Rattle.std.specs.Prelude.{IfOk, IsTrue}
use Rattle.verify.specs.private.pass.Representatives.{TakesLocal}
use Rattle.verify.specs.private.pass.Watching.{AreDeclared, IsWatch}
use Rattle.verify.specs.private.pass.Buckets.{IsBucket}
use Rattle.verify.proofs.pass.representatives.Bucket.all_take.Goals as goal

pub all_take-requires-clause-watch : goal.all_take-requires-clause-watch
all_take-requires-clause-watch g c =
    let x = c.args.frames.now in
    subst (λ fs. IsWatch x.types x.declared fs c.args.self.now.watch) (sym c.deref-2.ensures.value) c.requires.bucket.1.watch

pub returns-clause-taken : goal.returns-clause-taken
returns-clause-taken g c =
    let x = c.args.frames.now in
    subst (λ (fs : List ℕ). IfOk c.all_take.result (λ all. IsTrue all → (k f : ℕ) → slice_get fs k ≡ Some f → TakesLocal x.types x.declared f c.args.place c.args.number))
    c.deref-2.ensures.value c.all_take.ensures.taken
