use Rattle.std.proofs.Common.{◌≡◌, length}
use Rattle.verify.specs.private.pass.Representatives.{TakesChanges}
use Rattle.verify.proofs.numbered.Representing.{AllTo}
use Rattle.verify.proofs.pass.representatives.Bucket.all_take_frame.Given as goal

abbrev pub invariant-loop-i : goal.invariant-loop-i
invariant-loop-i g l =
    let x = l.initial.frames in
    record { same : l.frames ≡ x; taken : AllTo (λ f. TakesChanges x f (length x.running.locals)) l.self.list.items l.i }
