use Rattle.std.proofs.Common.{◌≡◌, length}
use Rattle.verify.specs.private.pass.Representatives.{TakesChanges}
use Rattle.verify.proofs.numbered.Representing.{AllInTo}
use Rattle.verify.proofs.pass.representatives.Representatives.all_take_frame.Given as goal

abbrev pub invariant-loop-i : goal.invariant-loop-i
invariant-loop-i g l =
    let x = l.initial.frames in
    record { same : l.frames ≡ x; taken : AllInTo (λ f. TakesChanges x f (length x.running.locals)) l.self.buckets.items l.i }
