use Rattle.std.proofs.Common.{sym, ap, subst, arith}
use Rattle.type_numbers.specs.Numbers.{IsGiven}
use Rattle.method_frames.proofs.StackGiven.{reversed_given}
use Rattle.method_frames.proofs.StackWriting.{no_change, holds_none, changes_set, holds_set}
use Rattle.method_frames.proofs.stack_rows.write.Goals as goal

pub loop-place-init : goal.loop-place-init
loop-place-init g c = record { only = no_change c.args.from c.args.to c.args.rows.now; held = holds_none c.args.items.now c.args.from c.args.rows.now }

pub set-requires-clause-place : goal.set-requires-clause-place
set-requires-clause-place g c = let even = c.loop-place.invariant.only.even in omega (arith, c.requires.places, even)

pub set-requires-clause-given : goal.set-requires-clause-given
set-requires-clause-given g c =
    subst (λ s. IsGiven s c.get.result) (sym (ap (λ r. r.types) c.loop-place.invariant.only.rest))
    (subst (IsGiven c.args.rows.now.types) (sym c.get.ensures) (reversed_given c.args.rows.now.types c.args.items.now c.requires.given c.loop-place.place))

pub loop-place-preserved : goal.loop-place-preserved
loop-place-preserved g c =
    let mid = c.loop-place.rows in
    let even = c.loop-place.invariant.only.even in
    record {
      only = changes_set c.args.from c.args.to c.loop-place.place c.get.result c.args.rows.now mid c.set.new.self c.in_ok-set.ensures.ok (omega arith) (omega arith) c.loop-place.invariant.only;
      held = holds_set c.args.from c.args.to c.loop-place.place c.get.result c.args.rows.now mid c.set.new.self c.in_ok-set.ensures.ok c.args.items.now (omega (arith, c.requires.places, even)) c.get.ensures c.loop-place.invariant.held;
    }
