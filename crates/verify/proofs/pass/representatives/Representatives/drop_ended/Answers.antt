use Rattle.std.proofs.Common.{◌≤◌, ℕ, List, length, refl, sym, subst, arith}
use Rattle.type_numbers.specs.Numbers.{Numbering}
use Rattle.method_frames.specs.NumberedFrames.{NumberedFrame}
use Rattle.verify.specs.declared.pass.representatives.Representatives.{Representatives}
use Rattle.verify.specs.private.pass.Buckets.{AreRepresentatives, IsSorted}
use Rattle.verify.proofs.numbered.Dropping.{sorted_itself, sorted_on}
use Rattle.verify.proofs.pass.representatives.Representatives.drop_ended.Goals as goal
use Rattle.verify.proofs.pass.representatives.Representatives.drop_ended.Goals.{then-i-eq0+in_ok-sort, else-i-eq0+else-may_stop}

-- what is so once one more bucket was gone through
record Goes (at : ℕ) (old now : Representatives) : Type 0 where
  sorted : (s : Numbering) (ds : List (ℕ × NumberedFrame)) → AreRepresentatives s ds old → IsSorted s ds at old now
  more : length old.buckets.items ≤ length now.buckets.items

pub loop-i-init : goal.loop-i-init
loop-i-init c = record { sorted = λ s ds are. sorted_itself s ds c.args.at c.args.self.now are; more = omega arith }

pub sort-requires-clause-representatives : goal.sort-requires-clause-representatives
sort-requires-clause-representatives c = (c.requires.0, c.requires.1, (c.loop-i.invariant.sorted c.requires.0 c.requires.1 c.requires.2).are)

pub loop-i-preserved : goal.loop-i-preserved
loop-i-preserved c =
    let at = c.args.at in
    let old = c.args.self.now in
    let now = c.loop-i.self in
    let before = c.loop-i.invariant.more in
    let goes : Goes at old c.if-i-eq0.self = elim c.if-i-eq0.branch [
      | then-i-eq0+in_ok-sort w ↦
          subst (Goes at old) (sym w.self-is) (record {
            sorted = λ s ds are.
                let mid = c.loop-i.invariant.sorted s ds are in
                sorted_on s ds at old now w.sort.new.self mid (w.in_ok-sort.ensures.sorted s ds mid.are);
            more = (let more = w.in_ok-sort.ensures.more in omega (arith, before, more));
          })
      | else-i-eq0+else-may_stop w ↦ subst (Goes at old) (sym w.self-is) (record { sorted = c.loop-i.invariant.sorted; more = before })
    ] in
    record { sorted = goes.sorted; more = goes.more }
