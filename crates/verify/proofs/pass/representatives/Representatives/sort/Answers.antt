use Rattle.std.proofs.Common.{◌≡◌, ◌∙◌, ◌++◌, ◌≤◌, ◌<◌, ◌+◌, ℕ, List, [], length, refl, sym, ap, subst, arith}
use Rattle.std.proofs.lemmas.List.{get_or_read, length-set}
use Rattle.std.proofs.lemmas.Option.{slice_get_read}
use Rattle.type_numbers.specs.Numbers.{Numbering}
use Rattle.method_frames.specs.NumberedFrames.{NumberedFrame}
use Rattle.verify.specs.declared.pass.representatives.Representatives.{Representatives}
use Rattle.verify.specs.private.pass.Buckets.{AreRepresentatives}
use Rattle.verify.proofs.numbered.Dropping.{Sorting, sorting_first, sorting_put, sorting_ended, sorted}
use Rattle.verify.proofs.pass.representatives.Representatives.sort.Goals as goal
use Rattle.verify.proofs.pass.representatives.Representatives.sort.Goals.{then-at-until+in_ok-put, else-at-until}

whole : (xs ys zs : List ℕ) → xs ≡ ys ++ zs → ys ≡ [] → xs ≡ zs
whole xs ys zs e n = e ∙ ap (λ (q : List ℕ). q ++ zs) n

pub loop-i-init : goal.loop-i-init
loop-i-init c =
    let old = c.args.self.now in
    let place = c.args.place in
    let was = c.index_mut.result.now in
    let here = slice_get_read old.buckets.items (length old.buckets.items) place was refl c.requires.place c.index_mut.ensures.value in
    let long = length-set old.buckets.items place c.empty.new.self in
    record {
      sorting = λ s ds are. sorting_first s ds c.args.at old _ place was c.empty.new.self are here refl (c.in_ok-empty.ensures.bucket s ds (length old.until.items))
          (whole c.empty.new.list.items c.clear.new.self.items was.list.items c.in_ok-empty.ensures.list c.clear.ensures.items) refl;
      more = omega (arith, long);
      moved = refl;
    }

-- one more frame was gone through
record Goes (at : ℕ) (old before now : Representatives) (i : ℕ) : Type 0 where
  sorting : (s : Numbering) (ds : List (ℕ × NumberedFrame)) → AreRepresentatives s ds old → Sorting s ds at old (i + 1) now
  more : length old.buckets.items ≤ length now.buckets.items
  same : now.moved ≡ before.moved

pub index-until-requires : goal.index-until-requires
index-until-requires c =
    let now = c.loop-i.self in
    let i = c.loop-i.i in
    let frame = c.index-frame.result.now in
    let d = c.loop-i.invariant.sorting c.requires.representatives.0 c.requires.representatives.1 c.requires.representatives.2 in
    let lt : i < length now.moved.items = subst (λ v. i < length v.items) (sym c.loop-i.invariant.moved) (omega (arith, c.loop-i-test.true, c.len-i-end.ensures, c.empty.new.list.ok.0)) in
    let within = d.within i frame (slice_get_read now.moved.items (length now.moved.items) i frame refl lt c.index-frame.ensures) in
    let long = d.long in
    omega (arith, within, long, now.until.ok.0)

pub index_mut-requires-else-at-until : goal.index_mut-requires-else-at-until
index_mut-requires-else-at-until c =
    let now = c.loop-i.self in
    let i = c.loop-i.i in
    let frame = c.index-frame.result.now in
    let d = c.loop-i.invariant.sorting c.requires.representatives.0 c.requires.representatives.1 c.requires.representatives.2 in
    let lt : i < length now.moved.items = subst (λ v. i < length v.items) (sym c.loop-i.invariant.moved) (omega (arith, c.loop-i-test.true, c.len-i-end.ensures, c.empty.new.list.ok.0)) in
    let within = d.within i frame (slice_get_read now.moved.items (length now.moved.items) i frame refl lt c.index-frame.ensures) in
    let long = d.long in
    omega (arith, within, long, now.until.ok.0)

pub loop-i-preserved : goal.loop-i-preserved
loop-i-preserved c =
    let at = c.args.at in
    let old = c.args.self.now in
    let now = c.loop-i.self in
    let i = c.loop-i.i in
    let frame = c.index-frame.result.now in
    let lt : i < length now.moved.items = subst (λ v. i < length v.items) (sym c.loop-i.invariant.moved) (omega (arith, c.loop-i-test.true, c.len-i-end.ensures, c.empty.new.list.ok.0)) in
    let here = slice_get_read now.moved.items (length now.moved.items) i frame refl lt c.index-frame.ensures in
    let before = c.loop-i.invariant.more in
    let goes : Goes at old now c.if-at-until.self i = elim c.if-at-until.branch [
      | then-at-until+in_ok-put w ↦
          (let put = w.in_ok-put.ensures.put in
          subst (λ z. Goes at old now z i) (sym w.self-is) (record {
            sorting = λ s ds are. sorting_put s ds at old i now (c.loop-i.invariant.sorting s ds are) frame here w.put.new.self put;
            more = (let more = put.more in omega (arith, before, more));
            same = put.moved;
          }))
      | else-at-until w ↦
          subst (λ z. Goes at old now z i) (sym w.self-is) (record {
            sorting = λ s ds are.
                let d = c.loop-i.invariant.sorting s ds are in
                let within = d.within i frame here in
                let long = d.long in
                let room : frame < length now.until.items = omega (arith, within, long) in
                let is = get_or_read now.until.items frame c.index-until.result.now room c.index-until.ensures 0 in
                let past = w.if-at-until.false in
                sorting_ended s ds at old i now d frame here _ (omega (arith, is, past)) refl refl refl;
            more = before;
            same = refl;
          })
    ] in
    record { sorting = goes.sorting; more = goes.more; moved = goes.same ∙ c.loop-i.invariant.moved }

pub returns-clause-sorted : goal.returns-clause-sorted
returns-clause-sorted c = λ s ds are.
    let now = c.loop-i.self in
    let i = c.loop-i.i in
    let all : length now.moved.items ≤ i = subst (λ v. length v.items ≤ i) (sym c.loop-i.invariant.moved) (omega (arith, c.loop-i-test.false, c.len-i-end.ensures, c.empty.new.list.ok.0)) in
    sorted s ds c.args.at c.args.self.now i now all (c.loop-i.invariant.sorting s ds are)
