use Rattle.std.proofs.Common.{ℕ, ◌<◌, ◌≡◌, List, length, Option, None, Ok, refl, sym, subst}
use Rattle.layout.specs.Place.{Place}
use Rattle.frames.specs.declared.code_starts.StartKind.{StartKind}
use Rattle.frames.proofs.Marking.{Marking, marking_shorter, marking_within, marking_next, marking_last}
use Rattle.frames.proofs.code_starts.mark_starts.Goals as goal

-- where nothing was skipped, all is as it was
still : (code : List ℕ) (p q : Place) (marks : List StartKind) → q ≡ p → Marking code p marks → Marking code q marks
still code p q marks same now = subst (λ (r : Place). Marking code r marks) (sym same) now

pub bounds-marks-at : goal.bounds-marks-at
bounds-marks-at c =
    let old = c.loop-marks.instructions in
    let x : ℕ × Option ℕ = (old.at, None) in
    rw c.at-at.ensures (marking_within c.args.code.now old c.skip_unconstrained.new.self c.loop-marks.marks (Ok x) x c.loop-marks.invariant (c.if-skip_unconstrained.ensures.skipped refl) refl)

pub loop-marks-preserved-then-skip_unconstrained : goal.loop-marks-preserved-then-skip_unconstrained
loop-marks-preserved-then-skip_unconstrained c =
    let old = c.loop-marks.instructions in
    let x : ℕ × Option ℕ = (old.at, None) in
    rw c.at-at.ensures (marking_next c.args.code.now old c.skip_unconstrained.new.self c.loop-marks.marks (Ok x) x c.loop-marks.invariant (c.if-skip_unconstrained.ensures.skipped refl) refl c.mark_of.result c.mark_of.ensures)

pub loop-marks-smaller-then-skip_unconstrained : goal.loop-marks-smaller-then-skip_unconstrained
loop-marks-smaller-then-skip_unconstrained c =
    let old = c.loop-marks.instructions in
    let x : ℕ × Option ℕ = (old.at, None) in
    marking_shorter c.args.code.now old c.skip_unconstrained.new.self c.loop-marks.marks (Ok x) x c.loop-marks.invariant (c.if-skip_unconstrained.ensures.skipped refl) refl

pub bounds-marks-at-in-loop-marks : goal.bounds-marks-at-in-loop-marks
bounds-marks-at-in-loop-marks c =
    let old = c.skip_unconstrained.new.self in
    let x : ℕ × Option ℕ = (c.in_ok-at.at, c.in_ok-at.made) in
    let now = still c.args.code.now c.loop-marks.instructions c.skip_unconstrained.new.self c.loop-marks.marks (c.if-skip_unconstrained.ensures.stayed refl) c.loop-marks.invariant in
    marking_within c.args.code.now old c.next_start.new.self c.loop-marks.marks c.in-Some.step x now c.in-Some.ensures c.in_ok-at.was

pub loop-marks-preserved : goal.loop-marks-preserved
loop-marks-preserved c =
    let old = c.skip_unconstrained.new.self in
    let x : ℕ × Option ℕ = (c.in_ok-at.at, c.in_ok-at.made) in
    let now = still c.args.code.now c.loop-marks.instructions c.skip_unconstrained.new.self c.loop-marks.marks (c.if-skip_unconstrained.ensures.stayed refl) c.loop-marks.invariant in
    marking_next c.args.code.now old c.next_start.new.self c.loop-marks.marks c.in-Some.step x now c.in-Some.ensures c.in_ok-at.was c.mark_of-in-loop-marks.result c.mark_of-in-loop-marks.ensures

pub loop-marks-smaller : goal.loop-marks-smaller
loop-marks-smaller c =
    let old = c.skip_unconstrained.new.self in
    let x : ℕ × Option ℕ = (c.in_ok-at.at, c.in_ok-at.made) in
    let now = still c.args.code.now c.loop-marks.instructions c.skip_unconstrained.new.self c.loop-marks.marks (c.if-skip_unconstrained.ensures.stayed refl) c.loop-marks.invariant in
    let less = marking_shorter c.args.code.now old c.next_start.new.self c.loop-marks.marks c.in-Some.step x now c.in-Some.ensures c.in_ok-at.was in
    subst (λ (p : Place). length c.next_start.new.self.rest < length p.rest) (c.if-skip_unconstrained.ensures.stayed refl) less

pub returns-in_default-clause-marked : goal.returns-in_default-clause-marked
returns-in_default-clause-marked c =
    let now = still c.args.code.now c.loop-marks.instructions c.skip_unconstrained.new.self c.loop-marks.marks (c.if-skip_unconstrained.ensures.stayed refl) c.loop-marks.invariant in
    marking_last c.args.code.now c.skip_unconstrained.new.self c.loop-marks.marks now c.in_default.ensures.0
