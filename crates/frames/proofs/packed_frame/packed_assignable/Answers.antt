use Rattle.std.proofs.Common.{◌≡◌, ◌∙◌, ◌+◌, length, drop, get_or, false, sym, ap, arith}
use Rattle.std.proofs.lemmas.Bool.{false≢true}
use lib.Lanes.{chunk}
use Rattle.blocks.specs.Lanes.{is_decided_by, AreDecidedLanes}
use Rattle.hierarchy.specs.Answer.{outcome_of}
use Rattle.frames.specs.FrameAssignable.{both}
use Rattle.frames.specs.Packing.{absent_slot}
use Rattle.frames.specs.PackedFrames.{place_answers, joined}
use Rattle.frames.specs.Undecided.{is_undecided}
use Rattle.frames.proofs.PackedRows.{not_alike, past, past_one, past_answer, at_no, at_end}
use Rattle.frames.proofs.packed_frame.packed_assignable.Goals as goal
use Rattle.frames.proofs.packed_frame.packed_assignable.Goals.{then-is_undecided+in_default-answer, else-is_undecided}

pub returns-then-not-are_alike : goal.returns-then-not-are_alike
returns-then-not-are_alike g c = not_alike (g.C.Classes.content c.args.classes.now) c.args.from.now c.args.to.now (λ a. false≢true (sym c.if-not-are_alike.true ∙ c.are_alike.ensures.1 a))

pub returns-in-No : goal.returns-in-No
returns-in-No g c =
    let h = g.C.Classes.content c.args.classes.now in
    let p = c.args.from.now in
    let q = c.args.to.now in
    let alike = c.are_alike.ensures.0 c.if-not-are_alike.false in
    let at = c.loop-at.at in
    let n = c.decided_lanes-decided.result in
    let count : length c.deref-ours.result.now ≡ length c.args.from.now.slots.items = ap length c.deref-ours.ensures.value in
    let room = c.loop-at-test.true in
    let lanes : AreDecidedLanes (is_decided_by absent_slot false) (chunk at 8 p.slots.items) (chunk at 8 q.slots.items) 8 n = rw (← c.deref-ours.ensures.value, ← c.deref-theirs.ensures.value) c.decided_lanes-decided.ensures in
    let r = outcome_of c.loop-at.so_far in
    let on = past h p q c.requires.from c.requires.to alike r at c.loop-at.invariant.rest n (omega (arith, count, room)) lanes in
    at_no h p q c.requires.from c.requires.to alike r (at + n) on c.in-No.ensures

pub loop-at-preserved-then-decided-lt8 : goal.loop-at-preserved-then-decided-lt8
loop-at-preserved-then-decided-lt8 g c =
    let h = g.C.Classes.content c.args.classes.now in
    let p = c.args.from.now in
    let q = c.args.to.now in
    let alike = c.are_alike.ensures.0 c.if-not-are_alike.false in
    let at = c.loop-at.at in
    let n = c.decided_lanes-decided.result in
    let count : length c.deref-ours.result.now ≡ length c.args.from.now.slots.items = ap length c.deref-ours.ensures.value in
    let room = c.loop-at-test.true in
    let less = c.if-decided-lt8.true in
    let lanes : AreDecidedLanes (is_decided_by absent_slot false) (chunk at 8 p.slots.items) (chunk at 8 q.slots.items) 8 n = rw (← c.deref-ours.ensures.value, ← c.deref-theirs.ensures.value) c.decided_lanes-decided.ensures in
    let r = outcome_of c.loop-at.so_far in
    let on = past h p q c.requires.from c.requires.to alike r at c.loop-at.invariant.rest n (omega (arith, count, room)) lanes in
    record {
      within = omega (arith, count, room, less);
      rest = past_answer h p q c.requires.from c.requires.to alike r (at + n) on _ c.place_assignable-answer.ensures ∙ ap (λ s. both s (joined (drop (at + n + 1) (place_answers h p q)))) (sym c.both-so_far.ensures);
    }

pub loop-at-preserved : goal.loop-at-preserved
loop-at-preserved g c =
    let h = g.C.Classes.content c.args.classes.now in
    let p = c.args.from.now in
    let q = c.args.to.now in
    let alike = c.are_alike.ensures.0 c.if-not-are_alike.false in
    let at = c.loop-at.at in
    let n = c.decided_lanes-decided.result in
    let count : length c.deref-ours.result.now ≡ length c.args.from.now.slots.items = ap length c.deref-ours.ensures.value in
    let room = c.loop-at-test.true in
    let lanes : AreDecidedLanes (is_decided_by absent_slot false) (chunk at 8 p.slots.items) (chunk at 8 q.slots.items) 8 n = rw (← c.deref-ours.ensures.value, ← c.deref-theirs.ensures.value) c.decided_lanes-decided.ensures in
    let few = lanes.few in
    record {
      within = omega (arith, count, room, few);
      rest = past h p q c.requires.from c.requires.to alike (outcome_of c.loop-at.so_far) at c.loop-at.invariant.rest n (omega (arith, count, room)) lanes;
    }

pub returns-in-No-answer : goal.returns-in-No-answer
returns-in-No-answer g c =
    let alike = c.are_alike.ensures.0 c.if-not-are_alike.false in
    at_no (g.C.Classes.content c.args.classes.now) c.args.from.now c.args.to.now c.requires.from c.requires.to alike (outcome_of c.loop-at-2.so_far) c.loop-at-2.at c.loop-at-2.invariant.rest
    c.in-No-answer.ensures

pub loop-at-2-preserved : goal.loop-at-2-preserved
loop-at-2-preserved g c =
    let h = g.C.Classes.content c.args.classes.now in
    let p = c.args.from.now in
    let q = c.args.to.now in
    let alike = c.are_alike.ensures.0 c.if-not-are_alike.false in
    let count : length c.deref-ours.result.now ≡ length c.args.from.now.slots.items = ap length c.deref-ours.ensures.value in
    let at = c.loop-at-2.at in
    let more = c.loop-at-2-test.true in
    let r = outcome_of c.loop-at-2.so_far in
    elim c.if-is_undecided.branch [
      | then-is_undecided+in_default-answer w ↦
          record {
            within = omega (arith, count, more);
            rest = rw w.so_far-is (past_answer h p q c.requires.from c.requires.to alike r at c.loop-at-2.invariant.rest _ w.place_assignable-answer-then-is_undecided.ensures ∙ ap (λ s. both s (joined (drop (at + 1) (place_answers h p q)))) (sym w.both-so_far-then-is_undecided.ensures));
          }
      | else-is_undecided w ↦
          let decided : is_undecided (get_or p.slots.items at 0) (get_or q.slots.items at 0) ≡ false = rw (← c.deref-ours.ensures.value, ← c.deref-theirs.ensures.value) (sym c.is_undecided.ensures ∙ w.if-is_undecided.false) in
          record { within = omega (arith, count, more); rest = rw w.so_far-is (past_one h p q c.requires.from c.requires.to alike r at c.loop-at-2.invariant.rest (omega (arith, count, more)) decided) }
    ]

pub returns : goal.returns
returns g c =
    let alike = c.are_alike.ensures.0 c.if-not-are_alike.false in
    let count : length c.deref-ours.result.now ≡ length c.args.from.now.slots.items = ap length c.deref-ours.ensures.value in
    let over = c.loop-at-2-test.false in
    at_end (g.C.Classes.content c.args.classes.now) c.args.from.now c.args.to.now c.requires.from c.requires.to alike (outcome_of c.loop-at-2.so_far) c.loop-at-2.at c.loop-at-2.invariant.rest (omega (arith, count, over))
