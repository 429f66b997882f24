use Rattle.std.proofs.Common.{◌∙◌, length, map, sym, ap, drop, ◌<◌, ◌+◌, arith}
use Rattle.hierarchy.specs.Answer.{no, outcome_of}
use Rattle.std.proofs.lemmas.List.{length-map}
use Rattle.frames.specs.VerificationType.{type_of}
use Rattle.frames.specs.FrameAssignable.{both, slot_answer, list_answer}
use Rattle.frames.proofs.Slots.{list_uneven, list_next, list_end, both_no}
use Rattle.frames.proofs.frame_assignability.slots_assignable.Goals as goal

pub returns-then-from-to : goal.returns-then-from-to
returns-then-from-to g c =
    let xs = c.args.from.now in
    let ys = c.args.to.now in
    sym (list_uneven (slot_answer (g.C.Classes.content c.args.classes.now) c.args.on_stack) (map type_of xs) (map type_of ys) (λ e. c.if-from-to.true (sym (length-map xs type_of) ∙ e ∙ length-map ys type_of)))

pub loop-i-preserved : goal.loop-i-preserved
loop-i-preserved g c =
    let f = slot_answer (g.C.Classes.content c.args.classes.now) c.args.on_stack in
    let within : c.loop-i.i < length c.args.to.now = omega arith in
    record {
      even = c.loop-i.invariant.even;
      rest = c.loop-i.invariant.rest ∙ list_next f c.args.from.now c.args.to.now c.loop-i.i _ _ (outcome_of c.loop-i.so_far) (outcome_of c.slot_assignable-answer.result) c.loop-i-test.true within c.slot_assignable-answer.ensures
          ∙ ap (λ r. both r (list_answer f (map type_of (drop (c.loop-i.i + 1) c.args.from.now)) (map type_of (drop (c.loop-i.i + 1) c.args.to.now)))) (sym c.both-so_far.ensures);
    }

pub returns-in-No : goal.returns-in-No
returns-in-No g c =
    let f = slot_answer (g.C.Classes.content c.args.classes.now) c.args.on_stack in
    let within : c.loop-i.i < length c.args.to.now = omega arith in
    let r = outcome_of c.loop-i.so_far in
    sym (c.loop-i.invariant.rest ∙ list_next f c.args.from.now c.args.to.now c.loop-i.i _ _ r no c.loop-i-test.true within c.in-No.ensures
    ∙ ap (λ s. both s (list_answer f (map type_of (drop (c.loop-i.i + 1) c.args.from.now)) (map type_of (drop (c.loop-i.i + 1) c.args.to.now)))) (both_no r))

pub returns : goal.returns
returns g c =
    let f = slot_answer (g.C.Classes.content c.args.classes.now) c.args.on_stack in
    sym (c.loop-i.invariant.rest ∙ list_end f c.args.from.now c.args.to.now c.loop-i.i (outcome_of c.loop-i.so_far) (omega arith) c.loop-i.invariant.even)
