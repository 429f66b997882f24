use Rattle.std.proofs.Common.{◌≡◌, ◌≢◌, ◌∙◌, sym, ap, length, map, arith}
use Rattle.hierarchy.specs.Answer.{yes, outcome_of, yes_if}
use Rattle.frames.specs.VerificationType.{type_of}
use Rattle.frames.specs.Assignable.{type_answer}
use Rattle.frames.specs.FrameAssignable.{item_answer, list_answer, flag_answer}
use Rattle.frames.proofs.Slots.{frame_uneven, frame_parts}
use Rattle.frames.proofs.frame_assignability.frame_assignable.Goals as goal

pub returns-then-len : goal.returns-then-len
returns-then-len g c =
    let f = c.args.from.now in
    let h = c.args.to.now in
    let uneven : length f.stack.items ≢ length h.stack.items = omega (arith, f.stack.ok.0, h.stack.ok.0) in
    sym (frame_uneven (g.C.Classes.content c.args.classes.now) f h uneven)

pub returns : goal.returns
returns g c =
    let classes = g.C.Classes.content c.args.classes.now in
    let f = c.args.from.now in
    let h = c.args.to.now in
    let r = outcome_of c.slots_assignable-locals.result in
    let s = outcome_of c.slots_assignable.result in
    let flags : flag_answer f.flag h.flag ≡ yes = c.keeps_flag.ensures ∙ ap yes_if c.if-not-keeps_flag.false in
    let even : length f.stack.items ≡ length h.stack.items = omega (arith, f.stack.ok.0, h.stack.ok.0) in
    let locals : r ≡ list_answer (type_answer classes) (map type_of f.locals.items) (map type_of h.locals.items) = rw (← c.deref.ensures.value, ← c.deref-2.ensures.value) c.slots_assignable-locals.ensures in
    let stack : s ≡ list_answer (item_answer classes) (map type_of f.stack.items) (map type_of h.stack.items) = rw (← c.deref-3.ensures.value, ← c.deref-4.ensures.value) c.slots_assignable.ensures in
    c.both.ensures ∙ frame_parts classes f h r s flags even locals stack
