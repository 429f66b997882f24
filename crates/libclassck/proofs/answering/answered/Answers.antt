use Rattle.answers.specs.Files.{input_view}
use Rattle.libclassck.proofs.Telling.{told_by, nothing_by_request}
use Rattle.libclassck.proofs.answering.answered.Goals as goal

pub returns-in_default-clause-none : goal.returns-in_default-clause-none
returns-in_default-clause-none c = λ same. nothing_by_request c.args.request.now c.args.bytes.now c.args.ends.now c.in_default.ensures.none

pub returns-clause-told : goal.returns-clause-told
returns-clause-told c =
    told_by (λ file. file.now) input_view c.args.request.now c.args.bytes.now c.args.ends.now c.for_room-text.result.bytes.items c.answer.new.out.bytes.items c.in_ok-status.status
    c.in-Some-2.files.items c.deref.result.now c.in-Some.command c.in_ok-reads.reads.items c.deref-2.result.now c.in-Some.ensures.some
    (rw c.in-Some-2.is at c.in_ok-files.ensures) c.deref.ensures.value c.in_ok-reads.ensures c.deref-2.ensures.value c.for_room-text.ensures c.in_ok-status.ensures.answered
