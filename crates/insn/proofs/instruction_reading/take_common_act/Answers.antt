use Rattle.insn.proofs.Taken.{alone_taken, act_taken}
use Rattle.insn.proofs.instruction_reading.take_common_act.Goals as goal

pub returns-in-Some : goal.returns-in-Some
returns-in-Some c =
    alone_taken (λ b. b.now) c.args.cursor.now c.part.new.self 0 c.in_ok-form.field-0.now c.in-Some.act c.part.result c.in_ok-ok.field-0 (rw c.rest.ensures at c.in_ok-form.ensures) c.in-Some.is
    c.part.ensures c.in_ok-ok.ensures.value

pub returns : goal.returns
returns c =
    act_taken (λ b. b.now) c.args.cursor.now c.part-2.new.self 0 c.in_ok-form.field-0.now c.in_ok-act.act c.in_ok-act.length c.part-2.result c.in_ok-ok-2.field-0
    (rw c.rest.ensures at c.in_ok-form.ensures) (rw c.rest-2.ensures at c.in_ok-act.ensures) c.part-2.ensures c.in_ok-ok-2.ensures.value
