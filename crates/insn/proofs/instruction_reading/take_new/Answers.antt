use Rattle.std.proofs.Common.{◌∙◌}
use Rattle.insn.proofs.Taken.{new_taken}
use Rattle.insn.proofs.instruction_reading.take_new.Goals as goal

pub returns : goal.returns
returns c =
    new_taken (λ b. b.now) c.args.cursor.now c.part.new.self 0 c.read_u16-index.result c.part.result c.in_ok-ok.field-0 (rw c.rest.ensures at c.in-len3-up.len_at_least)
    ((rw c.rest.ensures at c.if-number.false) ∙ c.number.ensures) (rw c.rest.ensures at c.read_u16-index.ensures) c.part.ensures c.in_ok-ok.ensures.value
