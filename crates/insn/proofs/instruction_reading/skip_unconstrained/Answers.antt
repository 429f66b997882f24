use Rattle.insn.proofs.Taken.{skipped, skipped_when}
use Rattle.insn.proofs.instruction_reading.skip_unconstrained.Goals as goal

pub returns-then-length-gt0 : goal.returns-then-length-gt0
returns-then-length-gt0 c =
    let more = rw c.rest.ensures at c.in-len1-up.len_at_least in
    let is = rw c.rest.ensures at c.unconstrained_length-length.ensures in
    let k = c.unconstrained_length-length.result in
    record {
      skipped = skipped (λ b. b.now) c.args.cursor.now c.part.new.self k 0 c.part.result c.is_ok.result more is c.if-length-gt0.true c.part.ensures c.is_ok.ensures.value;
      when = skipped_when (λ b. b.now) c.args.cursor.now c.part.new.self k 0 c.part.result c.is_ok.result more is c.if-length-gt0.true c.part.ensures c.is_ok.ensures.value;
    }
