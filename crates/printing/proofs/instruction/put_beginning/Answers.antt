use Rattle.std.proofs.Common.{subst, ◌∙◌, arith}
use Rattle.printing.specs.Writing.{Writes}
use Rattle.printing.proofs.OffsetTexts.{few_digits, beginning}
use Rattle.printing.proofs.instruction.put_beginning.Goals as goal

pub write_digits-start-requires : goal.write_digits-start-requires
write_digits-start-requires g c = (omega (arith, few_digits c.args.at c.ranges.at.fits), omega arith)

pub overflow_sub-start : goal.overflow_sub-start
overflow_sub-start g c = omega (arith, few_digits c.args.at c.ranges.at.fits, c.write_digits-start.ensures.start)

pub returns : goal.returns
returns g c =
    let held = g.W.Write.contents in
    let digits = c.write_digits-start in
    subst (λ t. Writes (held c.args.out.now) (held c.put_bytes.new.out) t c.put_bytes.result)
    (beginning c.args.at digits.result c.args.name.now c.copy_from_slice.new.self digits.new.buf c.ranges.at.fits c.requires (c.copy_from_slice.ensures.after ∙ c.as_bytes.ensures.value)
    digits.ensures.start digits.ensures.written digits.ensures.before c.from.result c.args.ends c.from.ensures)
    c.put_bytes.ensures
