use Rattle.std.proofs.Common.{rules, ◌++◌, ap, ◌∙◌, length}
use Rattle.byteorder.specs.Endian.{big_bytes}
use Rattle.insn.specs.WrittenInstructions.{IsFine}
use Rattle.insn.specs.Views.{view}
use Rattle.insn.proofs.OperandLaws.{appended}
use Rattle.insn.proofs.instruction_writing.put_insn.Goals as goal

pub put_operands-requires : goal.put_operands-requires
put_operands-requires c =
    let fine : IsFine (length c.args.out.now.items) (view c.args.insn.now) = search rules in
    (length c.args.out.now.items, fine.agree)

pub returns : goal.returns
returns c =
    let old = c.args.out.now.items in
    let fine : IsFine (length old) (view c.args.insn.now) = search rules in
    appended (length old) (view c.args.insn.now) old c.put_u1.new.out.items c.put_operands.new.out.items c.put_operands.result
    fine c.put_operands.ensures.range (c.in_ok-put_u1.ensures ∙ ap (λ n. old ++ big_bytes 1 n) c.number.ensures) c.put_operands.ensures.bytes
