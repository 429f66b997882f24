use Rattle.std.proofs.Common.{rules, ℕ, get_or, ◌∙◌, refl, sym, ap}
use Rattle.std.specs.Int.{cast_signed, w8, w16, w32}
use Rattle.std.proofs.lemmas.Int.{to_z-of_z}
use Rattle.byteorder.specs.Endian.{big_number}
use Rattle.insn.specs.Instructions.{operands_at, index, constant, local, branch, byte, short}
use Rattle.insn.specs.Meanings.{index_of, local_of, offset_of}
use Rattle.insn.specs.private.OperandParts.{index_and_byte}
use Rattle.insn.proofs.Taken.{has_number, byte_there, two_there, by_part, by_any, increment_there, interface_there}
use Rattle.insn.proofs.instruction_reading.common_act.Goals as goal

pub returns-in_ok-act_of_index-in-Index : goal.returns-in_ok-act_of_index-in-Index
unfolding operands_at
returns-in_ok-act_of_index-in-Index c =
    let bytes = c.args.bytes.now in
    let there = sym (ap (big_number 2) (two_there bytes 0 c.in-len3-up.len_at_least)) in
    has_number 2 index bytes c.args.form c.args.meaning c.in_ok-act_of_index-in-Index.field-0 c.in-len3-up.len_at_least (λ at. ap (operands_at at) c.in-Index.is) (λ j o. refl)
    (by_part index_of c.args.meaning c.read_u16-index.result c.act_of_index.result c.in_ok-act_of_index-in-Index.field-0 _ c.act_of_index.ensures c.in_ok-act_of_index-in-Index.was
    (c.read_u16-index.ensures ∙ there))

pub returns-in_ok-act_of_offset-in-Branch : goal.returns-in_ok-act_of_offset-in-Branch
unfolding operands_at
returns-in_ok-act_of_offset-in-Branch c =
    let bytes = c.args.bytes.now in
    let there = sym (ap (big_number 2) (two_there bytes 0 c.in-len3-up-bytes.len_at_least)) in
    has_number 2 (λ j. branch (cast_signed w16 j)) bytes c.args.form c.args.meaning c.in_ok-act_of_offset-in-Branch.field-0 c.in-len3-up-bytes.len_at_least
    (λ at. ap (operands_at at) c.in-Branch.is) (λ j o. refl)
    (by_part offset_of c.args.meaning _ c.act_of_offset.result c.in_ok-act_of_offset-in-Branch.field-0 _ c.act_of_offset.ensures c.in_ok-act_of_offset-in-Branch.was
    (to_z-of_z w32 c.from.result (search rules) ∙ c.from.ensures ∙ to_z-of_z w16 c.read_i16-offset.result (search rules) ∙ c.read_i16-offset.ensures ∙ ap (cast_signed w16) there))

pub returns-in_ok-act_of_local-in-Local : goal.returns-in_ok-act_of_local-in-Local
unfolding operands_at
returns-in_ok-act_of_local-in-Local c =
    let bytes = c.args.bytes.now in
    has_number 1 local bytes c.args.form c.args.meaning c.in_ok-act_of_local-in-Local.field-0 c.in-len2-up.len_at_least (λ at. ap (operands_at at) c.in-Local.is) (λ j o. refl)
    (by_part local_of c.args.meaning c.from-in-Local.result c.act_of_local.result c.in_ok-act_of_local-in-Local.field-0 _ c.act_of_local.ensures c.in_ok-act_of_local-in-Local.was
    (c.from-in-Local.ensures ∙ byte_there bytes 0 c.in-len2-up.len_at_least))

pub returns-in_ok-act_of_index-in-Constant : goal.returns-in_ok-act_of_index-in-Constant
unfolding operands_at
returns-in_ok-act_of_index-in-Constant c =
    let bytes = c.args.bytes.now in
    has_number 1 constant bytes c.args.form c.args.meaning c.in_ok-act_of_index-in-Constant.field-0 c.in-len2-up-bytes.len_at_least (λ at. ap (operands_at at) c.in-Constant.is) (λ j o. refl)
    (by_part index_of c.args.meaning c.from-in-Constant.result c.act_of_index-in-Constant.result c.in_ok-act_of_index-in-Constant.field-0 _ c.act_of_index-in-Constant.ensures
    c.in_ok-act_of_index-in-Constant.was (c.from-in-Constant.ensures ∙ byte_there bytes 0 c.in-len2-up-bytes.len_at_least))

pub returns-in_ok-act_of_number-in-Byte : goal.returns-in_ok-act_of_number-in-Byte
unfolding operands_at
returns-in_ok-act_of_number-in-Byte c =
    has_number 1 (λ j. byte (cast_signed w8 j)) c.args.bytes.now c.args.form c.args.meaning c.in_ok-act_of_number-in-Byte.field-0 c.if-bytes-ge2.true
    (λ at. ap (operands_at at) c.in-Byte.is) (λ j o. refl)
    (by_any c.args.meaning c.act_of_number.result c.in_ok-act_of_number-in-Byte.field-0 _ c.act_of_number.ensures c.in_ok-act_of_number-in-Byte.was)

pub returns-in_ok-act_of_number-in-Short : goal.returns-in_ok-act_of_number-in-Short
unfolding operands_at
returns-in_ok-act_of_number-in-Short c =
    has_number 2 (λ j. short (cast_signed w16 j)) c.args.bytes.now c.args.form c.args.meaning c.in_ok-act_of_number-in-Short.field-0 c.if-bytes-ge3.true
    (λ at. ap (operands_at at) c.in-Short.is) (λ j o. refl)
    (by_any c.args.meaning c.act_of_number-in-Short.result c.in_ok-act_of_number-in-Short.field-0 _ c.act_of_number-in-Short.ensures c.in_ok-act_of_number-in-Short.was)

pub returns-in_ok-act_of_local-in-Increment : goal.returns-in_ok-act_of_local-in-Increment
returns-in_ok-act_of_local-in-Increment c =
    increment_there c.args.bytes.now c.args.form c.args.meaning c.in_ok-act_of_local-in-Increment.field-0 c.in-Increment.is c.in-len3-up-bytes-2.len_at_least
    (λ x same. by_part local_of c.args.meaning c.from-in-Increment.result c.act_of_local-in-Increment.result c.in_ok-act_of_local-in-Increment.field-0 x c.act_of_local-in-Increment.ensures
    c.in_ok-act_of_local-in-Increment.was (c.from-in-Increment.ensures ∙ same))

pub returns-in_ok-act_of_count-in-InvokeInterface :
    goal.returns-in_ok-act_of_count-in-InvokeInterface
returns-in_ok-act_of_count-in-InvokeInterface c =
    interface_there c.args.bytes.now c.args.form c.args.meaning c.in_ok-act_of_count-in-InvokeInterface.field-0 c.in-InvokeInterface.is c.in-len5-up.len_at_least c.if-zero-ne0.false
    (λ x i n. by_part index_and_byte c.args.meaning (c.read_u16-index-in-InvokeInterface.result, _) c.act_of_count.result c.in_ok-act_of_count-in-InvokeInterface.field-0 x c.act_of_count.ensures
    c.in_ok-act_of_count-in-InvokeInterface.was (ap (λ (k : ℕ). (k, get_or c.args.bytes.now 3 0)) (c.read_u16-index-in-InvokeInterface.ensures ∙ i) ∙ ap (λ (k : ℕ). (index_of x, k)) n))
