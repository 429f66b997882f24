-- Exactly one list of bytes spells an instruction, or the operands after an opcode, that agree; none spells those that
-- do not.
use Rattle.std.proofs.Common.{◌≡◌, ℕ, ℤ, ◌^◌, ◌<◌, true, cond, Option, Some, None, List, [], ◌++◌, length, Result, Ok, Err, refl, sym, ap, subst, ◌∙◌, append_assoc, arith, eqb, SFits, of_z, w8, w16, w32}
use Rattle.std.specs.Int.{cast_signed, cast_unsigned}
use Rattle.std.proofs.lemmas.Int.{to_z-of_z, of_z-to_z}
use Rattle.std.proofs.lemmas.List.{append-nil, length-append}
use Rattle.std.proofs.lemmas.Option.{slice_get_within}
use Rattle.std.proofs.Math.Facts.{Fits-of_z}
use Rattle.byteorder.specs.Endian.{big_bytes}
use Rattle.layout.specs.Format.{AreBytes, Format, done, Spells, andthen, number}
use Rattle.layout.specs.FormatLaws.{AreBytes-parts, number_1, number_2, number_4, andthen_spelled, andthen_parts}
use Rattle.layout.specs.declared.fault.WriteFault.{WriteFault}
use Rattle.insn.specs.declared.fault.CodeFault.TheVariants.{NonZeroByte}
use Rattle.insn.specs.declared.table.Form.{Form}
use Rattle.insn.specs.declared.table.Form.TheVariants as forms
use Rattle.insn.specs.declared.opcode.Opcode.{Opcode}
use Rattle.insn.specs.Opcodes.{opcodes, opcode_of, form, number as opcode_number}
use Rattle.insn.specs.Instructions.{Instruction, Operands, Outcome, nothing, byte, short, constant, index, local, increment, branch, wide_branch, invoke_interface, invoke_dynamic, new_array, multi_new_array, table_switch, lookup_switch, wide_local, wide_increment, widened, widened_opcode, wide_at, invoke_interface_at, invoke_dynamic_at, operands_at, of_opcode, behind_opcode, instruction_at}
use Rattle.insn.specs.Code.{SpellsInstruction}
use Rattle.insn.specs.Encoding.{Appends, AppendsInstruction}
use Rattle.insn.specs.InstructionSizes.{operands_size, size}
use Rattle.insn.specs.WrittenInstructions.{form_of, takes_local, takes_increment, agrees, AreInRange, IsFine, switch_head, operands_bytes, instruction_bytes}
use Rattle.insn.proofs.Numbers.{by_number, has_number}
use Rattle.insn.proofs.Spelled.{outcome, last, Known, signed, number_parts, number_first, number_last, number_known, increment_known, multi_new_array_known, invoke_interface_known, invoke_dynamic_known, wide_known}
use Rattle.insn.proofs.Switches.{table_switch_known, lookup_switch_known, table_switch_written, lookup_switch_written}

-- ---- bytes that spell operands are what they are written as

known : (at : ℕ) (f : Form) (bytes : List ℕ) (x : Operands) → AreBytes bytes → Spells (operands_at at f) bytes (outcome x) → Known at f bytes x
unfolding operands_at operands_bytes
known at forms.Nothing bytes x fit s =
    let l = last nothing x bytes s in
    subst (λ (y : Operands). Known at forms.Nothing bytes y) l.1 (record { has_form = refl; agree = refl; bytes_are = l.0 })
known at forms.Byte bytes x fit s =
    number_known at forms.Byte 1 number_1 (λ n. byte (cast_signed w8 n)) bytes x (λ k. refl) (λ k. refl) (λ k lt. signed 1 w8 k (of_z-to_z w8 k lt)) fit s
known at forms.Short bytes x fit s =
    number_known at forms.Short 2 number_2 (λ n. short (cast_signed w16 n)) bytes x (λ k. refl) (λ k. refl) (λ k lt. signed 2 w16 k (of_z-to_z w16 k lt)) fit s
known at forms.Constant bytes x fit s = number_known at forms.Constant 1 number_1 (λ n. constant n) bytes x (λ k. refl) (λ k. refl) (λ k lt. refl) fit s
known at forms.Index bytes x fit s = number_known at forms.Index 2 number_2 (λ n. index n) bytes x (λ k. refl) (λ k. refl) (λ k lt. refl) fit s
known at forms.Local bytes x fit s = number_known at forms.Local 1 number_1 (λ n. local n) bytes x (λ k. refl) (λ k. refl) (λ k lt. refl) fit s
known at forms.Increment bytes x fit s = increment_known at bytes x fit s
known at forms.Branch bytes x fit s =
    number_known at forms.Branch 2 number_2 (λ n. branch (cast_signed w16 n)) bytes x (λ k. refl) (λ k. refl) (λ k lt. signed 2 w16 k (of_z-to_z w16 k lt)) fit s
known at forms.WideBranch bytes x fit s =
    number_known at forms.WideBranch 4 number_4 (λ n. wide_branch (cast_signed w32 n)) bytes x (λ k. refl) (λ k. refl) (λ k lt. signed 4 w32 k (of_z-to_z w32 k lt)) fit s
known at forms.InvokeInterface bytes x fit s = invoke_interface_known at bytes x fit s
known at forms.InvokeDynamic bytes x fit s = invoke_dynamic_known at bytes x fit s
known at forms.NewArray bytes x fit s = number_known at forms.NewArray 1 number_1 (λ n. new_array n) bytes x (λ k. refl) (λ k. refl) (λ k lt. refl) fit s
known at forms.MultiNewArray bytes x fit s = multi_new_array_known at bytes x fit s
known at forms.TableSwitch bytes x fit s = table_switch_known at bytes x fit s
known at forms.LookupSwitch bytes x fit s = lookup_switch_known at bytes x fit s
known at forms.Wide bytes x fit s = wide_known at bytes x fit s

-- ---- what agrees is spelled

small_8 : (z : ℤ) → SFits w8 z → of_z w8 z < 256 ^ 1
small_8 z fits = (Fits-of_z fits).fits

small_16 : (z : ℤ) → SFits w16 z → of_z w16 z < 256 ^ 2
small_16 z fits = (Fits-of_z fits).fits

small_32 : (z : ℤ) → SFits w32 z → of_z w32 z < 256 ^ 4
small_32 z fits = (Fits-of_z fits).fits

small_opcode : (o : Opcode) → opcode_number o < 256
small_opcode o = let within : opcode_number o < 202 = slice_get_within opcodes (opcode_number o) o (by_number o) in omega (arith, within)

zero_written : (at i count : ℕ)
    → Spells (andthen (number 1) (λ n. cond (eqb n 0) (done (outcome (invoke_interface i count))) (done (Err (NonZeroByte at))))) (big_bytes 1 0) (outcome (invoke_interface i count))
zero_written at i count =
    number_first 1 number_1 (λ n. cond (eqb n 0) (done (outcome (invoke_interface i count))) (done (Err (NonZeroByte at)))) 0 [] (outcome (invoke_interface i count)) (omega arith) (refl, refl)

zeros_written : (at i : ℕ)
    → Spells (andthen (number 2) (λ n. cond (eqb n 0) (done (outcome (invoke_dynamic i))) (done (Err (NonZeroByte at))))) (big_bytes 2 0) (outcome (invoke_dynamic i))
zeros_written at i =
    number_first 2 number_2 (λ n. cond (eqb n 0) (done (outcome (invoke_dynamic i))) (done (Err (NonZeroByte at)))) 0 [] (outcome (invoke_dynamic i)) (omega arith) (refl, refl)

local_written : (at n : ℕ) (o : Opcode) (f : Form) → takes_local f ≡ true → n < 65536 → Spells (widened at o f) (big_bytes 2 n) (outcome (wide_local o n))
local_written at n o forms.Local is lt = number_last 2 number_2 (λ k. wide_local o k) n (wide_local o n) lt refl
local_written at n o _ is lt = absurd cc

increment_written : (at n : ℕ) (by : ℤ) (o : Opcode) (f : Form) → takes_increment f ≡ true → n < 65536 → SFits w16 by
    → Spells (widened at o f) (big_bytes 2 n ++ big_bytes 2 (cast_unsigned w16 by)) (outcome (wide_increment o n by))
increment_written at n by o forms.Increment is lt fits =
    number_first 2 number_2 (λ k. andthen (number 2) (λ b. done (outcome (wide_increment o k (cast_signed w16 b))))) n (big_bytes 2 (cast_unsigned w16 by)) (outcome (wide_increment o n by)) lt
    (number_last 2 number_2 (λ b. wide_increment o n (cast_signed w16 b)) (cast_unsigned w16 by) (wide_increment o n by) (small_16 by fits) (ap (wide_increment o n) (to_z-of_z w16 by fits)))
increment_written at n by o _ is lt fits = absurd cc

wide_written : (at : ℕ) (o : Opcode) (rest : List ℕ) (x : Operands) → Spells (widened at o (form o)) rest (outcome x) → Spells (wide_at at) (big_bytes 1 (opcode_number o) ++ rest) (outcome x)
unfolding wide_at
wide_written at o rest x s =
    number_first 1 number_1 (λ n. widened_opcode at (opcode_of n)) (opcode_number o) rest (outcome x) (small_opcode o)
    (subst (λ (z : Option Opcode). Spells (widened_opcode at z) rest (outcome x)) (sym (by_number o)) s)

operands_written : (at : ℕ) (x : Operands) → agrees at x ≡ true → AreInRange x → Spells (operands_at at (form_of x)) (operands_bytes x) (outcome x)
unfolding operands_at operands_bytes invoke_interface_at invoke_dynamic_at
operands_written at nothing fine range = (refl, refl)
operands_written at (byte v) fine range = number_last 1 number_1 (λ n. byte (cast_signed w8 n)) (of_z w8 v) (byte v) (small_8 v range) (ap byte (to_z-of_z w8 v range))
operands_written at (short v) fine range = number_last 2 number_2 (λ n. short (cast_signed w16 n)) (of_z w16 v) (short v) (small_16 v range) (ap short (to_z-of_z w16 v range))
operands_written at (constant i) fine range = number_last 1 number_1 (λ n. constant n) i (constant i) range refl
operands_written at (index i) fine range = number_last 2 number_2 (λ n. index n) i (index i) range refl
operands_written at (local n) fine range = number_last 1 number_1 (λ n. local n) n (local n) range refl
operands_written at (increment n by) fine range =
    number_first 1 number_1 (λ k. andthen (number 1) (λ b. done (outcome (increment k (cast_signed w8 b))))) n (big_bytes 1 (of_z w8 by)) (outcome (increment n by)) range.0
    (number_last 1 number_1 (λ b. increment n (cast_signed w8 b)) (of_z w8 by) (increment n by) (small_8 by range.1) (ap (increment n) (to_z-of_z w8 by range.1)))
operands_written at (branch v) fine range = number_last 2 number_2 (λ n. branch (cast_signed w16 n)) (of_z w16 v) (branch v) (small_16 v range) (ap branch (to_z-of_z w16 v range))
operands_written at (wide_branch v) fine range =
    number_last 4 number_4 (λ n. wide_branch (cast_signed w32 n)) (of_z w32 v) (wide_branch v) (small_32 v range) (ap wide_branch (to_z-of_z w32 v range))
operands_written at (invoke_interface i count) fine range =
    let behind_two : ℕ → ℕ → ℕ → Format Outcome = λ i count n. cond (eqb n 0) (done (outcome (invoke_interface i count))) (done (Err (NonZeroByte at))) in
    number_first 2 number_2 (λ i. andthen (number 1) (λ count. andthen (number 1) (behind_two i count))) i (big_bytes 1 count ++ big_bytes 1 0) (outcome (invoke_interface i count)) range.0
    (number_first 1 number_1 (λ count. andthen (number 1) (behind_two i count)) count (big_bytes 1 0) (outcome (invoke_interface i count)) range.1 (zero_written at i count))
operands_written at (invoke_dynamic i) fine range =
    let behind_one : ℕ → ℕ → Format Outcome = λ i n. cond (eqb n 0) (done (outcome (invoke_dynamic i))) (done (Err (NonZeroByte at))) in
    number_first 2 number_2 (λ i. andthen (number 2) (behind_one i)) i (big_bytes 2 0) (outcome (invoke_dynamic i)) range (zeros_written at i)
operands_written at (new_array n) fine range = number_last 1 number_1 (λ n. new_array n) n (new_array n) range refl
operands_written at (multi_new_array i n) fine range =
    number_first 2 number_2 (λ i. andthen (number 1) (λ n. done (outcome (multi_new_array i n)))) i (big_bytes 1 n) (outcome (multi_new_array i n)) range.0
    (number_last 1 number_1 (λ n. multi_new_array i n) n (multi_new_array i n) range.1 refl)
operands_written at (table_switch padding d lo hi offsets) fine range = table_switch_written at padding d lo hi offsets fine range
operands_written at (lookup_switch padding d n pairs) fine range = lookup_switch_written at padding d n pairs fine range
operands_written at (wide_local o n) fine range = wide_written at o (big_bytes 2 n) (wide_local o n) (local_written at n o (form o) fine range)
operands_written at (wide_increment o n by) fine range =
    wide_written at o (big_bytes 2 n ++ big_bytes 2 (of_z w16 by)) (wide_increment o n by) (increment_written at n by o (form o) fine range.0 range.1)

-- ---- an instruction

pub record KnownInstruction (at : ℕ) (bytes : List ℕ) (i : Instruction) : Type 0 where
  pub fine : IsFine at i
  pub bytes_are : bytes ≡ instruction_bytes i

-- what is made of an opcode and operands
of_operands : (o : Opcode) (y : Outcome) (i : Instruction) → of_opcode o y ≡ Ok i → (y ≡ Ok i.operands) × (o ≡ i.opcode)
of_operands o (Ok x) i e =
    let made : Instruction = record { opcode = o; operands = x } in
    let same : made ≡ i = cc in
    (ap (λ (j : Instruction). outcome j.operands) same, ap (λ (j : Instruction). j.opcode) same)
of_operands o (Err e) i h = absurd cc

opcode_known : (at k : ℕ) (z : Option Opcode) (rest : List ℕ) (i : Instruction) → opcode_of k ≡ z → AreBytes rest → Spells (behind_opcode at z) rest (Ok i)
    → KnownInstruction at (big_bytes 1 k ++ rest) i
unfolding instruction_bytes
opcode_known at k None rest i named fit s = absurd (let wrong = s.1 in cc)
opcode_known at k (Some o) rest i named fit s =
    let parts = andthen_parts (operands_at at (form o)) (λ x. done (of_opcode o x)) rest (Ok i) s in
    let bs = AreBytes-parts parts.0 parts.1 (subst AreBytes parts.3 fit) in
    let made = of_operands o parts.2 i parts.5.1 in
    let spelled : Spells (operands_at at (form i.opcode)) parts.0 (outcome i.operands) =
    subst (λ (z : Opcode). Spells (operands_at at (form z)) parts.0 (outcome i.operands)) made.1 (subst (λ (z : Outcome). Spells (operands_at at (form o)) parts.0 z) made.0 parts.4) in
    let x = known at (form i.opcode) parts.0 i.operands bs.0 spelled in
    let behind : rest ≡ operands_bytes i.operands = parts.3 ∙ ap (λ (t : List ℕ). parts.0 ++ t) parts.5.0 ∙ append-nil parts.0 ∙ x.bytes_are in
    let first : big_bytes 1 k ≡ big_bytes 1 (opcode_number i.opcode) = ap (big_bytes 1) (sym (has_number k o named) ∙ ap opcode_number made.1) in
    record {
      fine = record { has_form = x.has_form; agree = x.agree };
      bytes_are = ap (λ (t : List ℕ). t ++ rest) first ∙ ap (λ (t : List ℕ). big_bytes 1 (opcode_number i.opcode) ++ t) behind;
    }

pub instruction_known : (at : ℕ) (bytes : List ℕ) (i : Instruction) → AreBytes bytes → SpellsInstruction at bytes i → KnownInstruction at bytes i
unfolding instruction_at
instruction_known at bytes i fit s =
    let p = number_parts 1 number_1 (λ n. behind_opcode at (opcode_of n)) bytes (Ok i) fit s in
    subst (λ (t : List ℕ). KnownInstruction at t i) (sym p.parts) (opcode_known at p.value (opcode_of p.value) p.others i refl p.are_bytes p.behind)

pub instruction_written : (at : ℕ) (i : Instruction) → IsFine at i → AreInRange i.operands → SpellsInstruction at (instruction_bytes i) i
unfolding instruction_at instruction_bytes
instruction_written at i fine range =
    let o = i.opcode in
    let x = i.operands in
    let spelled : Spells (operands_at at (form o)) (operands_bytes x) (outcome x) = subst (λ (f : Form). Spells (operands_at at f) (operands_bytes x) (outcome x)) (sym fine.has_form) (operands_written at x fine.agree range) in
    let whole = andthen_spelled (operands_at at (form o)) (λ y. done (of_opcode o y)) (operands_bytes x) [] (outcome x) (Ok i) spelled (refl, refl) in
    let behind : Spells (behind_opcode at (Some o)) (operands_bytes x) (Ok i) = subst (λ (t : List ℕ). Spells (behind_opcode at (Some o)) t (Ok i)) (append-nil (operands_bytes x)) whole in
    number_first 1 number_1 (λ n. behind_opcode at (opcode_of n)) (opcode_number o) (operands_bytes x) (Ok i) (small_opcode o)
    (subst (λ (z : Option Opcode). Spells (behind_opcode at z) (operands_bytes x) (Ok i)) (sym (by_number o)) behind)

-- ---- how many bytes there are

operands_measured : (x : Operands) → length (operands_bytes x) ≡ operands_size x
unfolding operands_bytes switch_head
operands_measured (table_switch padding d lo hi offsets) =
    let head = big_bytes 4 (of_z w32 d) ++ big_bytes 4 (of_z w32 lo) in
    let tail = big_bytes 4 (of_z w32 hi) ++ offsets in
    omega (arith, length-append (padding ++ head) tail, length-append padding head)
operands_measured (lookup_switch padding d n pairs) =
    let head = big_bytes 4 (of_z w32 d) ++ big_bytes 4 (of_z w32 n) in
    omega (arith, length-append (padding ++ head) pairs, length-append padding head)
operands_measured _ = refl

pub measured : (i : Instruction) → length (instruction_bytes i) ≡ size i
unfolding instruction_bytes
measured i = omega (arith, operands_measured i.operands)

-- ---- an instruction, as a program writes it

pub appended : (at : ℕ) (i : Instruction) (old mid new : List ℕ) (r : Result (Unit {0}) WriteFault) → IsFine at i → AreInRange i.operands → mid ≡ old ++ big_bytes 1 (opcode_number i.opcode)
    → Appends (operands_bytes i.operands) mid new r → AppendsInstruction at i old new r
unfolding instruction_bytes
appended at i old mid new (Ok x) fine range first second =
    (instruction_written at i fine range, second ∙ ap (λ (t : List ℕ). t ++ operands_bytes i.operands) first ∙ append_assoc old (big_bytes 1 (opcode_number i.opcode)) (operands_bytes i.operands))
appended at i old mid new (Err e) fine range first second = subst (λ (d : WriteFault). AppendsInstruction at i old new (Err d)) (sym second) tt
