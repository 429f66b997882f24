-- The beginning of an instruction's line in a line of its own.
use Rattle.std.proofs.Common.{◌≡◌, ◌≤◌, ◌<◌, ◌+◌, ◌-◌, ◌^◌, ℕ, suc, List, [], ◌∷◌, ◌++◌, Bool, true, false, codes, decimal, sym, ap, ◌∙◌, append_assoc, length, take, drop, replicate, arith}
use Rattle.std.specs.Int.{from_bool}
use Rattle.std.specs.List.{slice_range}
use Rattle.std.proofs.Math.Seq.{take-append-add}
use Rattle.std.proofs.lemmas.Fmt.{length-decimal-le}
use Rattle.std.proofs.lemmas.List.{append-nil, length-append, drop-append-le, drop-replicate, take-append-le, take-append-drop, take-replicate, length-replicate}
use Rattle.insn.specs.Opcodes.{mnemonic}
use Rattle.insn.specs.Code.{modified}
use Rattle.insn.specs.Instructions.{Instruction, nothing}
use Rattle.printing.specs.InstructionLines.{wide_text, operands_text, instruction_line, named_text, offset_text, beginning_text}
use Rattle.printing.specs.declared.instruction.TheConstants.{EMPTY_LINE}

-- a line is blanks, and from where a name begins on ends of the line
abbrev blanks : ℕ → List ℕ
blanks n = replicate n 32

abbrev ends : ℕ → List ℕ
ends n = replicate n 10

-- after a short name the line ends
behind_name : (n : ℕ) → n < 25 → drop (23 + n - 23) (drop 23 EMPTY_LINE) ≡ 10 ∷ ends (24 - n)
behind_name n few = drop-replicate (23 + n - 23) 25 10 ∙ ap ends (let e : 25 - (23 + n - 23) ≡ suc (24 - n) = omega (arith, few) in e)

two_blanks : (n : ℕ) → 2 ≤ n → drop (n - 2) (blanks n) ≡ 32 ∷ 32 ∷ []
two_blanks n many = drop-replicate (n - 2) n 32 ∙ ap blanks (let e : n - (n - 2) ≡ 2 = omega (arith, many) in e)

-- a name was copied to its place
abbrev pub named : List ℕ → List ℕ → List ℕ
named name copied = take 23 EMPTY_LINE ++ (copied ++ drop (23 + length name - 23) (drop 23 EMPTY_LINE))

pub few_digits : (at : ℕ) → at < 2 ^ 64 → length (decimal at) ≤ 20
few_digits at fits = length-decimal-le 20 at (omega arith) (omega (arith, fits)) fits

-- then an offset was written, which ends two places in front of the name
module _ (at start : ℕ) (name copied line : List ℕ) (fits : at < 2 ^ 64) (short : length name < 25) (same : copied ≡ name) (starts : start + length (decimal at) ≡ 22)
    (behind : drop start line ≡ decimal at ++ drop 22 (named name copied)) (before : take start line ≡ take start (named name copied)) where
  abbrev rest : List ℕ
  rest = name ++ 10 ∷ ends (24 - length name)

  many : 2 ≤ start
  many = omega (arith, starts, few_digits at fits)

  in_front : take start line ≡ blanks start
  in_front = before ∙ take-append-le start (blanks 23) _ (omega (arith, starts)) ∙ take-replicate start 23 32 (omega (arith, starts))

  written : drop start line ≡ decimal at ++ 32 ∷ rest
  written = behind ∙ ap (λ l. decimal at ++ 32 ∷ (l ++ drop (23 + length name - 23) (drop 23 EMPTY_LINE))) same ∙ ap (λ l. decimal at ++ 32 ∷ (name ++ l)) (behind_name (length name) short)

  parts : line ≡ blanks start ++ (decimal at ++ 32 ∷ rest)
  parts = sym (take-append-drop start line) ∙ ap (λ l. l ++ drop start line) in_front ∙ ap (λ l. blanks start ++ l) written

  from_blanks : drop (start - 2) line ≡ offset_text at ++ rest
  from_blanks =
      let fewer : start - 2 ≤ length (blanks start) = omega (arith, length-replicate {A = ℕ} start 32) in
      ap (drop (start - 2)) parts ∙ drop-append-le (start - 2) (blanks start) (decimal at ++ 32 ∷ rest) fewer
      ∙ ap (λ l. l ++ (decimal at ++ 32 ∷ rest)) (two_blanks start many) ∙ ap (λ l. 32 ∷ 32 ∷ l) (sym (append_assoc (decimal at) (32 ∷ []) rest))

  taken : (more : ℕ) → slice_range line (start - 2) (23 + length name + more) ≡ offset_text at ++ (name ++ take more (10 ∷ ends (24 - length name)))
  taken more =
      let long : length (decimal at ++ 32 ∷ []) ≡ length (decimal at) + 1 = length-append (decimal at) (32 ∷ []) in
      let all : 23 + length name + more - (start - 2) ≡ length (offset_text at) + (length name + more) = omega (arith, starts, many, long) in
      ap (λ n. take n (drop (start - 2) line)) all ∙ ap (take (length (offset_text at) + (length name + more))) from_blanks
      ∙ take-append-add (offset_text at) rest (length name + more) ∙ ap (λ l. offset_text at ++ l) (take-append-add name (10 ∷ ends (24 - length name)) more)

  pub beginning : (more : ℕ) (ends_there : Bool) → more ≡ from_bool ends_there → slice_range line (start - 2) (23 + length name + more) ≡ beginning_text at name ends_there
  beginning more true is = taken more ∙ ap (λ n. offset_text at ++ (name ++ take n (10 ∷ ends (24 - length name)))) is
  beginning more false is = taken more ∙ ap (λ n. offset_text at ++ (name ++ take n (10 ∷ ends (24 - length name)))) is

pub line_parts : (n named : List ℕ) → (codes "  " ++ (n ++ codes " ")) ++ (named ++ codes "\n") ≡ codes "  " ++ ((n ++ (codes " " ++ named)) ++ codes "\n")
line_parts n named = ap (λ l. 32 ∷ 32 ∷ l) (append_assoc n (32 ∷ []) (named ++ (10 ∷ [])) ∙ sym (append_assoc n (32 ∷ named) (10 ∷ [])))

-- the line of an instruction without operands
pub alone_line : (at : ℕ) (i : Instruction) → i.operands ≡ nothing → beginning_text at (mnemonic i.opcode) true ≡ instruction_line (at, i)
alone_line at i is =
    let named : named_text (at, i) ≡ mnemonic i.opcode = ap (λ o. wide_text o ++ (mnemonic (modified i.opcode o) ++ operands_text at o)) is ∙ append-nil (mnemonic i.opcode) in
    ap (λ l. offset_text at ++ (l ++ codes "\n")) (sym named) ∙ line_parts (decimal at) (named_text (at, i))
