-- Code that was read: its offsets rise, and it begins at 0.
use Rattle.std.proofs.Common.{◌≡◌, ℕ, ◌+◌, ◌<◌, List, [], ◌∷◌, length, Ok, refl, sym, ap, subst, arith, eq-eqb}
use Rattle.insn.specs.Instructions.{Instruction}
use Rattle.insn.specs.Meanings.{act}
use Rattle.insn.specs.Code.{SpellsCode}
use Rattle.insn.specs.Decoding.{or_none, instructions_in}
use Rattle.insn.proofs.CodeResults.{only_result}
use Rattle.insn.specs.Offsets.{IsStart, acts, StartsRise}

pub decoded_rise : (from : ℕ) (xs : List (ℕ × Instruction)) → StartsRise from xs → StartsRise from (acts xs)
decoded_rise from [] r = tt
decoded_rise from (x ∷ xs) r = (r.0, decoded_rise (x.0 + 1) xs r.1)

pub decoded_begins : (bytes : List ℕ) (xs : List (ℕ × Instruction)) → SpellsCode 0 bytes xs → 0 < length bytes
    → IsStart (acts xs) 0
decoded_begins bytes [] s lt = let e : length bytes ≡ 0 = ap length s in absurd (omega (arith, e, lt))
decoded_begins bytes (x ∷ xs) s lt = record { what = act x.1; here = rw (eq-eqb x.0 0 s.3) refl }

-- the instructions that are read from code without a fault spell it
pub read_spelled : (code : List ℕ) (xs : List (ℕ × Instruction)) → SpellsCode 0 code xs → SpellsCode 0 code (instructions_in code)
read_spelled code xs s = subst (SpellsCode 0 code) (sym (ap or_none (only_result code (Ok xs) s))) s
