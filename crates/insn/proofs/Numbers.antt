-- Opcodes and their numbers.
use Rattle.std.proofs.Common.{◌≡◌, ℕ, ◌+◌, zero, suc, Bool, true, false, ◌&&◌, eqb, Some, List, [], ◌∷◌, refl, sym, ap, ◌∙◌, arith}
use Rattle.std.specs.Prelude.{slice_get}
use Rattle.std.proofs.lemmas.Bool.{eqb-true}
use Rattle.insn.specs.declared.opcode.Opcode.{Opcode}
use Rattle.insn.specs.declared.opcode.Opcode.TheVariants.{Nop}
use Rattle.insn.specs.Opcodes.{number, opcodes, opcode_of}

pub by_number : (o : Opcode) → opcode_of (number o) ≡ Some o
by_number Nop = refl
by_number _ = refl

-- each stands at its number, from a number on
numbered : ℕ → List Opcode → Bool
numbered n [] = true
numbered n (o ∷ os) = eqb (number o) n && numbered (n + 1) os

both : (a b : Bool) → (a && b) ≡ true → (a ≡ true) × (b ≡ true)
both true b h = (refl, h)
both false b h = absurd cc

stands_at : (n : ℕ) (os : List Opcode) (k : ℕ) (o : Opcode) → numbered n os ≡ true → slice_get os k ≡ Some o → number o ≡ n + k
unfolding numbered
stands_at n [] k o all e = absurd cc
stands_at n (x ∷ os) zero o all e =
    let same : x ≡ o = cc in
    let here : number x ≡ n = eqb-true _ _ (both (eqb (number x) n) (numbered (n + 1) os) all).0 in
    sym (ap number same) ∙ here ∙ omega arith
stands_at n (x ∷ os) (suc k) o all e = stands_at (n + 1) os k o (both (eqb (number x) n) (numbered (n + 1) os) all).1 e ∙ omega arith

all_numbered : numbered 0 opcodes ≡ true
unfolding numbered
all_numbered = refl

pub has_number : (n : ℕ) (o : Opcode) → opcode_of n ≡ Some o → number o ≡ n
has_number n o e = stands_at 0 opcodes n o all_numbered e ∙ omega arith
