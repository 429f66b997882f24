-- After the last of offsets that rise nothing begins.
use Rattle.std.proofs.Common.{◌≡◌, ℕ, zero, suc, ◌+◌, ◌<◌, ◌≤◌, ℤ, pos, negsuc, true, false, List, [], ◌∷◌, length, get_or, None, refl, sym, ap, ◌∙◌, arith, ne_eqb}
use Rattle.std.specs.Option.{is_some}
use Rattle.std.specs.Prelude.{int_lt}
use Rattle.std.proofs.lemmas.Bool.Decides.{nat_tests}
use Rattle.std.proofs.lemmas.List.{length-map, get_or-map}
use Rattle.insn.specs.declared.instruction.Insn.{Insn}
use Rattle.insn.specs.Instructions.{Instruction}
use Rattle.insn.specs.Offsets.{at_offset, StartsRise}
use Rattle.insn.specs.Views.{located, views}
use Rattle.machine.specs.Bodies.{code_of}
use Rattle.machine.specs.private.Demanded.{begins}
use Rattle.insn.proofs.Places.{begins as offsets_alike, past_last}

pub behind_all : (list : List (ℕ × Insn)) (i : ℕ) (d : ℕ × Insn) (target : ℤ) → StartsRise 0 (views list) → i + 1 ≡ length list
    → int_lt (pos (get_or list i d).0) target ≡ true → begins (code_of list) target ≡ false
behind_all list i d (pos at) s e lt =
    let less : (get_or list i d).0 < at = grind (arith, nat_tests, lt) in
    let same = ap (λ (z : ℕ × Instruction). z.0) (get_or-map located list i d (located d) (omega (arith, e))) in
    sym (offsets_alike list at) ∙ ap is_some (past_last 0 (views list) i (located d) at s (e ∙ sym (length-map list located)) (omega (arith, less, same))).1
behind_all list i d (negsuc n) s e lt = refl
