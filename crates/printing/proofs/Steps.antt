-- Code that is gone through instruction by instruction.
use Rattle.std.proofs.Common.{◌≡◌, ◌<◌, ℕ, List, [], ◌∷◌, ◌∙◌, length, Option, Some, None, Result, Ok, Err, refl, sym, ap, subst, arith}
use Rattle.std.proofs.lemmas.Bool.Decides.{nat_tests}
use Rattle.layout.specs.Place.{Place}
use Rattle.insn.specs.declared.fault.CodeFault.{CodeFault}
use Rattle.insn.specs.Instructions.{Instruction}
use Rattle.insn.specs.Code.{StepsThrough, StepsBy}
use Rattle.insn.specs.Offsets.{at_offset, by_made}
use Rattle.insn.specs.Decoding.{CodeResult, behind}
use Rattle.insn.proofs.CodeResults.{result_at, step_reads, stop_reads, end_reads}
use Rattle.insn.proofs.CodeLaws.{given_step, shorter}
use Rattle.printing.specs.CodeLines.{fault_of}

fault_of_behind : (x : ℕ × Instruction) (r : CodeResult) → fault_of (behind x r) ≡ fault_of r
fault_of_behind x (Ok xs) = refl
fault_of_behind x (Err e) = refl

pub step_is : {X : Type 0} (view : X → ℕ × Instruction) (old new : Place) (step : Result X CodeFault) (x : X)
    → StepsThrough view old (Some step) new → step ≡ Ok x → result_at old ≡ behind (view x) (result_at new)
step_is view old new step x s is = step_reads view old new x (subst (λ (r : Result _ CodeFault). StepsThrough view old (Some r) new) is s)

pub fault_behind : {X : Type 0} (view : X → ℕ × Instruction) (old new : Place) (step : Result X CodeFault) (x : X)
    → StepsThrough view old (Some step) new → step ≡ Ok x → fault_of (result_at old) ≡ fault_of (result_at new)
fault_behind view old new step x s is = ap fault_of (step_is view old new step x s is) ∙ fault_of_behind (view x) (result_at new)

pub fault_here : {X : Type 0} (view : X → ℕ × Instruction) (old new : Place) (step : Result X CodeFault) (e : CodeFault)
    → StepsThrough view old (Some step) new → step ≡ Err e → fault_of (result_at old) ≡ Some e
fault_here view old new step e s is = ap fault_of (stop_reads view old new e (subst (λ (r : Result _ CodeFault). StepsThrough view old (Some r) new) is s))

pub end_is : {X : Type 0} (view : X → ℕ × Instruction) (old new : Place) → StepsThrough view old None new → result_at old ≡ Ok []
end_is view old new s = end_reads view old new s

pub fault_end : {X : Type 0} (view : X → ℕ × Instruction) (old new : Place) → StepsThrough view old None new → fault_of (result_at old) ≡ None
fault_end view old new s = ap fault_of (end_reads view old new s)

-- steps that tell of an instruction where it begins
module _ (old new : Place) (step : Result (ℕ × Option ℕ) CodeFault) (s : StepsBy (λ (y : ℕ × Option ℕ). y) by_made old (Some step) new) where
  through : (x : ℕ × Option ℕ) → step ≡ Ok x → (i : Instruction) × (x ≡ by_made (old.at, i)) × StepsThrough (λ (y : ℕ × Instruction). y) old (Some (Ok (old.at, i))) new
  through x is = given_step (λ (y : ℕ × Option ℕ). y) by_made old new step x s is

  pub start_behind : (x : ℕ × Option ℕ) → step ≡ Ok x → fault_of (result_at old) ≡ fault_of (result_at new)
  start_behind x is =
      let (i, same, on) = through x is in
      fault_behind (λ (y : ℕ × Instruction). y) old new (Ok (old.at, i)) (old.at, i) on refl

  pub start_shorter : (x : ℕ × Option ℕ) → step ≡ Ok x → length new.rest < length old.rest
  start_shorter x is =
      let (i, same, on) = through x is in
      let (here, first, spells, took) = on in
      shorter first i old new spells took

  pub start_here : (e : CodeFault) → step ≡ Err e → fault_of (result_at old) ≡ Some e
  start_here e is =
      fault_here (λ (y : ℕ × Instruction). y) old new (Err e) e (subst (λ (r : Result (ℕ × Option ℕ) CodeFault). StepsBy (λ (y : ℕ × Option ℕ). y) by_made old (Some r) new) is s) refl

-- the instructions that are left after one
pub left_behind : (x : ℕ × Instruction) (r : CodeResult) (xs : List (ℕ × Instruction)) → behind x r ≡ Ok xs → (ys : List (ℕ × Instruction)) × (r ≡ Ok ys) × (xs ≡ x ∷ ys)
left_behind x (Ok ys) xs e = let same : x ∷ ys ≡ xs = cc in (ys, refl, sym same)
left_behind x (Err f) xs e = absurd cc

-- code with a fault is no list
pub no_list : (e : CodeFault) (r : CodeResult) (xs : List (ℕ × Instruction)) → fault_of r ≡ Some e → r ≡ Ok xs → ⊥
no_list e (Ok ys) xs f g = absurd cc
no_list e (Err d) xs f g = absurd cc

pub nothing_left : (r : CodeResult) (xs : List (ℕ × Instruction)) → r ≡ Ok [] → r ≡ Ok xs → xs ≡ []
nothing_left r xs none is = let same : Ok [] ≡ (let o : CodeResult = Ok xs in o) = sym none ∙ is in let e : [] ≡ xs = cc in sym e

-- without one it is a list
pub is_list : (r : CodeResult) → fault_of r ≡ None → (xs : List (ℕ × Instruction)) × (r ≡ Ok xs)
is_list (Ok xs) e = (xs, refl)
is_list (Err f) e = absurd cc

pub is_fault : (r : CodeResult) (e : CodeFault) → fault_of r ≡ Some e → r ≡ Err e
is_fault (Ok xs) e f = absurd cc
is_fault (Err d) e f = let same : d ≡ e = cc in ap Err same

-- ---- the instruction at an offset

pub here_found : (x : ℕ × Instruction) (xs : List (ℕ × Instruction)) (at : ℕ) → x.0 ≡ at → at_offset (x ∷ xs) at ≡ Some x.1
here_found x xs at e = grind (arith, nat_tests, e)

pub here_passed : (x : ℕ × Instruction) (xs : List (ℕ × Instruction)) (at : ℕ) → (x.0 ≡ at → ⊥) → at_offset (x ∷ xs) at ≡ at_offset xs at
here_passed x xs at other = grind (arith, nat_tests, other)
