-- Reading code gives the instructions that it spells, or its fault.
use Rattle.std.proofs.Common.{◌≡◌, ℕ, zero, suc, ◌+◌, ◌<◌, ◌≤◌, List, [], ◌∷◌, ◌++◌, length, Some, None, Result, Ok, Err, inl, inr, refl, sym, ap, subst, ◌∙◌, append_assoc, arith}
use Rattle.std.proofs.lemmas.List.{append-nil, length-append}
use Rattle.layout.specs.Place.{Place}
use Rattle.layout.specs.Format.{reads, Spells}
use Rattle.layout.specs.FormatLaws.{spelled_reads, fault_reads}
use Rattle.insn.specs.declared.fault.CodeFault.{CodeFault}
use Rattle.insn.specs.Instructions.{Instruction, instruction_at}
use Rattle.insn.specs.Faults.{judged, beside}
use Rattle.insn.specs.Code.{FaultyInstruction, StepsThrough, HasInstruction}
use Rattle.insn.specs.Decoding.{CodeResult, IsCodeResult, behind, result_behind, result_from, code_result}
use Rattle.insn.proofs.CodeLaws.{SoFar, read_spells, refusal_faulty, code_step, code_fault, code_whole, has_bytes, shorter, one_code, code_or_fault, one_fault}

-- instructions in front of a reading
abbrev in_front : List (ℕ × Instruction) → CodeResult → CodeResult
in_front xs (Ok ys) = Ok (xs ++ ys)
in_front xs (Err fault) = Err fault

regrouped : (xs : List (ℕ × Instruction)) (x : ℕ × Instruction) (r : CodeResult) → in_front (xs ++ x ∷ []) r ≡ in_front xs (behind x r)
regrouped xs x (Ok ys) = ap Ok (append_assoc xs (x ∷ []) ys)
regrouped xs x (Err fault) = refl

by_step : (whole : List ℕ) (xs : List (ℕ × Instruction)) (p : Place) (f : ℕ → List ℕ → CodeResult) → SoFar whole p xs → 0 < length p.rest
    → ((ys : List (ℕ × Instruction)) (q : Place) → SoFar whole q ys → length q.rest < length p.rest → IsCodeResult whole (in_front ys (f q.at q.rest)))
    → (r : Result (Instruction × Place) CodeFault) → judged p.at (reads (instruction_at p.at) p.at p.rest) ≡ r → IsCodeResult whole (in_front xs (result_behind f p.at r))
by_step whole xs p f so more goes_on (Err e) is =
    code_fault whole xs p e so more (refusal_faulty p e (reads (instruction_at p.at) p.at p.rest) refl is)
by_step whole xs p f so more goes_on (Ok x) is =
    let read = read_spells p.at (instruction_at p.at) p x.1 x.0 (reads (instruction_at p.at) p.at p.rest) refl is in
    let next = code_step whole xs (xs ++ (p.at, x.0) ∷ []) p x.1 (p.at, x.0) so refl refl read in
    subst (IsCodeResult whole) (regrouped xs (p.at, x.0) (f x.1.at x.1.rest))
    (goes_on (xs ++ (p.at, x.0) ∷ []) x.1 next (shorter read.0 x.0 p x.1 read.1 read.2))

from_here : (n : ℕ) (whole : List ℕ) (xs : List (ℕ × Instruction)) (at : ℕ) (rest : List ℕ) → SoFar whole (record { at = at; rest = rest }) xs → length rest ≤ n
    → IsCodeResult whole (in_front xs (result_from n at rest))
unfolding result_from
from_here n whole xs at [] so le =
    subst (λ ys. IsCodeResult whole (Ok ys)) (sym (append-nil xs)) (code_whole whole xs (record { at = at; rest = [] }) so refl)
from_here zero whole xs at (b ∷ bytes) so le = absurd (omega (arith, le))
from_here (suc n) whole xs at (b ∷ bytes) so le =
    by_step whole xs (record { at = at; rest = b ∷ bytes }) (result_from n) so (omega arith)
    (λ ys q next less. from_here n whole ys q.at q.rest next (omega (arith, less, le)))
    (judged at (reads (instruction_at at) at (b ∷ bytes))) refl

pub is_code_result : (code : List ℕ) → IsCodeResult code (code_result code)
unfolding code_result
is_code_result code = subst (IsCodeResult code) (from_none (result_from (length code) 0 code)) (from_here (length code) code [] 0 code ([], refl, refl, refl) (omega arith))
  where
    from_none : (r : CodeResult) → in_front [] r ≡ r
    from_none (Ok xs) = refl
    from_none (Err e) = refl

one_result : (code : List ℕ) (r s : CodeResult) → IsCodeResult code r → IsCodeResult code s → r ≡ s
one_result code (Ok xs) (Ok ys) p q = ap Ok (one_code 0 code xs ys p q)
one_result code (Ok xs) (Err e) p q = absurd (code_or_fault code xs e p q)
one_result code (Err e) (Ok ys) p q = absurd (code_or_fault code ys e q p)
one_result code (Err e) (Err f) p q = ap Err (one_fault code e f p q)

pub only_result : (code : List ℕ) (r : CodeResult) → IsCodeResult code r → code_result code ≡ r
only_result code r p = one_result code (code_result code) r (is_code_result code) p

-- ---- the same step by step, as code is gone through

pub result_at : Place → CodeResult
result_at p = result_from (length p.rest) p.at p.rest

same_behind : (at : ℕ) (f g : ℕ → List ℕ → CodeResult) (r : Result (Instruction × Place) CodeFault)
    → ((x : Instruction × Place) → r ≡ Ok x → f x.1.at x.1.rest ≡ g x.1.at x.1.rest) → result_behind f at r ≡ result_behind g at r
same_behind at f g (Ok x) same = ap (behind (at, x.0)) (same x refl)
same_behind at f g (Err e) same = refl

-- more instructions may be asked for than bytes are there
same_reading : (n m at : ℕ) (bytes : List ℕ) → length bytes ≤ n → length bytes ≤ m → result_from n at bytes ≡ result_from m at bytes
unfolding result_from
same_reading n m at [] h k = refl
same_reading zero m at (b ∷ bytes) h k = absurd (omega (arith, h))
same_reading (suc n) zero at (b ∷ bytes) h k = absurd (omega (arith, k))
same_reading (suc n) (suc m) at (b ∷ bytes) h k =
    let p : Place = record { at = at; rest = b ∷ bytes } in
    same_behind at (result_from n) (result_from m) (judged at (reads (instruction_at at) at (b ∷ bytes))) (λ x is.
    let read = read_spells at (instruction_at at) p x.1 x.0 (reads (instruction_at at) at (b ∷ bytes)) refl is in
    let less = shorter read.0 x.0 p x.1 read.1 read.2 in
    same_reading n m x.1.at x.1.rest (omega (arith, less, h)) (omega (arith, less, k)))

-- what is read where an instruction stands, or none does
one_step : (at : ℕ) (bytes : List ℕ) (r : Result (Instruction × Place) CodeFault) → 0 < length bytes → judged at (reads (instruction_at at) at bytes) ≡ r
    → result_from (length bytes) at bytes ≡ result_behind (λ k rest. result_from (length rest) k rest) at r
unfolding result_from
one_step at [] r more is = absurd (omega (arith, more))
one_step at (b ∷ bytes) r more is =
    let p : Place = record { at = at; rest = b ∷ bytes } in
    same_behind at (result_from (length bytes)) (λ k rest. result_from (length rest) k rest) (judged at (reads (instruction_at at) at (b ∷ bytes))) (λ x e.
    let read = read_spells at (instruction_at at) p x.1 x.0 (reads (instruction_at at) at (b ∷ bytes)) refl e in
    let less = shorter read.0 x.0 p x.1 read.1 read.2 in
    same_reading (length bytes) (length x.1.rest) x.1.at x.1.rest (omega (arith, less)) (omega arith))
    ∙ ap (result_behind (λ k rest. result_from (length rest) k rest) at) is

-- bytes in front that spell a value of the format are read as it
spelled : (at : ℕ) (first others : List ℕ) (r : Result Instruction CodeFault) → Spells (instruction_at at) first r
    → judged at (reads (instruction_at at) at (first ++ others)) ≡ beside (record { at = at + length first; rest = others }) r
spelled at first others r s = ap (judged at) (spelled_reads (instruction_at at) at first others r s)

pub step_reads : {X : Type 0} (view : X → ℕ × Instruction) (old new : Place) (x : X) → StepsThrough view old (Some (Ok x)) new
    → result_at old ≡ behind (view x) (result_at new)
unfolding result_at
step_reads view old new x (here, first, s, took) =
    let parts = took.parts in
    let more : 0 < length old.rest = omega (arith, has_bytes old.at first (Ok (view x).1) s, ap length parts, length-append first new.rest) in
    one_step old.at old.rest (Ok ((view x).1, record { at = old.at + length first; rest = new.rest })) more
    (ap (λ bytes. judged old.at (reads (instruction_at old.at) old.at bytes)) parts ∙ spelled old.at first new.rest (Ok (view x).1) s)
    ∙ ap (λ at. behind (at, (view x).1) (result_from (length new.rest) (old.at + length first) new.rest)) (sym here)
    ∙ ap (λ at. behind (view x) (result_from (length new.rest) at new.rest)) (sym took.at)

stopped : (at : ℕ) (bytes : List ℕ) (e : CodeFault) → FaultyInstruction at bytes e → judged at (reads (instruction_at at) at bytes) ≡ Err e
stopped at bytes e (inl (is, d, fault)) = ap (judged at) (fault_reads (instruction_at at) at bytes d fault) ∙ ap Err (sym is)
stopped at bytes e (inr (first, others, parts, s)) =
    ap (λ bs. judged at (reads (instruction_at at) at bs)) parts ∙ spelled at first others (Err e) s

pub stop_reads : {X : Type 0} (view : X → ℕ × Instruction) (old new : Place) (e : CodeFault) → StepsThrough view old (Some (Err e)) new → result_at old ≡ Err e
unfolding result_at
stop_reads view old new e (more, fault, gone) = one_step old.at old.rest (Err e) more (stopped old.at old.rest e fault)

pub end_reads : {X : Type 0} (view : X → ℕ × Instruction) (old new : Place) → StepsThrough view old None new → result_at old ≡ Ok []
unfolding result_at result_from
end_reads view old new (none, same) = ap (λ bytes. result_from (length bytes) old.at bytes) none ∙ nothing old.at
  where
    nothing : (at : ℕ) → result_from 0 at [] ≡ Ok []
    nothing at = refl

-- where bytes are left, so is an instruction, or a fault
no_front : (x : ℕ × Instruction) (r : CodeResult) → behind x r ≡ Ok [] → ⊥
no_front x (Ok ys) e = cc
no_front x (Err fault) e = cc

pub some_left : (p : Place) → 0 < length p.rest → result_at p ≡ Ok [] → ⊥
unfolding result_at
some_left p more e = by (judged p.at (reads (instruction_at p.at) p.at p.rest)) refl
  where
    by : (r : Result (Instruction × Place) CodeFault) → judged p.at (reads (instruction_at p.at) p.at p.rest) ≡ r → ⊥
    by (Ok x) is = no_front (p.at, x.0) (result_from (length x.1.rest) x.1.at x.1.rest) (sym (one_step p.at p.rest (Ok x) more is) ∙ e)
    by (Err fault) is = let none : Err fault ≡ (let r : CodeResult = Ok [] in r) = sym (one_step p.at p.rest (Err fault) more is) ∙ e in cc

-- where bytes are left of code that is read, an instruction is in front
pub has_instruction : (p : Place) (xs : List (ℕ × Instruction)) → 0 < length p.rest → result_at p ≡ Ok xs → HasInstruction p
unfolding result_at
has_instruction p xs more e = by (judged p.at (reads (instruction_at p.at) p.at p.rest)) refl
  where
    by : (r : Result (Instruction × Place) CodeFault) → judged p.at (reads (instruction_at p.at) p.at p.rest) ≡ r → HasInstruction p
    by (Ok x) is =
        let (first, spells, took) = read_spells p.at (instruction_at p.at) p x.1 x.0 (reads (instruction_at p.at) p.at p.rest) refl is in
        (x.0, first, x.1.rest, took.parts, spells)
    by (Err fault) is = absurd (let both : Err fault ≡ (let r : CodeResult = Ok xs in r) = sym (one_step p.at p.rest (Err fault) more is) ∙ e in cc)

-- all of the code
pub whole_reading : (code : List ℕ) → code_result code ≡ result_at (record { at = 0; rest = code })
unfolding code_result result_at
whole_reading code = refl
