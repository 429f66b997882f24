-- Laws of code: what is read is spelled, and code grows by one instruction at a time.
use Rattle.std.proofs.Common.{◌≡◌, ℕ, ◌+◌, ◌<◌, ◌≤◌, List, [], ◌∷◌, ◌++◌, length, Some, Result, Ok, Err, refl, sym, ap, subst, ◌∙◌, append_assoc, arith, inl, inr}
use Rattle.std.proofs.lemmas.List.{length-append, append-nil, nil_from_length}
use Rattle.layout.specs.Place.{Place, Took}
use Rattle.layout.specs.declared.fault.ReadFault.{ReadFault}
use Rattle.layout.specs.Format.{Format, Spells, FirstFault, reads}
use Rattle.layout.specs.FormatLaws.{reads_spells, reads_fault, spelled_reads, spelled_no_fault, same_good}
use Rattle.insn.specs.declared.fault.CodeFault.{CodeFault}
use Rattle.insn.specs.declared.fault.CodeFault.TheVariants.{OutOfMemory, CutInstruction}
use Rattle.insn.specs.Instructions.{Instruction, instruction_at}
use Rattle.insn.specs.Faults.{judged, beside}
use Rattle.insn.specs.Code.{SpellsInstruction, FaultyInstruction, SpellsCode, FaultyCode, StepsThrough, StepsBy, HasInstruction, UnlessMemory}
use Rattle.insn.specs.Offsets.{StartsRise}

-- ---- what reading one instruction gives

abbrev Read : Type 0
Read = Result Instruction CodeFault × Place

by_value : {V : Type 0} (p q : Place) (r : Result V CodeFault) (v : V) → beside p r ≡ Ok (v, q) → (r ≡ Ok v) × (p ≡ q)
by_value {V = V} p q (Ok w) v e =
    let made : V × Place = (w, p) in
    let other : V × Place = (v, q) in
    let same : made ≡ other = cc in
    (ap (λ (x : V × Place). Ok x.0) same, ap (λ (x : V × Place). x.1) same)
by_value p q (Err f) v e = absurd cc

by_fault : {V : Type 0} (p : Place) (r : Result V CodeFault) (f : CodeFault) → beside p r ≡ Err f → r ≡ Err f
by_fault p (Ok w) f e = absurd cc
by_fault p (Err g) f e = let same : g ≡ f = cc in ap Err same

-- what was read is spelled by the bytes that were taken
pub read_spells : {V : Type 0} (at : ℕ) (f : Format (Result V CodeFault)) (old new : Place) (v : V) (r : Result (Result V CodeFault × Place) ReadFault)
    → reads f old.at old.rest ≡ r → judged at r ≡ Ok (v, new) → (first : List ℕ) × Spells f first (Ok v) × Took first old new
read_spells at f old new v (Ok x) e h =
    let parts = by_value x.1 new x.0 v h in
    let s = reads_spells f old.at old.rest x e in
    (s.0, subst (λ w. Spells f s.0 w) parts.0 s.1, subst (λ p. Took s.0 old p) parts.1 s.2)
read_spells at f old new v (Err d) e h = absurd cc

-- a refusal is a fault of the bytes
pub refusal_faulty : (old : Place) (f : CodeFault) (r : Result Read ReadFault) → reads (instruction_at old.at) old.at old.rest ≡ r → judged old.at r ≡ Err f → FaultyInstruction old.at old.rest f
refusal_faulty old f (Ok x) e h =
    let s = reads_spells (instruction_at old.at) old.at old.rest x e in
    inr (s.0, x.1.rest, s.2.parts, subst (λ v. Spells (instruction_at old.at) s.0 v) (by_fault x.1 x.0 f h) s.1)
refusal_faulty old f (Err d) e h =
    let same : CutInstruction old.at ≡ f = cc in
    inl (sym same, d, reads_fault (instruction_at old.at) old.at old.rest d e)

-- ---- one instruction more

pub code_on : (at : ℕ) (front : List ℕ) (xs : List (ℕ × Instruction)) (start : ℕ) (first : List ℕ) (i : Instruction)
    → start ≡ at + length front → SpellsCode at front xs → SpellsInstruction start first i → SpellsCode at (front ++ first) (xs ++ (start, i) ∷ [])
code_on at front [] start first i is code s =
    let here : start ≡ at = is ∙ ap (λ (f : List ℕ). at + length f) code ∙ omega arith in
    (first, [], ap (λ (f : List ℕ). f ++ first) code ∙ sym (append-nil first), here, subst (λ (k : ℕ). SpellsInstruction k first i) here s, refl)
code_on at front (x ∷ xs) start first i is code s =
    let a = code.0 in
    let b = code.1 in
    let later : start ≡ (at + length a) + length b = is ∙ ap (λ (f : List ℕ). at + length f) code.2 ∙ omega (arith, length-append a b) in
    (a, b ++ first, ap (λ (f : List ℕ). f ++ first) code.2 ∙ append_assoc a b first, code.3, code.4, code_on (at + length a) b xs start first i later code.5 s)

-- ---- code that is read one instruction after the other

-- a spelling has its opcode at least
pub has_bytes : (at : ℕ) (first : List ℕ) (r : Result Instruction CodeFault) → Spells (instruction_at at) first r → 0 < length first
unfolding instruction_at
has_bytes at first r s =
    let whole : length first ≡ length (s.0 ++ s.1) = ap length s.3 in
    omega (arith, s.2, whole, length-append s.0 s.1)

pub shorter : (first : List ℕ) (i : Instruction) (old new : Place) → SpellsInstruction old.at first i → Took first old new → length new.rest < length old.rest
shorter first i old new s took =
    let whole : length old.rest ≡ length (first ++ new.rest) = ap length took.parts in
    omega (arith, has_bytes old.at first (Ok i) s, whole, length-append first new.rest)

-- what was read so far: the bytes before the cursor are these instructions
abbrev pub SoFar : List ℕ → Place → List (ℕ × Instruction) → Type 0
SoFar bytes p xs = (front : List ℕ) × (bytes ≡ front ++ p.rest) × (p.at ≡ length front) × SpellsCode 0 front xs

pub code_step : (bytes : List ℕ) (xs ys : List (ℕ × Instruction)) (old new : Place) (x : ℕ × Instruction)
    → SoFar bytes old xs → x.0 ≡ old.at → ys ≡ xs ++ x ∷ []
    → ((first : List ℕ) × SpellsInstruction old.at first x.1 × Took first old new) → SoFar bytes new ys
code_step bytes xs ys old new x so here is read =
    let front = so.0 in
    let first = read.0 in
    let took = read.2 in
    let behind : x.0 ≡ 0 + length front = here ∙ so.2 ∙ omega arith in
    let code = code_on 0 front xs x.0 first x.1 behind so.3 (subst (λ (k : ℕ). SpellsInstruction k first x.1) (sym here) read.1) in (
      front ++ first,
      so.1 ∙ ap (λ (t : List ℕ). front ++ t) took.parts ∙ sym (append_assoc front first new.rest),
      omega (arith, took.at, so.2, length-append front first),
      subst (λ (zs : List (ℕ × Instruction)). SpellsCode 0 (front ++ first) zs) (sym is) code,
    )

-- code that has instructions begins with one
pub code_front : (bytes : List ℕ) (xs : List (ℕ × Instruction)) → SpellsCode 0 bytes xs → 0 < length xs → HasInstruction (record { at = 0; rest = bytes })
code_front bytes [] code more = absurd (omega (arith, more))
code_front bytes (x ∷ xs) code more = (x.1, code.0, code.1, code.2, code.4)

pub code_fault : (bytes : List ℕ) (xs : List (ℕ × Instruction)) (old : Place) (e : CodeFault)
    → SoFar bytes old xs → 0 < length old.rest → FaultyInstruction old.at old.rest e → FaultyCode bytes e
code_fault bytes xs old e so more fault = record {
  instructions = xs;
  front = so.0;
  others = old.rest;
  parts = so.1;
  code = so.3;
  more = more;
  fault = subst (λ (k : ℕ). FaultyInstruction k old.rest e) so.2 fault;
}

pub code_whole : (bytes : List ℕ) (xs : List (ℕ × Instruction)) (p : Place) → SoFar bytes p xs → length p.rest ≡ 0 → SpellsCode 0 bytes xs
code_whole bytes xs p so none =
    let end : p.rest ≡ [] = nil_from_length p.rest none in
    subst (λ (t : List ℕ). SpellsCode 0 t xs) (sym (so.1 ∙ ap (λ (t : List ℕ). so.0 ++ t) end ∙ append-nil so.0)) so.3

-- ---- steps through code

pub step_read : {X : Type 0} (view : X → ℕ × Instruction) (old new : Place) (step : Result X CodeFault) (x : X)
    → StepsThrough view old (Some step) new → step ≡ Ok x → StepsThrough view old (Some (Ok x)) new
step_read view old new step x s is = subst (λ (r : Result _ CodeFault). StepsThrough view old (Some r) new) is s

-- a step that is refused ends bytes that are no code
pub step_fault : {X : Type 0} (view : X → ℕ × Instruction) (bytes : List ℕ) (xs : List (ℕ × Instruction)) (old new : Place) (step : Result X CodeFault) (e : CodeFault)
    → SoFar bytes old xs → StepsThrough view old (Some step) new → step ≡ Err e → FaultyCode bytes e
step_fault view bytes xs old new (Ok x) e so s is = absurd cc
step_fault view bytes xs old new (Err f) e so s is = let same : f ≡ e = cc in subst (λ (g : CodeFault). FaultyCode bytes g) same (code_fault bytes xs old f so s.0 s.1)

-- a step of which something is given is a step
pub given_step : {X Y : Type 0} (view : X → Y) (given : ℕ × Instruction → Y) (old new : Place) (step : Result X CodeFault) (x : X)
    → StepsBy view given old (Some step) new → step ≡ Ok x
    → (i : Instruction) × (view x ≡ given (old.at, i)) × StepsThrough (λ (y : ℕ × Instruction). y) old (Some (Ok (old.at, i))) new
given_step view given old new step x s is =
    let (i, same, first, spells, took) = subst (λ (r : Result _ CodeFault). StepsBy view given old (Some r) new) is s in
    (i, same, (refl, first, spells, took))

pub unless_memory : {P : Type 0} (e : CodeFault) → P → UnlessMemory e P
unless_memory OutOfMemory p = tt
unless_memory e p = p

-- what was not read yet begins within the bytes
pub within : (bytes : List ℕ) (xs : List (ℕ × Instruction)) (p : Place) → SoFar bytes p xs → p.at ≤ length bytes
within bytes xs p so = omega (arith, so.2, ap length so.1, length-append so.0 p.rest)

starts_weaken : (a b : ℕ) (xs : List (ℕ × Instruction)) → a ≤ b → StartsRise b xs → StartsRise a xs
starts_weaken a b [] le r = tt
starts_weaken a b (x ∷ xs) le r = (omega (arith, le, r.0), r.1)

pub starts_rise : (at : ℕ) (bytes : List ℕ) (xs : List (ℕ × Instruction)) → SpellsCode at bytes xs → StartsRise at xs
starts_rise at bytes [] code = tt
starts_rise at bytes (x ∷ xs) code =
    let more = has_bytes at code.0 (Ok x.1) code.4 in
    (omega (arith, code.3), starts_weaken (x.0 + 1) (at + length code.0) xs (omega (arith, more, code.3)) (starts_rise (at + length code.0) code.1 xs code.5))

-- ---- bytes are one code at most, and not also at fault

abbrev good : {V : Type 0} → V × Place → Result (V × Place) ReadFault
good x = Ok x

-- what is read in front is one value and takes the same bytes
fronts : (at : ℕ) (a b x y : List ℕ) (v w : Result Instruction CodeFault)
    → Spells (instruction_at at) a v → Spells (instruction_at at) b w → a ++ x ≡ b ++ y → (v ≡ w) × (at + length a ≡ at + length b) × (x ≡ y)
fronts at a b x y v w s t e =
    let f = instruction_at at in
    let made : Read = (v, record { at = at + length a; rest = x }) in
    let other : Read = (w, record { at = at + length b; rest = y }) in
    let one : good made ≡ good other = sym (spelled_reads f at a x v s) ∙ ap (reads f at) e ∙ spelled_reads f at b y w t in
    let same = same_good made other one in
    (ap (λ (z : Read). z.0) same, ap (λ (z : Read). z.1.at) same, ap (λ (z : Read). z.1.rest) same)

pub not_both : (at : ℕ) (first rest others : List ℕ) (i : Instruction) (e : CodeFault)
    → SpellsInstruction at first i → others ≡ first ++ rest → FaultyInstruction at others e → ⊥
not_both at first rest others i e s parts (inl h) =
    spelled_no_fault (instruction_at at) first rest at (Ok i) h.1 s (subst (λ (t : List ℕ). FirstFault (instruction_at at) at t h.1) parts h.2)
not_both at first rest others i e s parts (inr h) =
    let same = (fronts at first h.0 rest h.1 (Ok i) (Err e) s h.3 (sym parts ∙ h.2)).0 in
    absurd cc

excluded : (xs ys : List (ℕ × Instruction)) (at : ℕ) (front others bytes : List ℕ) (e : CodeFault)
    → bytes ≡ front ++ others → SpellsCode at front xs → SpellsCode at bytes ys → 0 < length others → FaultyInstruction (at + length front) others e → ⊥
excluded [] [] at front others bytes e parts code whole more fault =
    let none : length (front ++ others) ≡ 0 = sym (ap length parts) ∙ ap length whole in
    absurd (omega (arith, none, more, length-append front others))
excluded [] (y ∷ ys) at front others bytes e parts code whole more fault =
    let here : at + length front ≡ at = ap (λ (t : List ℕ). at + length t) code ∙ omega arith in
    let same : others ≡ whole.0 ++ whole.1 = sym (parts ∙ ap (λ (t : List ℕ). t ++ others) code) ∙ whole.2 in
    not_both at whole.0 whole.1 others y.1 e whole.4 same (subst (λ (k : ℕ). FaultyInstruction k others e) here fault)
excluded (x ∷ xs) [] at front others bytes e parts code whole more fault =
    let none : length (front ++ others) ≡ 0 = sym (ap length parts) ∙ ap length whole in
    absurd (omega (arith, none, more, length-append front others))
excluded (x ∷ xs) (y ∷ ys) at front others bytes e parts code whole more fault =
    let a = code.0 in
    let b = code.1 in
    let regrouped : a ++ (b ++ others) ≡ whole.0 ++ whole.1 = sym (parts ∙ ap (λ (t : List ℕ). t ++ others) code.2 ∙ append_assoc a b others) ∙ whole.2 in
    let same = fronts at a whole.0 (b ++ others) whole.1 (Ok x.1) (Ok y.1) code.4 whole.4 regrouped in
    let later : at + length front ≡ (at + length a) + length b = ap (λ (t : List ℕ). at + length t) code.2 ∙ omega (arith, length-append a b) in
    excluded xs ys (at + length a) b others whole.1 e (sym same.2) code.5
    (subst (λ (k : ℕ). SpellsCode k whole.1 ys) (sym same.1) whole.5) more
    (subst (λ (k : ℕ). FaultyInstruction k others e) later fault)

pub code_or_fault : (bytes : List ℕ) (xs : List (ℕ × Instruction)) (e : CodeFault) → SpellsCode 0 bytes xs → FaultyCode bytes e → ⊥
code_or_fault bytes xs e code f =
    let here : length f.front ≡ 0 + length f.front = omega arith in
    excluded f.instructions xs 0 f.front f.others bytes e f.parts f.code code f.more (subst (λ (k : ℕ). FaultyInstruction k f.others e) here f.fault)

same_value : (i j : Instruction) (v w : Result Instruction CodeFault) → v ≡ Ok i → w ≡ Ok j → v ≡ w → i ≡ j
same_value i j v w p q e = let h : Ok i ≡ w = sym p ∙ e in let k : Ok i ≡ Ok j = h ∙ q in cc

pub one_code : (at : ℕ) (bytes : List ℕ) (xs ys : List (ℕ × Instruction)) → SpellsCode at bytes xs → SpellsCode at bytes ys → xs ≡ ys
one_code at bytes [] [] c d = refl
one_code at bytes [] (y ∷ ys) c d =
    let none : length (d.0 ++ d.1) ≡ 0 = sym (ap length d.2) ∙ ap length c in
    absurd (omega (arith, none, has_bytes at d.0 (Ok y.1) d.4, length-append d.0 d.1))
one_code at bytes (x ∷ xs) [] c d =
    let none : length (c.0 ++ c.1) ≡ 0 = sym (ap length c.2) ∙ ap length d in
    absurd (omega (arith, none, has_bytes at c.0 (Ok x.1) c.4, length-append c.0 c.1))
one_code at bytes (x ∷ xs) (y ∷ ys) c d =
    let same = fronts at c.0 d.0 c.1 d.1 (Ok x.1) (Ok y.1) c.4 d.4 (sym c.2 ∙ d.2) in
    let i : x.1 ≡ y.1 = same_value x.1 y.1 (Ok x.1) (Ok y.1) refl refl same.0 in
    let first : x ≡ y = ap (λ (k : ℕ). (k, x.1)) (c.3 ∙ sym d.3) ∙ ap (λ (j : Instruction). (y.0, j)) i in
    let others = one_code (at + length c.0) c.1 xs ys c.5
    (subst (λ (t : List ℕ). SpellsCode (at + length c.0) t ys) (sym same.2) (subst (λ (k : ℕ). SpellsCode k d.1 ys) (sym same.1) d.5)) in
    ap (λ (z : ℕ × Instruction). z ∷ xs) first ∙ ap (λ (zs : List (ℕ × Instruction)). y ∷ zs) others

-- ---- one fault

not_read : (at : ℕ) (others : List ℕ) (e f : CodeFault) → FaultyInstruction at others e → FaultyInstruction at others f → e ≡ f
not_read at others e f (inl h) (inl k) = h.0 ∙ sym k.0
not_read at others e f (inl h) (inr k) =
    absurd (spelled_no_fault (instruction_at at) k.0 k.1 at (Err f) h.1 k.3 (subst (λ (t : List ℕ). FirstFault (instruction_at at) at t h.1) k.2 h.2))
not_read at others e f (inr h) (inl k) =
    absurd (spelled_no_fault (instruction_at at) h.0 h.1 at (Err e) k.1 h.3 (subst (λ (t : List ℕ). FirstFault (instruction_at at) at t k.1) h.2 k.2))
not_read at others e f (inr h) (inr k) = let same = (fronts at h.0 k.0 h.1 k.1 (Err e) (Err f) h.3 k.3 (sym h.2 ∙ k.2)).0 in cc

-- after instructions that stand in front of the same bytes stands the same fault
one_fault_behind : (xs ys : List (ℕ × Instruction)) (at : ℕ) (front behind others rest bytes : List ℕ) (e f : CodeFault)
    → bytes ≡ front ++ behind → bytes ≡ others ++ rest → SpellsCode at front xs → SpellsCode at others ys → 0 < length behind → 0 < length rest
    → FaultyInstruction (at + length front) behind e → FaultyInstruction (at + length others) rest f → e ≡ f
one_fault_behind [] [] at front behind others rest bytes e f p q c d more less h k =
    let here : at + length front ≡ at = ap (λ (t : List ℕ). at + length t) c ∙ omega arith in
    let there : at + length others ≡ at = ap (λ (t : List ℕ). at + length t) d ∙ omega arith in
    let same : rest ≡ behind = sym (q ∙ ap (λ (t : List ℕ). t ++ rest) d) ∙ p ∙ ap (λ (t : List ℕ). t ++ behind) c in
    not_read at behind e f (subst (λ (n : ℕ). FaultyInstruction n behind e) here h)
    (subst (λ (t : List ℕ). FaultyInstruction at t f) same (subst (λ (n : ℕ). FaultyInstruction n rest f) there k))
one_fault_behind [] (y ∷ ys) at front behind others rest bytes e f p q c d more less h k =
    let here : at + length front ≡ at = ap (λ (t : List ℕ). at + length t) c ∙ omega arith in
    let same : behind ≡ d.0 ++ (d.1 ++ rest) =
    sym (p ∙ ap (λ (t : List ℕ). t ++ behind) c) ∙ q ∙ ap (λ (t : List ℕ). t ++ rest) d.2 ∙ append_assoc d.0 d.1 rest in
    absurd (not_both at d.0 (d.1 ++ rest) behind y.1 e d.4 same (subst (λ (n : ℕ). FaultyInstruction n behind e) here h))
one_fault_behind (x ∷ xs) [] at front behind others rest bytes e f p q c d more less h k =
    let there : at + length others ≡ at = ap (λ (t : List ℕ). at + length t) d ∙ omega arith in
    let same : rest ≡ c.0 ++ (c.1 ++ behind) =
    sym (q ∙ ap (λ (t : List ℕ). t ++ rest) d) ∙ p ∙ ap (λ (t : List ℕ). t ++ behind) c.2 ∙ append_assoc c.0 c.1 behind in
    absurd (not_both at c.0 (c.1 ++ behind) rest x.1 f c.4 same (subst (λ (n : ℕ). FaultyInstruction n rest f) there k))
one_fault_behind (x ∷ xs) (y ∷ ys) at front behind others rest bytes e f p q c d more less h k =
    let left : bytes ≡ c.0 ++ (c.1 ++ behind) = p ∙ ap (λ (t : List ℕ). t ++ behind) c.2 ∙ append_assoc c.0 c.1 behind in
    let right : bytes ≡ d.0 ++ (d.1 ++ rest) = q ∙ ap (λ (t : List ℕ). t ++ rest) d.2 ∙ append_assoc d.0 d.1 rest in
    let same = fronts at c.0 d.0 (c.1 ++ behind) (d.1 ++ rest) (Ok x.1) (Ok y.1) c.4 d.4 (sym left ∙ right) in
    let later : at + length front ≡ (at + length c.0) + length c.1 = ap (λ (t : List ℕ). at + length t) c.2 ∙ omega (arith, length-append c.0 c.1) in
    let further : at + length others ≡ (at + length c.0) + length d.1 =
    ap (λ (t : List ℕ). at + length t) d.2 ∙ omega (arith, same.1, length-append d.0 d.1) in
    one_fault_behind xs ys (at + length c.0) c.1 behind d.1 rest (c.1 ++ behind) e f refl same.2 c.5
    (subst (λ (n : ℕ). SpellsCode n d.1 ys) (sym same.1) d.5) more less
    (subst (λ (n : ℕ). FaultyInstruction n behind e) later h) (subst (λ (n : ℕ). FaultyInstruction n rest f) further k)

pub one_fault : (bytes : List ℕ) (e f : CodeFault) → FaultyCode bytes e → FaultyCode bytes f → e ≡ f
one_fault bytes e f a b =
    let here : length a.front ≡ 0 + length a.front = omega arith in
    let there : length b.front ≡ 0 + length b.front = omega arith in
    one_fault_behind a.instructions b.instructions 0 a.front a.others b.front b.others bytes e f a.parts b.parts a.code b.code a.more b.more
    (subst (λ (k : ℕ). FaultyInstruction k a.others e) here a.fault) (subst (λ (k : ℕ). FaultyInstruction k b.others f) there b.fault)
