-- Instructions one after the other, as they are written.
use Rattle.std.proofs.Common.{◌≡◌, ℕ, ◌+◌, ◌<◌, ◌≤◌, true, false, List, [], ◌∷◌, ◌++◌, length, Result, Ok, Err, refl, sym, ap, subst, ◌∙◌, append_assoc, arith, ltb, map, drop, get_or, ◌⊎◌, inl, inr}
use Rattle.std.specs.Prelude.{IfOk}
use Rattle.std.proofs.lemmas.Bool.{ltb-true, ltb-false}
use Rattle.std.proofs.lemmas.List.{length-append, append-nil, drop_more}
use Rattle.layout.specs.Format.{AreBytes}
use Rattle.layout.specs.FormatLaws.{AreBytes-parts}
use Rattle.layout.specs.declared.limits.TheConstants.{MAX_CODE_BYTES}
use Rattle.layout.specs.declared.fault.WriteFault.{WriteFault}
use Rattle.layout.specs.declared.fault.WriteFault.TheVariants.{OutOfMemory, DoesNotFit, HasNoSpelling}
use Rattle.insn.specs.declared.fault.CodeFault.{CodeFault}
use Rattle.insn.specs.declared.instruction.Insn.{Insn}
use Rattle.insn.specs.Instructions.{Instruction}
use Rattle.insn.specs.Views.{view}
use Rattle.insn.specs.Code.{SpellsInstruction, SpellsCode, FaultyCode}
use Rattle.insn.specs.InstructionSizes.{size, code_size, placed}
use Rattle.insn.specs.WrittenInstructions.{instruction_bytes}
use Rattle.insn.specs.Encoding.{instructions, SpellsList, IsCode, IsTooLarge, IsUnspelled, HasNone, AppendsInstruction, Encodes}
use Rattle.insn.proofs.CodeLaws.{code_on, code_or_fault, one_code}
use Rattle.insn.proofs.OperandLaws.{instruction_known, measured}

-- ---- a list of instructions has one spelling at most

abbrev code_bytes : List Instruction → List ℕ
code_bytes [] = []
code_bytes (i ∷ is) = instruction_bytes i ++ code_bytes is

code_measured : (is : List Instruction) → length (code_bytes is) ≡ code_size is
code_measured [] = refl
code_measured (i ∷ is) = omega (arith, length-append (instruction_bytes i) (code_bytes is), measured i, code_measured is)

code_known : (at : ℕ) (bytes : List ℕ) (xs : List (ℕ × Instruction)) → AreBytes bytes → SpellsCode at bytes xs → (bytes ≡ code_bytes (instructions xs)) × (xs ≡ placed at (instructions xs))
code_known at bytes [] fit s = (s, refl)
code_known at bytes (x ∷ xs) fit s =
    let bs = AreBytes-parts s.0 s.1 (subst AreBytes s.2 fit) in
    let k = instruction_known at s.0 x.1 bs.0 s.4 in
    let next : at + length s.0 ≡ at + size x.1 = ap (λ (n : ℕ). at + n) (ap length k.bytes_are ∙ measured x.1) in
    let rest = code_known (at + length s.0) s.1 xs bs.1 s.5 in (
      s.2 ∙ ap (λ (t : List ℕ). t ++ s.1) k.bytes_are ∙ ap (λ (t : List ℕ). instruction_bytes x.1 ++ t) rest.0,
      ap (λ (n : ℕ). (n, x.1) ∷ xs) s.3 ∙ ap (λ (t : List (ℕ × Instruction)). (at, x.1) ∷ t) (rest.1 ∙ ap (λ (n : ℕ). placed n (instructions xs)) next),
    )

list_known : (bytes : List ℕ) (is : List Instruction) → AreBytes bytes → SpellsList bytes is → bytes ≡ code_bytes is
list_known bytes is fit s = (code_known 0 bytes s.list fit s.code).0 ∙ ap code_bytes s.same

pub one_spelling : (is : List Instruction) (a b : List ℕ) → AreBytes a → AreBytes b → SpellsList a is → SpellsList b is → a ≡ b
one_spelling is a b fit gif s t = list_known a is fit s ∙ sym (list_known b is gif t)

pub list_measured : (bytes : List ℕ) (is : List Instruction) → AreBytes bytes → SpellsList bytes is → length bytes ≡ code_size is
list_measured bytes is fit s = ap length (list_known bytes is fit s) ∙ code_measured is

pub code_placed : (bytes : List ℕ) (xs : List (ℕ × Instruction)) → AreBytes bytes → SpellsCode 0 bytes xs → xs ≡ placed 0 (instructions xs)
code_placed bytes xs fit s = (code_known 0 bytes xs fit s).1

-- ---- one instruction more

pub record SoFarWritten (all rest : List Instruction) (out : List ℕ) : Type 0 where
  pub list : List (ℕ × Instruction)
  pub same : instructions list ++ rest ≡ all
  pub code : SpellsCode 0 out list
  pub long : length out ≡ code_size (instructions list)

instructions_append : (xs ys : List (ℕ × Instruction)) → instructions (xs ++ ys) ≡ instructions xs ++ instructions ys
instructions_append [] ys = refl
instructions_append (x ∷ xs) ys = ap (λ (t : List Instruction). x.1 ∷ t) (instructions_append xs ys)

size_append : (is js : List Instruction) → code_size (is ++ js) ≡ code_size is + code_size js
size_append [] js = omega arith
size_append (i ∷ is) js = omega (arith, size_append is js)

pub written_on : (all rest : List Instruction) (i : Instruction) (out new : List ℕ) → SoFarWritten all (i ∷ rest) out
    → SpellsInstruction (length out) (instruction_bytes i) i × (new ≡ out ++ instruction_bytes i) → SoFarWritten all rest new
written_on all rest i out new so put =
    let one : List (ℕ × Instruction) = (length out, i) ∷ [] in
    let list : instructions (so.list ++ one) ≡ instructions so.list ++ i ∷ [] = instructions_append so.list one in
    let sum : code_size (instructions (so.list ++ one)) ≡ code_size (instructions so.list) + (size i + 0) = ap code_size list ∙ size_append (instructions so.list) (i ∷ []) in
    let more : length new ≡ length out + size i = ap length put.1 ∙ length-append out (instruction_bytes i) ∙ ap (λ (n : ℕ). length out + n) (measured i) in
    record {
      list = so.list ++ one;
      same = ap (λ (t : List Instruction). t ++ rest) list ∙ append_assoc (instructions so.list) (i ∷ []) rest ∙ so.same;
      code = subst (λ (t : List ℕ). SpellsCode 0 t (so.list ++ one)) (sym put.1) (code_on 0 out so.list (length out) (instruction_bytes i) i (omega arith) so.code put.0);
      long = omega (arith, more, so.long, sum);
    }

pub written_all : (all : List Instruction) (out : List ℕ) → SoFarWritten all [] out → ltb MAX_CODE_BYTES (code_size all) ≡ false → IsCode out all
written_all all out so small =
    let same : instructions so.list ≡ all = sym (append-nil (instructions so.list)) ∙ so.same in
    let long : length out ≡ code_size all = so.long ∙ ap code_size same in
    record { within = omega (arith, long, ltb-false _ _ small); spelled = record { list = so.list; same = same; code = so.code } }

-- ---- an instruction that no bytes spell

found : (at : ℕ) (bytes : List ℕ) (xs : List (ℕ × Instruction)) (front rest : List Instruction) (i : Instruction) → AreBytes bytes → SpellsCode at bytes xs → instructions xs ≡ front ++ i ∷ rest
    → (first : List ℕ) × AreBytes first × SpellsInstruction (at + code_size front) first i
found at bytes [] [] rest i fit s e = absurd cc
found at bytes [] (f ∷ front) rest i fit s e = absurd cc
found at bytes (x ∷ xs) [] rest i fit s e =
    let bs = AreBytes-parts s.0 s.1 (subst AreBytes s.2 fit) in
    let same : x.1 ≡ i = cc in
    let here : at ≡ at + 0 = omega arith in
    (s.0, bs.0, subst (λ (n : ℕ). SpellsInstruction n s.0 i) here (subst (λ (j : Instruction). SpellsInstruction at s.0 j) same s.4))
found at bytes (x ∷ xs) (f ∷ front) rest i fit s e =
    let bs = AreBytes-parts s.0 s.1 (subst AreBytes s.2 fit) in
    let same : x.1 ≡ f = cc in
    let others : instructions xs ≡ front ++ i ∷ rest = cc in
    let k = instruction_known at s.0 x.1 bs.0 s.4 in
    let long : length s.0 ≡ size f = ap length k.bytes_are ∙ measured x.1 ∙ ap size same in
    let r = found (at + length s.0) s.1 xs front rest i bs.1 s.5 others in
    let there : (at + length s.0) + code_size front ≡ at + (size f + code_size front) = omega (arith, long) in
    (r.0, r.1, subst (λ (n : ℕ). SpellsInstruction n r.0 i) there r.2)

pub none_written : (all rest : List Instruction) (i : Instruction) (out : List ℕ) → SoFarWritten all (i ∷ rest) out → HasNone (length out) i → IsUnspelled all
none_written all rest i out so none bytes fit s =
    let parts : instructions s.list ≡ instructions so.list ++ i ∷ rest = s.same ∙ sym so.same in
    let f = found 0 bytes s.list (instructions so.list) rest i fit s.code parts in
    let there : 0 + code_size (instructions so.list) ≡ length out = omega (arith, so.long) in
    none f.0 f.1 (subst (λ (n : ℕ). SpellsInstruction n f.0 i) there f.2)

-- ---- what is returned

pub small_enough : (all : List Instruction) → ltb MAX_CODE_BYTES (code_size all) ≡ false → IsTooLarge all → ⊥
small_enough all small large = let le = ltb-false _ _ small in absurd (omega (arith, le, large))

pub large_is_no_code : (all : List Instruction) (bytes : List ℕ) → ltb MAX_CODE_BYTES (code_size all) ≡ true → AreBytes bytes → IsCode bytes all → ⊥
large_is_no_code all bytes large fit code =
    let long = list_measured bytes all fit code.spelled in
    let lt = ltb-true _ _ large in
    absurd (omega (arith, code.within, long, lt))

-- ---- a list, as a program writes it

-- what is left of the list is the instruction and what is left after it
left : (list : List Insn) (k : ℕ) (d : Insn) → k < length list → map view (drop k list) ≡ view (get_or list k d) ∷ map view (drop (k + 1) list)
left list k d lt = ap (λ (t : List Insn). map view t) (drop_more list k d lt)

pub written_step : (list : List Insn) (k : ℕ) (d : Insn) (out new : List ℕ) → k < length list → SoFarWritten (map view list) (map view (drop k list)) out
    → SpellsInstruction (length out) (instruction_bytes (view (get_or list k d))) (view (get_or list k d)) × (new ≡ out ++ instruction_bytes (view (get_or list k d)))
    → SoFarWritten (map view list) (map view (drop (k + 1) list)) new
written_step list k d out new lt so put =
    written_on (map view list) (map view (drop (k + 1) list)) (view (get_or list k d)) out new
    (subst (λ (t : List Instruction). SoFarWritten (map view list) t out) (left list k d lt) so) put

none_at : (list : List Insn) (k : ℕ) (d : Insn) (out : List ℕ) → k < length list → SoFarWritten (map view list) (map view (drop k list)) out
    → HasNone (length out) (view (get_or list k d)) → IsUnspelled (map view list)
none_at list k d out lt so none =
    none_written (map view list) (map view (drop (k + 1) list)) (view (get_or list k d)) out
    (subst (λ (t : List Instruction). SoFarWritten (map view list) t out) (left list k d lt) so) none

pub refused : {X : Type 0} (bytes : X → List ℕ) (list : List Insn) (k : ℕ) (d : Insn) (out new : List ℕ) (e : WriteFault) → k < length list → ltb MAX_CODE_BYTES (code_size (map view list)) ≡ false
    → SoFarWritten (map view list) (map view (drop k list)) out → AppendsInstruction (length out) (view (get_or list k d)) out new (Err e) → Encodes (map view list) bytes (Err e)
refused bytes list k d out new OutOfMemory lt small so h = tt
refused bytes list k d out new DoesNotFit lt small so h = absurd h
refused bytes list k d out new HasNoSpelling lt small so h = (small_enough (map view list) small, none_at list k d out lt so h)

pub refused_only : (list : List Insn) (k : ℕ) (d : Insn) (out new : List ℕ) (e : WriteFault) → k < length list → SoFarWritten (map view list) (map view (drop k list)) out
    → AppendsInstruction (length out) (view (get_or list k d)) out new (Err e) → (bytes : List ℕ) → AreBytes bytes → IsCode bytes (map view list) → e ≡ OutOfMemory
refused_only list k d out new OutOfMemory lt so h bytes fit code = refl
refused_only list k d out new DoesNotFit lt so h bytes fit code = absurd h
refused_only list k d out new HasNoSpelling lt so h bytes fit code = absurd (none_at list k d out lt so h bytes fit code.spelled)

-- ---- there and back

pub written_is_read : (bytes : List ℕ) (is : List Instruction) → IsCode bytes is
    → ((xs : List (ℕ × Instruction)) → SpellsCode 0 bytes xs → instructions xs ≡ is) × ((e : CodeFault) → FaultyCode bytes e → ⊥)
written_is_read bytes is code =
    let s = code.spelled in
    (λ xs read. ap instructions (one_code 0 bytes xs s.list read s.code) ∙ s.same, λ e fault. code_or_fault bytes s.list e s.code fault)

pub read_is_written : (bytes : List ℕ) (xs : List (ℕ × Instruction)) (answer : Result (List ℕ) WriteFault)
    → AreBytes bytes → length bytes ≤ MAX_CODE_BYTES → SpellsCode 0 bytes xs
    → IfOk answer AreBytes → Encodes (instructions xs) (λ b. b) answer → (answer ≡ Ok bytes) ⊎ (answer ≡ Err OutOfMemory)
read_is_written bytes xs (Ok b) fit le read gif code =
    inl (ap Ok (one_spelling (instructions xs) b bytes gif fit code.spelled (record { list = xs; same = refl; code = read })))
read_is_written bytes xs (Err OutOfMemory) fit le read gif h = inr refl
read_is_written bytes xs (Err DoesNotFit) fit le read gif h =
    let long = list_measured bytes (instructions xs) fit (record { list = xs; same = refl; code = read }) in
    absurd (omega (arith, long, le, h))
read_is_written bytes xs (Err HasNoSpelling) fit le read gif h = absurd (h.1 bytes fit (record { list = xs; same = refl; code = read }))
