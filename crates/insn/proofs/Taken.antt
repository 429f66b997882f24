-- Instructions taken by one look at the bytes in front: any bytes after an opcode with unconstrained operands are its
-- operands.
use Rattle.std.proofs.Common.{◌≡◌, ◌∙◌, ℕ, ◌+◌, zero, suc, ◌<◌, ◌≤◌, true, false, List, [], ◌∷◌, ◌++◌, length, get_or, take, drop, Option, Some, None, Result, Ok, Err, is_ok, Bool, refl, sym, ap, subst, arith}
use Rattle.std.proofs.lemmas.Bool.{le-ltb}
use Rattle.std.proofs.lemmas.List.{append-nil, length-drop, length-take-le, nil_from_length, take-append-drop}
use Rattle.std.specs.Int.{cast_signed, w8, w16, w32}
use Rattle.std.specs.Prelude.{option_map, nat_eq, if◌then◌else◌, IsTrue, ◌↔◌}
use Rattle.std.specs.Result.{result_ok}
use Rattle.byteorder.specs.Endian.{big_number}
use Rattle.layout.specs.Place.{Place, Took}
use Rattle.layout.specs.Format.{Format, Spells, done, part, andthen, number, reads}
use Rattle.layout.specs.Faults.{Reads}
use Rattle.layout.specs.FormatLaws.{part_reads, andthen_spelled}
use Rattle.layout.specs.declared.fault.ReadFault.{ReadFault}
use Rattle.insn.specs.declared.fault.CodeFault.TheVariants.{NonZeroByte}
use Rattle.insn.specs.declared.opcode.Opcode.{Opcode}
use Rattle.insn.specs.declared.opcode.Opcode.TheVariants.{New}
use Rattle.insn.specs.declared.acts.Act as program
use Rattle.insn.specs.declared.acts.Meaning.{Meaning}
use Rattle.insn.specs.declared.table.Form.{Form}
use Rattle.insn.specs.declared.table.Form.TheVariants as forms
use Rattle.insn.specs.Code.{SpellsInstruction, modified}
use Rattle.insn.specs.Instructions.{Instruction, Operands, Outcome, nothing, byte, short, constant, index, local, increment, branch, wide_branch, invoke_interface, new_array, multi_new_array, operands_at, invoke_interface_at, of_opcode, behind_opcode, instruction_at}
use Rattle.insn.specs.Meanings.{act, act_of, made_index, local_of, index_of, byte_of}
use Rattle.insn.specs.Opcodes.{Row, form, meaning, number as opcode_number, opcode_of}
use Rattle.insn.specs.Meanings as means
use Rattle.insn.specs.Views.{act_view}
use Rattle.insn.specs.private.Table.{TableRow, table_opcode, act_where, IsRowOf}
use Rattle.insn.proofs.Spelled.{outcome}
use Rattle.insn.specs.private.OperandParts.{IsActAlways, IsActBy}
use Rattle.insn.specs.Unconstrained.{form_length, unconstrained_length, HasUnconstrained}
use Rattle.insn.specs.private.Taken.{SkipsUnconstrained, TakesNew, TakesAct, HasAct}

-- operands that stand after an opcode, of its form
pub record Behind (f : Form) (bytes : List ℕ) : Type 0 where
  pub operands : Operands
  pub spelled : (at : ℕ) → Spells (operands_at at f) bytes (Ok operands)
  pub plain : (o : Opcode) → modified o operands ≡ o

-- an opcode and what stands after it
pub spelled_behind : (at n : ℕ) (o : Opcode) (bytes : List ℕ) (x : Operands) → opcode_of n ≡ Some o → Spells (operands_at at (form o)) bytes (Ok x)
    → SpellsInstruction at (n ∷ bytes) (record { opcode = o; operands = x })
unfolding instruction_at
spelled_behind at n o bytes x named s =
    let i : Instruction = record { opcode = o; operands = x } in
    let whole = andthen_spelled (operands_at at (form o)) (λ y. done (of_opcode o y)) bytes [] (Ok x) (Ok i) s (refl, refl) in
    let behind : Spells (behind_opcode at (Some o)) bytes (Ok i) = subst (λ (t : List ℕ). Spells (behind_opcode at (Some o)) t (Ok i)) (append-nil bytes) whole in
    let same : big_number 1 (n ∷ []) ≡ n = omega arith in
    (n ∷ [], bytes, refl, refl, subst (λ (z : Option Opcode). Spells (behind_opcode at z) bytes (Ok i)) (sym (ap opcode_of same ∙ named)) behind)

-- ---- operands of one number or two

one_number : (n : ℕ) (make : ℕ → Operands) (bytes : List ℕ) → length bytes ≡ n
    → Spells (andthen (number n) (λ j. done (outcome (make j)))) bytes (outcome (make (big_number n bytes)))
one_number n make bytes long = (bytes, [], long, sym (append-nil bytes), (refl, refl))

two_numbers : (n m : ℕ) (make : ℕ → ℕ → Operands) (bytes : List ℕ) → length bytes ≡ n + m
    → Spells (andthen (number n) (λ i. andthen (number m) (λ j. done (outcome (make i j))))) bytes (outcome (make (big_number n (take n bytes)) (big_number m (drop n bytes))))
two_numbers n m make bytes long = (
  take n bytes,
  drop n bytes,
  length-take-le n bytes (omega (arith, long)),
  sym (take-append-drop n bytes),
  one_number m (make (big_number n (take n bytes))) (drop n bytes) (omega (arith, long, length-drop n bytes)),
)

-- any bytes, as many as an opcode of this form has after it, are its operands
operands_in : (f : Form) (bytes : List ℕ) → 1 + length bytes ≡ form_length f → Behind f bytes
unfolding operands_at
operands_in forms.Nothing bytes e = record {
  operands = nothing;
  spelled = λ at. (nil_from_length bytes (omega (arith, e)), refl);
  plain = λ o. refl;
}
operands_in forms.Byte bytes e = record {
  operands = byte (cast_signed w8 (big_number 1 bytes));
  spelled = λ at. one_number 1 (λ n. byte (cast_signed w8 n)) bytes (omega (arith, e));
  plain = λ o. refl;
}
operands_in forms.Short bytes e = record {
  operands = short (cast_signed w16 (big_number 2 bytes));
  spelled = λ at. one_number 2 (λ n. short (cast_signed w16 n)) bytes (omega (arith, e));
  plain = λ o. refl;
}
operands_in forms.Constant bytes e = record {
  operands = constant (big_number 1 bytes);
  spelled = λ at. one_number 1 (λ n. constant n) bytes (omega (arith, e));
  plain = λ o. refl;
}
operands_in forms.Index bytes e = record {
  operands = index (big_number 2 bytes);
  spelled = λ at. one_number 2 (λ n. index n) bytes (omega (arith, e));
  plain = λ o. refl;
}
operands_in forms.Local bytes e = record {
  operands = local (big_number 1 bytes);
  spelled = λ at. one_number 1 (λ n. local n) bytes (omega (arith, e));
  plain = λ o. refl;
}
operands_in forms.Increment bytes e = record {
  operands = increment (big_number 1 (take 1 bytes)) (cast_signed w8 (big_number 1 (drop 1 bytes)));
  spelled = λ at. two_numbers 1 1 (λ n by. increment n (cast_signed w8 by)) bytes (omega (arith, e));
  plain = λ o. refl;
}
operands_in forms.Branch bytes e = record {
  operands = branch (cast_signed w16 (big_number 2 bytes));
  spelled = λ at. one_number 2 (λ n. branch (cast_signed w16 n)) bytes (omega (arith, e));
  plain = λ o. refl;
}
operands_in forms.WideBranch bytes e = record {
  operands = wide_branch (cast_signed w32 (big_number 4 bytes));
  spelled = λ at. one_number 4 (λ n. wide_branch (cast_signed w32 n)) bytes (omega (arith, e));
  plain = λ o. refl;
}
operands_in forms.NewArray bytes e = record {
  operands = new_array (big_number 1 bytes);
  spelled = λ at. one_number 1 (λ n. new_array n) bytes (omega (arith, e));
  plain = λ o. refl;
}
operands_in forms.MultiNewArray bytes e = record {
  operands = multi_new_array (big_number 2 (take 2 bytes)) (big_number 1 (drop 2 bytes));
  spelled = λ at. two_numbers 2 1 (λ n dimensions. multi_new_array n dimensions) bytes (omega (arith, e));
  plain = λ o. refl;
}
operands_in _ bytes e = absurd (omega (arith, e))

-- ---- bytes that were taken

-- bytes in front begin with the first of all
opcode_first : (k : ℕ) (rest : List ℕ) (d : ℕ) → 0 < k → 1 ≤ length rest → take k rest ≡ get_or rest 0 d ∷ drop 1 (take k rest)
opcode_first zero rest d some long = absurd (omega (arith, some))
opcode_first (suc k) [] d some long = absurd (omega (arith, long))
opcode_first (suc k) (b ∷ bytes) d some long = refl

-- the numbers after it
pub byte_there : (rest : List ℕ) (d : ℕ) → 2 ≤ length rest → get_or rest 1 d ≡ big_number 1 (drop 1 (take 2 rest))
byte_there (n ∷ a ∷ rest) d long = omega arith
byte_there _ d long = absurd (omega (arith, long))

pub two_there : (rest : List ℕ) (d : ℕ) → 3 ≤ length rest → drop 1 (take 3 rest) ≡ get_or rest 1 d ∷ get_or rest 2 d ∷ []
two_there (n ∷ a ∷ b ∷ rest) d long = refl
two_there _ d long = absurd (omega (arith, long))

-- a part of so many bytes that was taken
part_took : {X : Type 0} (view : X → List ℕ) (k : ℕ) (old new : Place) (b : X) → reads (part k done) old.at old.rest ≡ Ok (view b, new)
    → (k ≤ length old.rest) × Took (take k old.rest) old new
part_took view k old new b e =
    let p = part_reads k old.at old.rest (view b, new) e in
    let behind : new.rest ≡ drop k old.rest = p.3 in (
      p.0,
      record {
        parts = sym (ap (λ (t : List ℕ). take k old.rest ++ t) behind ∙ take-append-drop k old.rest);
        at = omega (arith, p.2, length-take-le k old.rest p.0);
      },
    )

-- a part that was read, where its refusal gives nothing
part_ok : {X : Type 0} (view : X → List ℕ) (k : ℕ) (old new : Place) (answer : Result X ReadFault) (b : X) → Reads (part k done) view old new answer → Some b ≡ result_ok answer
    → reads (part k done) old.at old.rest ≡ Ok (view b, new)
part_ok view k old new (Ok x) b read e = let same : b ≡ x = cc in rw same read
part_ok view k old new (Err f) b read e = absurd cc

-- ---- an instruction that is skipped

makes_none : (o : Opcode) (x : Operands) → 0 < unconstrained_length (Some o) → made_index (act_of (meaning o) x) ≡ None
makes_none New x some = absurd (omega (arith, some))
makes_none o x some = refl

length_by_form : (o : Opcode) → 0 < unconstrained_length (Some o) → unconstrained_length (Some o) ≡ form_length (form o)
length_by_form New some = absurd (omega (arith, some))
length_by_form o some = refl

skipped_behind : (old new : Place) (n : ℕ) (bytes : List ℕ) (z : Option Opcode) → opcode_of n ≡ z → 1 + length bytes ≡ unconstrained_length z → Took (n ∷ bytes) old new
    → SkipsUnconstrained old new true
skipped_behind old new n bytes None named long took = absurd (omega (arith, long))
skipped_behind old new n bytes (Some o) named long took =
    let some : 0 < unconstrained_length (Some o) = omega (arith, long) in
    let b = operands_in (form o) bytes (long ∙ length_by_form o some) in
    let none = subst (λ (p : Opcode). made_index (act_of (meaning p) b.operands) ≡ None) (sym (b.plain o)) (makes_none o b.operands some) in
    (record { opcode = o; operands = b.operands }, none, n ∷ bytes, spelled_behind old.at n o bytes b.operands named (b.spelled old.at), took)

pub skipped : {X : Type 0} (view : X → List ℕ) (old new : Place) (k d : ℕ) (answer : Result X ReadFault) (said : Bool) → 1 ≤ length old.rest
    → k ≡ unconstrained_length (opcode_of (get_or old.rest 0 d)) → 0 < k → Reads (part k done) view old new answer → said ≡ is_ok answer → SkipsUnconstrained old new said
skipped view old new k d (Ok b) said more is some read e =
    let p = part_took view k old new b read in
    let first = opcode_first k old.rest d some more in
    let long : 1 + length (drop 1 (take k old.rest)) ≡ unconstrained_length (opcode_of (get_or old.rest 0 d)) = omega (arith, is, ap length first, length-take-le k old.rest p.0) in
    subst (λ (z : Bool). SkipsUnconstrained old new z) (sym e)
    (skipped_behind old new (get_or old.rest 0 d) (drop 1 (take k old.rest)) _ refl long (subst (λ (t : List ℕ). Took t old new) first p.1))
skipped view old new k d (Err f) said more is some read e = subst (λ (z : Bool). SkipsUnconstrained old new z) (sym e) read.1

has_front : (bytes : List ℕ) (k d : ℕ) → 1 ≤ length bytes → k ≡ unconstrained_length (opcode_of (get_or bytes 0 d)) → 0 < k → k ≤ length bytes → HasUnconstrained bytes
has_front [] k d more is some enough = absurd (omega (arith, more))
has_front (b ∷ bytes) k d more is some enough = (omega (arith, is, some), omega (arith, is, enough))

front_has : (bytes : List ℕ) (k d : ℕ) → k ≡ unconstrained_length (opcode_of (get_or bytes 0 d)) → HasUnconstrained bytes → (0 < k) × (k ≤ length bytes)
front_has [] k d is has = absurd has
front_has (b ∷ bytes) k d is has = (omega (arith, is, has.0), omega (arith, is, has.1))

part_whole : (k at : ℕ) (bytes : List ℕ) → k ≤ length bytes → reads (part k done) at bytes ≡ Ok (take k bytes, record { at = at + k; rest = drop k bytes })
part_whole k at bytes enough = rw (le-ltb (length bytes) k enough) refl

pub skipped_when : {X : Type 0} (view : X → List ℕ) (old new : Place) (k d : ℕ) (answer : Result X ReadFault) (said : Bool) → 1 ≤ length old.rest
    → k ≡ unconstrained_length (opcode_of (get_or old.rest 0 d)) → 0 < k → Reads (part k done) view old new answer → said ≡ is_ok answer → IsTrue said ↔ HasUnconstrained old.rest
skipped_when view old new k d (Ok b) said more is some read e = (λ t. has_front old.rest k d more is some (part_took view k old new b read).0, λ has. e)
skipped_when view old new k d (Err f) said more is some read e = (
  λ t. absurd (let both : false ≡ true = sym e ∙ t in cc),
  λ has. absurd (let both = sym read.0 ∙ part_whole k old.at old.rest (front_has old.rest k d is has).1 in cc),
)

-- ---- an instruction that is taken

-- the instruction whose opcode stands in front, with these operands after it, in k bytes
pub taken : {X : Type 0} (view : X → List ℕ) (old new : Place) (k d : ℕ) (answer : Result X ReadFault) (b : X) (o : Opcode) (x : Operands) → 0 < k → opcode_of (get_or old.rest 0 d) ≡ Some o
    → Spells (operands_at old.at (form o)) (drop 1 (take k old.rest)) (Ok x) → Reads (part k done) view old new answer → Some b ≡ result_ok answer
    → (first : List ℕ) × SpellsInstruction old.at first (record { opcode = o; operands = x }) × Took first old new
taken view old new k d answer b o x some named spelled read e =
    let p = part_took view k old new b (part_ok view k old new answer b read e) in
    let first = opcode_first k old.rest d some (omega (arith, p.0, some)) in
    (get_or old.rest 0 d ∷ drop 1 (take k old.rest), spelled_behind old.at (get_or old.rest 0 d) o (drop 1 (take k old.rest)) x named spelled, subst (λ (t : List ℕ). Took t old new) first p.1)

pub new_taken : {X : Type 0} (view : X → List ℕ) (old new : Place) (d k : ℕ) (answer : Result X ReadFault) (b : X) → 3 ≤ length old.rest → get_or old.rest 0 d ≡ opcode_number New
    → k ≡ big_number 2 (get_or old.rest 1 d ∷ get_or old.rest 2 d ∷ []) → Reads (part 3 done) view old new answer → Some b ≡ result_ok answer → TakesNew old new (Some k)
unfolding operands_at
new_taken view old new d k answer b long first is read e =
    let named : opcode_of (get_or old.rest 0 d) ≡ Some New = ap opcode_of first in
    let bytes = drop 1 (take 3 old.rest) in
    let there = two_there old.rest d long in
    let spelled = one_number 2 (λ n. index n) bytes (ap length there) in
    let same : big_number 2 bytes ≡ k = ap (big_number 2) there ∙ sym is in
    taken view old new 3 d answer b New (index k) (omega arith) named (subst (λ (j : ℕ). Spells (operands_at old.at forms.Index) bytes (Ok (index j))) same spelled) read e

-- operands that are one number, after an opcode, and the act with them
pub has_number : (n : ℕ) (make : ℕ → Operands) (bytes : List ℕ) (f : Form) (m : Meaning) (a : program.Act) → 1 + n ≤ length bytes
    → ((at : ℕ) → operands_at at f ≡ andthen (number n) (λ j. done (outcome (make j)))) → ((j : ℕ) (o : Opcode) → modified o (make j) ≡ o)
    → act_view a ≡ act_of m (make (big_number n (drop 1 (take (1 + n) bytes)))) → HasAct bytes f m a (1 + n)
has_number n make bytes f m a long has plain is =
    let there = drop 1 (take (1 + n) bytes) in
    let length_there : length there ≡ n = omega (arith, length-drop 1 (take (1 + n) bytes), length-take-le (1 + n) bytes long) in
    record {
      operands = make (big_number n there);
      some = omega arith;
      within = long;
      spelled = λ at. subst (λ (g : Format Outcome). Spells g there (Ok (make (big_number n there)))) (sym (has at)) (one_number n make there length_there);
      plain = plain (big_number n there);
      act = is;
    }

-- the act that hangs on one part, with operands that have it
pub by_part : {P : Type 0} (of : Operands → P) (m : Meaning) (p : P) (answer : Option program.Act) (a : program.Act) (x : Operands) → IsActBy of m p answer → answer ≡ Some a → p ≡ of x
    → act_view a ≡ act_of m x
by_part of m p (Some b) a x h is same = let one : b ≡ a = cc in ap act_view (sym one) ∙ h x same
by_part of m p None a x h is same = absurd cc

pub by_any : (m : Meaning) (answer : Option program.Act) (a : program.Act) (x : Operands) → IsActAlways m answer → answer ≡ Some a → act_view a ≡ act_of m x
by_any m (Some b) a x h is = let one : b ≡ a = cc in ap act_view (sym one) ∙ h x
by_any m None a x h is = absurd cc

-- ---- an instruction by its row

alone_is : (f : Form) (o : Opcode) (a : means.Act) → act_where f o ≡ Some a → (f ≡ forms.Nothing) × (a ≡ act (record { opcode = o; operands = nothing }))
alone_is forms.Nothing o a e = (refl, cc)
alone_is f o a e = absurd cc

pub alone_taken : {X : Type 0} (view : X → List ℕ) (old new : Place) (d : ℕ) (r : TableRow) (a : program.Act) (answer : Result X ReadFault) (b : X) → IsRowOf (get_or old.rest 0 d) r
    → r.4 ≡ Some a → Reads (part 1 done) view old new answer → Some b ≡ result_ok answer → TakesAct old new (Some a)
unfolding operands_at
alone_taken view old new d r a answer b row is read e =
    let o = table_opcode r in
    let alone = alone_is (form o) o (act_view a) (sym row.act ∙ ap (option_map act_view) is) in
    let none = nil_from_length (drop 1 (take 1 old.rest)) (omega (arith, length-drop 1 (take 1 old.rest), length-take-le 1 old.rest (part_took view 1 old new b (part_ok view 1 old new answer b read e)).0)) in
    let spelled : Spells (operands_at old.at (form o)) (drop 1 (take 1 old.rest)) (Ok nothing) =
    subst (λ (f : Form). Spells (operands_at old.at f) (drop 1 (take 1 old.rest)) (Ok nothing)) (sym alone.0) (none, refl) in
    let (first, spells, took) = taken view old new 1 d answer b o nothing (omega arith) row.opcode spelled read e in
    (record { opcode = o; operands = nothing }, alone.1, first, spells, took)

pub act_taken : {X : Type 0} (view : X → List ℕ) (old new : Place) (d : ℕ) (r : TableRow) (a : program.Act) (k : ℕ) (answer : Result X ReadFault) (b : X) → IsRowOf (get_or old.rest 0 d) r
    → HasAct old.rest r.2 r.3 a k → Reads (part k done) view old new answer → Some b ≡ result_ok answer → TakesAct old new (Some a)
act_taken view old new d r a k answer b row has read e =
    let o = table_opcode r in
    let x = has.operands in
    let same_form : r.2 ≡ form o = ap (λ (s : Row). s.form) row.row in
    let same_meaning : r.3 ≡ meaning (modified o x) = ap (λ (s : Row). s.meaning) row.row ∙ ap meaning (sym (has.plain o)) in
    let spelled = subst (λ (f : Form). Spells (operands_at old.at f) (drop 1 (take k old.rest)) (Ok x)) same_form (has.spelled old.at) in
    let (first, spells, took) = taken view old new k d answer b o x has.some row.opcode spelled read e in
    (record { opcode = o; operands = x }, has.act ∙ ap (λ (m : Meaning). act_of m x) same_meaning, first, spells, took)

-- ---- operands of more numbers

pub increment_there : (bytes : List ℕ) (f : Form) (m : Meaning) (a : program.Act) → f ≡ forms.Increment → 3 ≤ length bytes
    → ((x : Operands) → get_or bytes 1 0 ≡ local_of x → act_view a ≡ act_of m x) → HasAct bytes f m a 3
unfolding operands_at
increment_there (n ∷ l ∷ b ∷ rest) f m a is long given =
    let named : l ≡ big_number 1 (l ∷ []) = omega arith in
    record {
      operands = increment (big_number 1 (l ∷ [])) (cast_signed w8 (big_number 1 (b ∷ [])));
      some = omega arith;
      within = long;
      spelled = λ at. subst (λ (g : Form). Spells (operands_at at g) (l ∷ b ∷ []) (Ok (increment (big_number 1 (l ∷ [])) (cast_signed w8 (big_number 1 (b ∷ [])))))) (sym is) (two_numbers 1 1 (λ n by. increment n (cast_signed w8 by)) (l ∷ b ∷ []) refl);
      plain = λ o. refl;
      act = given _ named;
    }
increment_there _ f m a is long given = absurd (omega (arith, long))

abbrev interface_behind : ℕ → ℕ → ℕ → ℕ → Format Outcome
interface_behind at i count n = if nat_eq n 0 then done (outcome (invoke_interface i count)) else done (Err (NonZeroByte at))

pub interface_there : (bytes : List ℕ) (f : Form) (m : Meaning) (a : program.Act) → f ≡ forms.InvokeInterface → 5 ≤ length bytes → get_or bytes 4 0 ≡ 0
    → ((x : Operands) → big_number 2 (get_or bytes 1 0 ∷ get_or bytes 2 0 ∷ []) ≡ index_of x → get_or bytes 3 0 ≡ byte_of x → act_view a ≡ act_of m x) → HasAct bytes f m a 5
unfolding operands_at invoke_interface_at
interface_there (n ∷ h ∷ l ∷ c ∷ z ∷ rest) f m a is long none given =
    let i = big_number 2 (h ∷ l ∷ []) in
    let count = big_number 1 (c ∷ []) in
    let free : big_number 1 (z ∷ []) ≡ 0 = omega (arith, none) in
    let named : c ≡ count = omega arith in
    let last : (at : ℕ) → Spells (interface_behind at i count (big_number 1 (z ∷ []))) [] (outcome (invoke_interface i count)) =
    λ at. subst (λ (k : ℕ). Spells (interface_behind at i count k) [] (outcome (invoke_interface i count))) (sym free) (refl, refl) in
    record {
      operands = invoke_interface i count;
      some = omega arith;
      within = long;
      spelled = λ at. subst (λ (g : Form). Spells (operands_at at g) (h ∷ l ∷ c ∷ z ∷ []) (outcome (invoke_interface i count))) (sym is)
          (h ∷ l ∷ [], c ∷ z ∷ [], refl, refl, (c ∷ [], z ∷ [], refl, refl, (z ∷ [], [], refl, refl, last at)));
      plain = λ o. refl;
      act = given (invoke_interface i count) refl named;
    }
interface_there _ f m a is long none given = absurd (omega (arith, long))
