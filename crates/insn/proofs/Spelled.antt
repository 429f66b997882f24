-- Which bytes spell what stands after an opcode: those that it is written as, and no others.
use Rattle.std.proofs.Common.{◌≡◌, ℕ, ◌^◌, ◌<◌, Bool, true, false, cond, Option, Some, None, List, [], ◌++◌, Ok, Err, refl, sym, ap, subst, ◌∙◌, eqb, w8, w16}
use Rattle.std.specs.Int.{cast_signed, cast_unsigned, Width}
use Rattle.std.proofs.lemmas.Bool.{eqb-true}
use Rattle.std.proofs.lemmas.Int.{of_z-to_z}
use Rattle.std.proofs.lemmas.List.{append-nil}
use Rattle.byteorder.specs.Endian.{big_bytes}
use Rattle.layout.specs.Format.{AreBytes, Format, done, Spells, andthen, number}
use Rattle.layout.specs.FormatLaws.{AreBytes-parts, NumberLaw, number_1, number_2, number_is, number_spelled, andthen_spelled, andthen_parts}
use Rattle.layout.specs.Numbers.{number_below}
use Rattle.insn.specs.declared.fault.CodeFault.{CodeFault}
use Rattle.insn.specs.declared.fault.CodeFault.TheVariants.{NonZeroByte}
use Rattle.insn.specs.declared.table.Form.{Form}
use Rattle.insn.specs.declared.table.Form.TheVariants as forms
use Rattle.insn.specs.declared.opcode.Opcode.{Opcode}
use Rattle.insn.specs.Opcodes.{opcode_of, form, number as opcode_number}
use Rattle.insn.specs.Instructions.{Operands, Outcome, increment, invoke_interface, invoke_dynamic, multi_new_array, wide_local, wide_increment, widened, widened_opcode, wide_at, invoke_interface_at, invoke_dynamic_at}
use Rattle.insn.specs.WrittenInstructions.{form_of, takes_local, takes_increment, agrees, operands_bytes}
use Rattle.insn.proofs.Numbers.{has_number}

abbrev pub outcome : Operands → Outcome
outcome x = Ok x

-- ---- a number in front

pub record Number {V : Type 0} (n : ℕ) (next : ℕ → Format V) (bytes : List ℕ) (v : V) : Type 0 where
  pub value : ℕ
  pub others : List ℕ
  pub fits : value < 256 ^ n
  pub parts : bytes ≡ big_bytes n value ++ others
  pub are_bytes : AreBytes others
  pub behind : Spells (next value) others v

pub number_parts : {V : Type 0} (n : ℕ) → NumberLaw n → (next : ℕ → Format V) (bytes : List ℕ) (v : V) → AreBytes bytes → Spells (andthen (number n) next) bytes v → Number n next bytes v
number_parts n law next bytes v fit s =
    let i = andthen_parts (number n) next bytes v s in
    let bs = AreBytes-parts i.0 i.1 (subst AreBytes i.3 fit) in
    record {
      value = i.2;
      others = i.1;
      fits = number_below n i.0 i.2 bs.0 i.4;
      parts = i.3 ∙ ap (λ (t : List ℕ). t ++ i.1) (number_is n law i.0 i.2 bs.0 i.4);
      are_bytes = bs.1;
      behind = i.5;
    }

pub number_first : {V : Type 0} (n : ℕ) → NumberLaw n → (next : ℕ → Format V) (value : ℕ) (others : List ℕ) (v : V) → value < 256 ^ n → Spells (next value) others v
    → Spells (andthen (number n) next) (big_bytes n value ++ others) v
number_first n law next value others v lt s = andthen_spelled (number n) next (big_bytes n value) others value v (number_spelled n law value lt) s

pub last : (y x : Operands) (bytes : List ℕ) → Spells (done (outcome y)) bytes (outcome x) → (bytes ≡ []) × (y ≡ x)
last y x bytes s = let h : outcome y ≡ outcome x = s.1 in (s.0, cc)

-- the number's bytes, and what follows them
on : (n k : ℕ) (bytes others rest : List ℕ) → bytes ≡ big_bytes n k ++ others → others ≡ rest → bytes ≡ big_bytes n k ++ rest
on n k bytes others rest p q = p ∙ ap (λ (t : List ℕ). big_bytes n k ++ t) q

alone : (n k : ℕ) (bytes others : List ℕ) → bytes ≡ big_bytes n k ++ others → others ≡ [] → bytes ≡ big_bytes n k
alone n k bytes others p none = on n k bytes others [] p none ∙ append-nil (big_bytes n k)

-- nothing but what the last number has
pub number_last : (n : ℕ) → NumberLaw n → (make : ℕ → Operands) (value : ℕ) (x : Operands) → value < 256 ^ n → make value ≡ x
    → Spells (andthen (number n) (λ k. done (outcome (make k)))) (big_bytes n value) (outcome x)
number_last n law make value x lt is =
    subst (λ (t : List ℕ). Spells (andthen (number n) (λ k. done (outcome (make k)))) t (outcome x)) (append-nil (big_bytes n value))
    (number_first n law (λ k. done (outcome (make k))) value [] (outcome x) lt (refl, ap outcome is))

-- ---- what is known of operands that bytes spell

pub record Known (at : ℕ) (f : Form) (bytes : List ℕ) (x : Operands) : Type 0 where
  pub has_form : f ≡ form_of x
  pub agree : agrees at x ≡ true
  pub bytes_are : bytes ≡ operands_bytes x

pub number_known : (at : ℕ) (f : Form) (n : ℕ) → NumberLaw n → (make : ℕ → Operands) (bytes : List ℕ) (x : Operands)
    → ((k : ℕ) → f ≡ form_of (make k)) → ((k : ℕ) → agrees at (make k) ≡ true) → ((k : ℕ) → k < 256 ^ n → big_bytes n k ≡ operands_bytes (make k))
    → AreBytes bytes → Spells (andthen (number n) (λ k. done (outcome (make k)))) bytes (outcome x) → Known at f bytes x
number_known at f n law make bytes x has fine are fit s =
    let p = number_parts n law (λ k. done (outcome (make k))) bytes (outcome x) fit s in
    let l = last (make p.value) x p.others p.behind in
    subst (λ (y : Operands). Known at f bytes y) l.1 (record {
      has_form = has p.value;
      agree = fine p.value;
      bytes_are = alone n p.value bytes p.others p.parts l.0 ∙ are p.value p.fits;
    })

-- a number that was read as a signed one
pub signed : (n : ℕ) (w : Width) (k : ℕ) → cast_unsigned w (cast_signed w k) ≡ k → big_bytes n k ≡ big_bytes n (cast_unsigned w (cast_signed w k))
signed n w k is = ap (big_bytes n) (sym is)

pub increment_known : (at : ℕ) (bytes : List ℕ) (x : Operands) → AreBytes bytes
    → Spells (andthen (number 1) (λ n. andthen (number 1) (λ by. done (outcome (increment n (cast_signed w8 by)))))) bytes (outcome x) → Known at forms.Increment bytes x
unfolding operands_bytes
increment_known at bytes x fit s =
    let p = number_parts 1 number_1 (λ n. andthen (number 1) (λ by. done (outcome (increment n (cast_signed w8 by))))) bytes (outcome x) fit s in
    let q = number_parts 1 number_1 (λ by. done (outcome (increment p.value (cast_signed w8 by)))) p.others (outcome x) p.are_bytes p.behind in
    let l = last (increment p.value (cast_signed w8 q.value)) x q.others q.behind in
    let by : big_bytes 1 q.value ≡ big_bytes 1 (cast_unsigned w8 (cast_signed w8 q.value)) = signed 1 w8 q.value (of_z-to_z w8 q.value q.fits) in
    subst (λ (y : Operands). Known at forms.Increment bytes y) l.1
    (record { has_form = refl; agree = refl; bytes_are = on 1 p.value bytes p.others _ p.parts (alone 1 q.value p.others q.others q.parts l.0 ∙ by) })

pub multi_new_array_known : (at : ℕ) (bytes : List ℕ) (x : Operands) → AreBytes bytes
    → Spells (andthen (number 2) (λ i. andthen (number 1) (λ dimensions. done (outcome (multi_new_array i dimensions))))) bytes (outcome x) → Known at forms.MultiNewArray bytes x
unfolding operands_bytes
multi_new_array_known at bytes x fit s =
    let p = number_parts 2 number_2 (λ i. andthen (number 1) (λ dimensions. done (outcome (multi_new_array i dimensions)))) bytes (outcome x) fit s in
    let q = number_parts 1 number_1 (λ dimensions. done (outcome (multi_new_array p.value dimensions))) p.others (outcome x) p.are_bytes p.behind in
    let l = last (multi_new_array p.value q.value) x q.others q.behind in
    subst (λ (y : Operands). Known at forms.MultiNewArray bytes y) l.1
    (record { has_form = refl; agree = refl; bytes_are = on 2 p.value bytes p.others _ p.parts (alone 1 q.value p.others q.others q.parts l.0) })

-- ---- bytes that are 0

zero_alone : (n : ℕ) (y x : Operands) (e : CodeFault) (bytes : List ℕ) (b : Bool) → eqb n 0 ≡ b → Spells (cond b (done (outcome y)) (done (Err e))) bytes (outcome x)
    → (n ≡ 0) × (bytes ≡ []) × (y ≡ x)
zero_alone n y x e bytes true is s = let l = last y x bytes s in (eqb-true _ _ is, l.0, l.1)
zero_alone n y x e bytes false is s = let wrong : Err e ≡ outcome x = s.1 in absurd cc

pub invoke_interface_known : (at : ℕ) (bytes : List ℕ) (x : Operands) → AreBytes bytes → Spells (invoke_interface_at at) bytes (outcome x) → Known at forms.InvokeInterface bytes x
unfolding invoke_interface_at operands_bytes
invoke_interface_known at bytes x fit s =
    let behind_two : ℕ → ℕ → ℕ → Format Outcome = λ i count n. cond (eqb n 0) (done (outcome (invoke_interface i count))) (done (Err (NonZeroByte at))) in
    let p = number_parts 2 number_2 (λ i. andthen (number 1) (λ count. andthen (number 1) (behind_two i count))) bytes (outcome x) fit s in
    let q = number_parts 1 number_1 (λ count. andthen (number 1) (behind_two p.value count)) p.others (outcome x) p.are_bytes p.behind in
    let r = number_parts 1 number_1 (behind_two p.value q.value) q.others (outcome x) q.are_bytes q.behind in
    let z = zero_alone r.value (invoke_interface p.value q.value) x (NonZeroByte at) r.others (eqb r.value 0) refl r.behind in
    let third : q.others ≡ big_bytes 1 0 = alone 1 r.value q.others r.others r.parts z.1 ∙ ap (big_bytes 1) z.0 in
    let second = on 1 q.value p.others q.others (big_bytes 1 0) q.parts third in
    subst (λ (y : Operands). Known at forms.InvokeInterface bytes y) z.2
    (record { has_form = refl; agree = refl; bytes_are = on 2 p.value bytes p.others (big_bytes 1 q.value ++ big_bytes 1 0) p.parts second })

pub invoke_dynamic_known : (at : ℕ) (bytes : List ℕ) (x : Operands) → AreBytes bytes → Spells (invoke_dynamic_at at) bytes (outcome x) → Known at forms.InvokeDynamic bytes x
unfolding invoke_dynamic_at operands_bytes
invoke_dynamic_known at bytes x fit s =
    let behind_one : ℕ → ℕ → Format Outcome = λ i n. cond (eqb n 0) (done (outcome (invoke_dynamic i))) (done (Err (NonZeroByte at))) in
    let p = number_parts 2 number_2 (λ i. andthen (number 2) (behind_one i)) bytes (outcome x) fit s in
    let q = number_parts 2 number_2 (behind_one p.value) p.others (outcome x) p.are_bytes p.behind in
    let z = zero_alone q.value (invoke_dynamic p.value) x (NonZeroByte at) q.others (eqb q.value 0) refl q.behind in
    let second : p.others ≡ big_bytes 2 0 = alone 2 q.value p.others q.others q.parts z.1 ∙ ap (big_bytes 2) z.0 in
    subst (λ (y : Operands). Known at forms.InvokeDynamic bytes y) z.2
    (record { has_form = refl; agree = refl; bytes_are = on 2 p.value bytes p.others (big_bytes 2 0) p.parts second })

-- ---- wide

-- after the opcode that is modified
modified_bytes : (k : ℕ) (o : Opcode) (rest others : List ℕ) → opcode_of k ≡ Some o → rest ≡ others → big_bytes 1 k ++ rest ≡ big_bytes 1 (opcode_number o) ++ others
modified_bytes k o rest others named is =
    ap (λ (n : ℕ). big_bytes 1 n ++ rest) (sym (has_number k o named)) ∙ ap (λ (t : List ℕ). big_bytes 1 (opcode_number o) ++ t) is

widened_known : (at k : ℕ) (o : Opcode) (f : Form) (rest : List ℕ) (x : Operands) → opcode_of k ≡ Some o → form o ≡ f → AreBytes rest → Spells (widened at o f) rest (outcome x)
    → Known at forms.Wide (big_bytes 1 k ++ rest) x
unfolding operands_bytes
widened_known at k o forms.Local rest x named is fit s =
    let p = number_parts 2 number_2 (λ n. done (outcome (wide_local o n))) rest (outcome x) fit s in
    let l = last (wide_local o p.value) x p.others p.behind in
    let second : rest ≡ big_bytes 2 p.value = alone 2 p.value rest p.others p.parts l.0 in
    subst (λ (y : Operands). Known at forms.Wide (big_bytes 1 k ++ rest) y) l.1
    (record { has_form = refl; agree = ap takes_local is; bytes_are = modified_bytes k o rest (big_bytes 2 p.value) named second })
widened_known at k o forms.Increment rest x named is fit s =
    let p = number_parts 2 number_2 (λ n. andthen (number 2) (λ by. done (outcome (wide_increment o n (cast_signed w16 by))))) rest (outcome x) fit s in
    let q = number_parts 2 number_2 (λ by. done (outcome (wide_increment o p.value (cast_signed w16 by)))) p.others (outcome x) p.are_bytes p.behind in
    let l = last (wide_increment o p.value (cast_signed w16 q.value)) x q.others q.behind in
    let last_two : List ℕ = big_bytes 2 (cast_unsigned w16 (cast_signed w16 q.value)) in
    let third : p.others ≡ last_two = alone 2 q.value p.others q.others q.parts l.0 ∙ signed 2 w16 q.value (of_z-to_z w16 q.value q.fits) in
    let second = on 2 p.value rest p.others last_two p.parts third in
    subst (λ (y : Operands). Known at forms.Wide (big_bytes 1 k ++ rest) y) l.1
    (record { has_form = refl; agree = ap takes_increment is; bytes_are = modified_bytes k o rest (big_bytes 2 p.value ++ last_two) named second })
widened_known at k o _ rest x named is fit s = absurd (let wrong = s.1 in cc)

wide_opcode_known : (at k : ℕ) (o : Option Opcode) (rest : List ℕ) (x : Operands) → opcode_of k ≡ o → AreBytes rest → Spells (widened_opcode at o) rest (outcome x)
    → Known at forms.Wide (big_bytes 1 k ++ rest) x
wide_opcode_known at k None rest x named fit s = absurd (let wrong = s.1 in cc)
wide_opcode_known at k (Some o) rest x named fit s = widened_known at k o (form o) rest x named refl fit s

pub wide_known : (at : ℕ) (bytes : List ℕ) (x : Operands) → AreBytes bytes → Spells (wide_at at) bytes (outcome x) → Known at forms.Wide bytes x
unfolding wide_at
wide_known at bytes x fit s =
    let p = number_parts 1 number_1 (λ n. widened_opcode at (opcode_of n)) bytes (outcome x) fit s in
    subst (λ (t : List ℕ). Known at forms.Wide t x) (sym p.parts) (wide_opcode_known at p.value (opcode_of p.value) p.others x refl p.are_bytes p.behind)
