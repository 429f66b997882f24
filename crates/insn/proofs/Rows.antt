-- The program's tables: the row of an opcode stands at its number, that of an operator at its place.
use Rattle.std.proofs.Common.{◌≡◌, ℕ, zero, suc, ◌<◌, ◌≤◌, List, [], ◌∷◌, ◌++◌, length, get_or, map, replicate, Option, Some, None, refl, sym, ap, ◌∙◌}
use Rattle.std.specs.Prelude.{slice_get, slice_index, slice_index_or, option_map, unwrap_or}
use Rattle.std.proofs.lemmas.List.{length-map}
use Rattle.std.proofs.lemmas.Option.{slice_get-map, slice_get_past, slice_get_read, slice_get_within, unwrap_or-slice_get}
use Rattle.insn.specs.declared.opcode.Opcode.{Opcode}
use Rattle.insn.specs.Opcodes.{row, number, opcodes, opcode_of}
use Rattle.insn.specs.Unconstrained.{unconstrained_length}
use Rattle.insn.specs.private.Table.{TableRow, table_row, table_opcode, table_act, act_alone, IsRowOf}
use Rattle.insn.proofs.Numbers.{by_number}

some_of : {A B : Type 0} (f : A → B) (x : Option A) (d : A) (y : B) → option_map f x ≡ Some y → f (unwrap_or x d) ≡ y
some_of f (Some x) d y e = cc
some_of f None d y e = absurd cc

-- where two lists of rows agree, what one has at a place is what the other has
pub row_there : {R O A : Type 0} (view : R → A) (of : O → A) (all : List O) (o : O) (n : ℕ) (rows : List R) (d : R)
    → map view rows ≡ map of all → slice_get all n ≡ Some o → view (slice_index_or rows n d) ≡ of o
row_there {A = A} view of all o n rows d same found =
    let mapped : slice_get (map view rows) n ≡ Some (of o) = ap (λ (xs : List A). slice_get xs n) same ∙ slice_get-map of all n ∙ ap (option_map of) found in
    let there : option_map view (slice_get rows n) ≡ Some (of o) = sym (slice_get-map view rows n) ∙ mapped in
    ap view (sym (unwrap_or-slice_get rows n d)) ∙ some_of view (slice_get rows n) d (of o) there

-- and it has so many rows
pub row_within : {R O A : Type 0} (view : R → A) (of : O → A) (all : List O) (o : O) (n : ℕ) (rows : List R)
    → map view rows ≡ map of all → slice_get all n ≡ Some o → n < length rows
row_within {A = A} view of all o n rows same found =
    let many : length rows ≡ length all = sym (length-map rows view) ∙ ap (λ (xs : List A). length xs) same ∙ length-map all of in
    rw many (slice_get_within all n o found)

pub row_at : (rows : List TableRow) (n : ℕ) (o : Opcode) (d : TableRow) → map table_row rows ≡ map row opcodes → n ≡ number o → table_row (slice_index_or rows n d) ≡ row o
row_at rows n o d same is = row_there table_row row opcodes o n rows d same (ap opcode_of is ∙ by_number o)

-- the rows have the opcodes in their order
opcode_at : (rows : List TableRow) (n : ℕ) → map table_opcode rows ≡ opcodes → option_map table_opcode (slice_get rows n) ≡ opcode_of n
opcode_at rows n same = sym (slice_get-map table_opcode rows n) ∙ ap (λ (xs : List Opcode). slice_get xs n) same

pub opcode_there : (rows : List TableRow) (n : ℕ) (r : TableRow) → map table_opcode rows ≡ opcodes → n < length rows → r ≡ get_or rows n r → Some (table_opcode r) ≡ opcode_of n
opcode_there rows n r same lt is = sym (ap (option_map table_opcode) (slice_get_read rows (length rows) n r refl lt is)) ∙ opcode_at rows n same

pub no_opcode : (rows : List TableRow) (n : ℕ) → map table_opcode rows ≡ opcodes → length rows ≤ n → None ≡ opcode_of n
no_opcode rows n same le = sym (ap (option_map table_opcode) (slice_get_past rows n le)) ∙ opcode_at rows n same

-- the row at a number is that of the opcode which has it
pub row_of_number : (rows : List TableRow) (n : ℕ) (r : TableRow) → map table_row rows ≡ map row opcodes → map table_opcode rows ≡ opcodes
    → map table_act rows ≡ map act_alone opcodes → n < length rows → r ≡ get_or rows n r → IsRowOf n r
row_of_number rows n r all order acts lt is =
    let named : opcode_of n ≡ Some (table_opcode r) = sym (opcode_there rows n r order lt is) in
    record {
      opcode = named;
      row = ap table_row is ∙ row_there table_row row opcodes (table_opcode r) n rows r all named;
      act = ap table_act is ∙ row_there table_act act_alone opcodes (table_opcode r) n rows r acts named;
    }

-- ---- lengths

zero_there : (k n : ℕ) → slice_index (replicate k 0) n ≡ 0
zero_there zero n = refl
zero_there (suc k) zero = refl
zero_there (suc k) (suc n) = zero_there k n

-- what stands at a number, after which zeros stand
pub length_there : (os : List Opcode) (k n : ℕ) → slice_index (map (λ o. unconstrained_length (Some o)) os ++ replicate k 0) n ≡ unconstrained_length (slice_get os n)
length_there [] k n = zero_there k n
length_there (o ∷ os) k zero = refl
length_there (o ∷ os) k (suc n) = length_there os k n
