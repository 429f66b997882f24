-- Rows of debug tables one after the other.
use Rattle.std.proofs.Common.{◌≡◌, ◌<◌, ◌∙◌, ℕ, zero, suc, Bool, true, false, ◌||◌, List, [], ◌∷◌, ◌++◌, Option, Some, None, refl, sym, ap, ap₂, arith}
use Rattle.std.specs.Prelude.{slice_get, option_map}
use Rattle.std.specs.List.{list_any}
use Rattle.std.specs.Option.{option_map_or}
use Rattle.classfile.specs.declared.release_form.debug_tables.Variable.{Variable}
use Rattle.pool.specs.Entries.{Entry}
use Rattle.classfile.specs.declared.release_form.debug_tables.VariableTable.{VariableTable}
use Rattle.classfile.specs.declared.release_form.debug_tables.VariableTable.TheVariants as tables
use Rattle.classfile.specs.private.TableBodies.{compared, are_bad_rows}
use Rattle.classfile.specs.Values.{CodeBody}
use Rattle.classfile.specs.release.DebugTables.{first_start, starts_in, first_variable, variables_in, is_bad_row, are_same, is_alone, are_alone, are_repeated, are_bad}
use Rattle.classfile.specs.release.Twice.{has_twice}

-- a line that passes no test, and the others
pub one_line : (test : ℕ → Bool) (n : ℕ) (bytes : List ℕ) (start : ℕ) (behind : List ℕ) → Some (start, behind) ≡ first_start bytes → test start ≡ false
    → list_any test (starts_in (suc n) bytes) ≡ list_any test (starts_in n behind)
one_line test n bytes start behind here not =
    ap (λ (o : Option (ℕ × List ℕ)). list_any test (option_map_or (λ x. x.0 ∷ starts_in n x.1) o [])) (sym here)
    ∙ ap (λ (b : Bool). b || list_any test (starts_in n behind)) not

-- a local variable, and the others
pub one_variable : (n : ℕ) (bytes : List ℕ) (v : Variable) (behind : List ℕ) → Some (v, behind) ≡ first_variable bytes
    → variables_in (suc n) bytes ≡ v ∷ variables_in n behind
one_variable n bytes v behind here = ap (λ (o : Option (Variable × List ℕ)). option_map_or (λ x. x.0 ∷ variables_in n x.1) o []) (sym here)

pub no_variable : (n : ℕ) (bytes : List ℕ) → None ≡ first_variable bytes → variables_in (suc n) bytes ≡ []
no_variable n bytes none = ap (λ (o : Option (Variable × List ℕ)). option_map_or (λ x. x.0 ∷ variables_in n x.1) o []) (sym none)

-- a local variable that passes no test, and the others
pub one_row : (test : Variable → Bool) (n : ℕ) (bytes : List ℕ) (v : Variable) (behind : List ℕ) → Some (v, behind) ≡ first_variable bytes → test v ≡ false
    → list_any test (variables_in (suc n) bytes) ≡ list_any test (variables_in n behind)
one_row test n bytes v behind here not =
    ap (list_any test) (one_variable n bytes v behind here) ∙ ap (λ (b : Bool). b || list_any test (variables_in n behind)) not

-- one that does not stand again, and the others
pub one_once : (n : ℕ) (bytes : List ℕ) (v : Variable) (behind : List ℕ) → Some (v, behind) ≡ first_variable bytes → list_any (are_same v) (variables_in n behind) ≡ false
    → has_twice are_same (variables_in (suc n) bytes) ≡ has_twice are_same (variables_in n behind)
one_once n bytes v behind here not =
    ap (has_twice are_same) (one_variable n bytes v behind here) ∙ ap (λ (b : Bool). b || has_twice are_same (variables_in n behind)) not

-- a row that is another, and those behind it
one_pair : {b c : Bool} {xs ys : List ℕ} → (let o : Option (Bool × List ℕ) = Some (b, xs) in o) ≡ Some (c, ys) → (b ≡ c) × (xs ≡ ys)
one_pair {b} {c} {xs} {ys} e =
    (ap (λ (o : Option (Bool × List ℕ)). option_map_or (λ p. p.0) o b) e, ap (λ (o : Option (Bool × List ℕ)). option_map_or (λ p. p.1) o xs) e)

pub one_other : (row : Variable) (n : ℕ) (bytes : List ℕ) (same : Bool) (behind : List ℕ) → Some (same, behind) ≡ option_map (compared row) (first_variable bytes) → same ≡ false
    → list_any (are_same row) (variables_in (suc n) bytes) ≡ list_any (are_same row) (variables_in n behind)
one_other row n bytes same behind here not = by (first_variable bytes) refl
  where
    by : (o : Option (Variable × List ℕ)) → first_variable bytes ≡ o → list_any (are_same row) (variables_in (suc n) bytes) ≡ list_any (are_same row) (variables_in n behind)
    by None e = absurd (let x = here ∙ ap (option_map (compared row)) e in cc)
    by (Some (v, rest)) e =
        let both = one_pair (here ∙ ap (option_map (compared row)) e) in
        one_row (are_same row) n bytes v rest (sym e) (sym both.0 ∙ not) ∙ ap (λ (b : List ℕ). list_any (are_same row) (variables_in n b)) (sym both.1)

-- no row
pub none_other : (row : Variable) (n : ℕ) (bytes : List ℕ) → None ≡ option_map (compared row) (first_variable bytes) → list_any (are_same row) (variables_in (suc n) bytes) ≡ false
none_other row n bytes none = by (first_variable bytes) refl
  where
    by : (o : Option (Variable × List ℕ)) → first_variable bytes ≡ o → list_any (are_same row) (variables_in (suc n) bytes) ≡ false
    by None e = ap (list_any (are_same row)) (no_variable n bytes (sym e))
    by (Some (v, rest)) e = absurd (let x = none ∙ ap (option_map (compared row)) e in cc)

-- a row that neither is bad nor stands again, and the others
pub one_good : (table : VariableTable) (pool : List Entry) (code : CodeBody) (n : ℕ) (bytes : List ℕ) (v : Variable) (behind : List ℕ) → Some (v, behind) ≡ first_variable bytes
    → is_bad_row table pool code v ≡ false → list_any (are_same v) (variables_in n behind) ≡ false
    → are_bad_rows table pool code (variables_in (suc n) bytes) ≡ are_bad_rows table pool code (variables_in n behind)
one_good table pool code n bytes v behind here good once =
    ap₂ (λ (a b : Bool). a || b) (one_once n bytes v behind here once) (one_row (is_bad_row table pool code) n bytes v behind here good)

-- the tests of the local variables and of their types, in turn
pub in_turn : (tv tt alone bv bt : Bool) → ((tv || bv) || (tt || bt)) || alone ≡ (tv || (tt || alone)) || (bv || bt)
in_turn true tt alone bv bt = refl
in_turn false true alone true bt = refl
in_turn false true alone false bt = refl
in_turn false false true true bt = refl
in_turn false false true false true = refl
in_turn false false true false false = refl
in_turn false false false true bt = refl
in_turn false false false false true = refl
in_turn false false false false false = refl

-- ---- the first row

pub first_row : (count : ℕ) (bytes : List ℕ) (v : Variable) (behind : List ℕ) → Some (v, behind) ≡ first_variable bytes → 0 < count → Some v ≡ slice_get (variables_in count bytes) 0
first_row zero bytes v behind here some = absurd (omega (arith, some))
first_row (suc n) bytes v behind here some = sym (ap (λ (vs : List Variable). slice_get vs 0) (one_variable n bytes v behind here))

pub first_none : (count : ℕ) (bytes : List ℕ) → None ≡ first_variable bytes → None ≡ slice_get (variables_in count bytes) 0
first_none zero bytes none = refl
first_none (suc n) bytes none = sym (ap (λ (vs : List Variable). slice_get vs 0) (no_variable n bytes none))

pub alone_among : (vs ts : List Variable) (v : Variable) → Some v ≡ slice_get vs 0 → list_any (is_alone vs) ts ≡ are_alone vs ts
alone_among [] ts v here = absurd cc
alone_among (w ∷ vs) ts v here = refl

pub alone_nowhere : (vs ts : List Variable) → None ≡ slice_get vs 0 → false ≡ are_alone vs ts
alone_nowhere [] ts none = refl
alone_nowhere (w ∷ vs) ts none = absurd cc

-- ---- the rows of a Code attribute together

pub all_bad : (pool : List Entry) (code : CodeBody) (variables types vs ts : List Variable) (repeated bad : Bool) → vs ≡ variables → ts ≡ types
    → repeated ≡ are_repeated vs ts → repeated ≡ false → bad ≡ (list_any (is_bad_row tables.Variables pool code) vs || list_any (is_bad_row tables.Types pool code) ts)
    → bad ≡ are_bad pool code variables types
all_bad pool code variables types vs ts repeated bad v t repeats not told =
    told
    ∙ ap (λ (b : Bool). b || (list_any (is_bad_row tables.Variables pool code) vs || list_any (is_bad_row tables.Types pool code) ts)) (sym not ∙ repeats)
    ∙ ap (λ (x : List Variable). are_bad pool code x ts) v
    ∙ ap (λ (x : List Variable). are_bad pool code variables x) t
