-- Rows of numbers that end early, so many rows, rows without an index, and both rules at once.
use Rattle.std.proofs.Common.{◌≡◌, ℕ, suc, ◌<◌, Bool, true, false, cond, ◌||◌, Some, None, List, [], ◌∷◌, length, refl, ap, sym, ◌∙◌, arith}
use Rattle.std.specs.List.{list_any}
use Rattle.std.proofs.lemmas.Bool.{and_parts}
use Rattle.pool.specs.Entries.{Entry}
use Rattle.classfile.specs.declared.layouts.Column.{Column}
use Rattle.classfile.specs.declared.layouts.Column.TheVariants.{Plain}
use Rattle.classfile.specs.declared.number_form.IndexRule.{IndexRule}
use Rattle.classfile.specs.declared.number_form.IndexRule.TheVariants.{BadIndex, WrongKind, Both}
use Rattle.classfile.specs.Numbers.{Numbers, row_in, behind_row, rows_in, counted_rows, rows_of}
use Rattle.classfile.specs.private.IndexColumns.{is_plain, are_plain, variable, are_variable}
use Rattle.classfile.specs.private.NumbersLaws.{columns_decide}
use Rattle.classfile.specs.NumberForm.{breaks, row_breaks, numbers_break}
use Rattle.classfile.proofs.Tables.{four}

pub short_row : (test : Column → ℕ → Bool) (cs : List Column) (bytes : List ℕ) → 0 < length cs → length bytes < 2
    → (row_breaks test cs (row_in cs bytes) ≡ false) × (behind_row cs bytes ≡ [])
short_row test [] bytes some few = absurd (omega (arith, some))
short_row test (c ∷ cs) [] some few = (refl, refl)
short_row test (c ∷ cs) (b ∷ []) some few = (refl, refl)
short_row test (c ∷ cs) (b ∷ d ∷ bytes) some few = absurd (omega (arith, few))

-- a row that is sound, and the others after it
pub one_row : (test : Column → ℕ → Bool) (cs : List Column) (n : ℕ) (bytes behind : List ℕ)
    → Some behind ≡ cond (row_breaks test cs (row_in cs bytes)) None (Some (behind_row cs bytes))
    → list_any (row_breaks test cs) (rows_in cs (suc n) bytes) ≡ list_any (row_breaks test cs) (rows_in cs n behind)
one_row test cs n bytes behind e = by (row_breaks test cs (row_in cs bytes)) e
  where
    by : (b : Bool) → Some behind ≡ cond b None (Some (behind_row cs bytes))
        → b || list_any (row_breaks test cs) (rows_in cs n (behind_row cs bytes)) ≡ list_any (row_breaks test cs) (rows_in cs n behind)
    by true e = absurd (let x = e in cc)
    by false e =
        let same : behind ≡ behind_row cs bytes = cc in
        ap (λ (b : List ℕ). list_any (row_breaks test cs) (rows_in cs n b)) (sym same)

-- ---- rows without an index

plain_number : (pool : List Entry) (rule : IndexRule) (c : Column) (n : ℕ) → is_plain c ≡ true → breaks pool rule c n ≡ false
plain_number pool BadIndex Plain n e = refl
plain_number pool WrongKind Plain n e = refl
plain_number pool Both Plain n e = refl
plain_number pool rule _ n e = absurd (let x : false ≡ true = e in cc)

plain_row : (pool : List Entry) (rule : IndexRule) (cs : List Column) (row : List ℕ) → are_plain cs ≡ true → row_breaks (breaks pool rule) cs row ≡ false
plain_row pool rule [] row e = refl
plain_row pool rule (c ∷ cs) [] e = refl
plain_row pool rule (c ∷ cs) (n ∷ row) e =
    let x = and_parts (is_plain c) (are_plain cs) e in
    ap (λ (b : Bool). b || row_breaks (breaks pool rule) cs row) (plain_number pool rule c n x.0) ∙ plain_row pool rule cs row x.1

plain_rows : (pool : List Entry) (rule : IndexRule) (cs : List Column) (rows : List (List ℕ)) → are_plain cs ≡ true
    → list_any (row_breaks (breaks pool rule) cs) rows ≡ false
plain_rows pool rule cs [] e = refl
plain_rows pool rule cs (row ∷ rows) e =
    ap (λ (b : Bool). b || list_any (row_breaks (breaks pool rule) cs) rows) (plain_row pool rule cs row e) ∙ plain_rows pool rule cs rows e

pub plain_numbers : (pool : List Entry) (rule : IndexRule) (n : Numbers) → are_plain n.layout.columns ≡ true → numbers_break pool rule n ≡ false
unfolding numbers_break
plain_numbers pool rule n e = plain_rows pool rule n.layout.columns (rows_of n) e

-- ---- both rules at once

either_row : (p q : Column → ℕ → Bool) (cs : List Column) (row : List ℕ) → row_breaks (λ c n. p c n || q c n) cs row ≡ row_breaks p cs row || row_breaks q cs row
either_row p q [] row = refl
either_row p q (c ∷ cs) [] = refl
either_row p q (c ∷ cs) (n ∷ row) =
    ap (λ (b : Bool). (p c n || q c n) || b) (either_row p q cs row) ∙ four (p c n) (q c n) (row_breaks p cs row) (row_breaks q cs row)

either_rows : (p q : Column → ℕ → Bool) (cs : List Column) (rows : List (List ℕ))
    → list_any (row_breaks (λ c n. p c n || q c n) cs) rows ≡ list_any (row_breaks p cs) rows || list_any (row_breaks q cs) rows
either_rows p q cs [] = refl
either_rows p q cs (row ∷ rows) =
    ap (λ (b : Bool). b || list_any (row_breaks (λ c n. p c n || q c n) cs) rows) (either_row p q cs row)
    ∙ ap (λ (b : Bool). (row_breaks p cs row || row_breaks q cs row) || b) (either_rows p q cs rows)
    ∙ four (row_breaks p cs row) (row_breaks q cs row) (list_any (row_breaks p cs) rows) (list_any (row_breaks q cs) rows)

pub either_numbers : (pool : List Entry) (n : Numbers) → numbers_break pool Both n ≡ numbers_break pool BadIndex n || numbers_break pool WrongKind n
unfolding numbers_break
either_numbers pool n = either_rows (breaks pool BadIndex) (breaks pool WrongKind) n.layout.columns (rows_of n)

-- ---- local variables

pub variables_break : (pool : List Entry) (n : Numbers) → n.layout.counted ≡ true → are_variable n.layout.columns ≡ true
    → list_any (row_breaks (breaks pool Both) variable) (counted_rows variable n.body) ≡ numbers_break pool BadIndex n || numbers_break pool WrongKind n
unfolding numbers_break
variables_break pool n counted variables =
    let cs = n.layout.columns in
    let test = breaks pool Both in
    ap (λ (cs : List Column). list_any (row_breaks test cs) (counted_rows cs n.body)) (sym ((columns_decide cs variable).0 variables))
    ∙ ap (λ (b : Bool). list_any (row_breaks test cs) (cond b (counted_rows cs n.body) (rows_in cs 1 n.body))) (sym counted)
    ∙ either_numbers pool n
