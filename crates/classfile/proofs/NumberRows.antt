-- Where the numbers of a row stand among the bytes.
use Rattle.std.proofs.Common.{◌≡◌, ℕ, zero, suc, ◌+◌, ◌*◌, ◌<◌, ◌≤◌, Bool, true, false, cond, List, [], ◌∷◌, length, drop, Some, None, refl, ap, sym, ◌∙◌, arith}
use Rattle.std.specs.Prelude.{slice_get}
use Rattle.std.specs.Option.{option_and_then, unwrap_or}
use Rattle.std.proofs.lemmas.List.{drop-drop, drop_all}
use Rattle.std.proofs.lemmas.Option.{slice_get_past}
use Rattle.classfile.specs.declared.layouts.Column.{Column}
use Rattle.classfile.specs.Numbers.{Numbers, row_in, behind_row, rows_in, counted_rows, rows_of, number_at}
use Rattle.classfile.specs.private.IndexColumns.{first_number, behind_count}

double : (n : ℕ) → 2 * suc n ≡ suc (suc (2 * n))
double n = omega arith

pub behind_drop : (cs : List Column) (bytes : List ℕ) → behind_row cs bytes ≡ drop (2 * length cs) bytes
behind_drop [] bytes = refl
behind_drop (c ∷ cs) [] = ap (λ (n : ℕ). drop n []) (sym (double (length cs)))
behind_drop (c ∷ cs) (b ∷ []) = ap (λ (n : ℕ). drop n (b ∷ [])) (sym (double (length cs)))
behind_drop (c ∷ cs) (high ∷ low ∷ bytes) = behind_drop cs bytes ∙ ap (λ (n : ℕ). drop n (high ∷ low ∷ bytes)) (sym (double (length cs)))

rows_length : (cs : List Column) (n : ℕ) (bytes : List ℕ) → length (rows_in cs n bytes) ≡ n
rows_length cs zero bytes = refl
rows_length cs (suc n) bytes = ap suc (rows_length cs n (behind_row cs bytes))

row_there : (cs : List Column) (n : ℕ) (bytes : List ℕ) (row : ℕ) → row < n → slice_get (rows_in cs n bytes) row ≡ Some (row_in cs (drop (row * (2 * length cs)) bytes))
row_there cs zero bytes row within = absurd (omega (arith, within))
row_there cs (suc n) bytes zero within = ap (λ (k : ℕ). Some (row_in cs (drop k bytes))) (let e : 0 ≡ 0 * (2 * length cs) = omega arith in e)
row_there cs (suc n) bytes (suc row) within =
    let width = 2 * length cs in
    let next : width + row * width ≡ suc row * width = omega arith in
    row_there cs n (behind_row cs bytes) row (omega (arith, within))
    ∙ ap (λ (b : List ℕ). Some (row_in cs (drop (row * width) b))) (behind_drop cs bytes)
    ∙ ap (λ (b : List ℕ). Some (row_in cs b)) (drop-drop (row * width) width bytes ∙ ap (λ (k : ℕ). drop k bytes) next)

none_behind : (n : ℕ) (bytes : List ℕ) → length bytes < 2 → first_number (drop n bytes) ≡ None
none_behind n [] few = ap first_number (drop_all n [] (omega arith))
none_behind zero (b ∷ []) few = refl
none_behind (suc n) (b ∷ []) few = ap first_number (drop_all n [] (omega arith))
none_behind n (b ∷ d ∷ bytes) few = absurd (omega (arith, few))

in_row : (cs : List Column) (bytes : List ℕ) (column : ℕ) → column < length cs → slice_get (row_in cs bytes) column ≡ first_number (drop (column * 2) bytes)
in_row [] bytes column within = absurd (omega (arith, within))
in_row (c ∷ cs) [] column within = sym (none_behind (column * 2) [] (omega arith))
in_row (c ∷ cs) (b ∷ []) column within = sym (none_behind (column * 2) (b ∷ []) (omega arith))
in_row (c ∷ cs) (high ∷ low ∷ bytes) zero within = refl
in_row (c ∷ cs) (high ∷ low ∷ bytes) (suc column) within =
    let twice : suc (suc (column * 2)) ≡ suc column * 2 = omega arith in
    in_row cs bytes column (omega (arith, within)) ∙ ap (λ (n : ℕ). first_number (drop n (high ∷ low ∷ bytes))) twice

row_is_short : (cs : List Column) (bytes : List ℕ) → length (row_in cs bytes) ≤ length cs
row_is_short [] bytes = omega arith
row_is_short (c ∷ cs) [] = omega arith
row_is_short (c ∷ cs) (b ∷ []) = omega arith
row_is_short (c ∷ cs) (high ∷ low ∷ bytes) = omega (arith, row_is_short cs bytes)

-- ---- the rows of an attribute

row_count : Numbers → ℕ
row_count n = cond n.layout.counted (unwrap_or (first_number n.body) 0) 1

rows_are : (n : Numbers) → rows_of n ≡ rows_in n.layout.columns (row_count n) (behind_count n)
unfolding row_count
rows_are n = by n.layout.counted n.body
  where
    cs : List Column
    cs = n.layout.columns

    by : (b : Bool) (body : List ℕ) → cond b (counted_rows cs body) (rows_in cs 1 body) ≡ rows_in cs (cond b (unwrap_or (first_number body) 0) 1) (cond b (drop 2 body) body)
    by false body = refl
    by true [] = refl
    by true (b ∷ []) = refl
    by true (high ∷ low ∷ bytes) = refl

rows_counted : (n : Numbers) → length (rows_of n) ≡ row_count n
rows_counted n = ap length (rows_are n) ∙ rows_length n.layout.columns (row_count n) (behind_count n)

-- as many as the count says
pub many_rows : (n : Numbers) → n.layout.counted ≡ true → length (rows_of n) ≡ unwrap_or (first_number n.body) 0
unfolding row_count
many_rows n so = rows_counted n ∙ ap (λ (b : Bool). cond b (unwrap_or (first_number n.body) 0) 1) so

pub past_rows : (n : Numbers) (row column : ℕ) → length (rows_of n) ≤ row → number_at n row column ≡ None
past_rows n row column past = ap (option_and_then (λ (numbers : List ℕ). slice_get numbers column)) (slice_get_past (rows_of n) row past)

found : (n : Numbers) (row : ℕ) → row < length (rows_of n) → slice_get (rows_of n) row ≡ Some (row_in n.layout.columns (drop (row * (2 * length n.layout.columns)) (behind_count n)))
found n row within =
    ap (λ (rows : List (List ℕ)). slice_get rows row) (rows_are n) ∙ row_there n.layout.columns (row_count n) (behind_count n) row (omega (arith, within, rows_counted n))

pub past_columns : (n : Numbers) (row column : ℕ) → row < length (rows_of n) → length n.layout.columns ≤ column → number_at n row column ≡ None
past_columns n row column within past =
    let numbers = row_in n.layout.columns (drop (row * (2 * length n.layout.columns)) (behind_count n)) in
    ap (option_and_then (λ (numbers : List ℕ). slice_get numbers column)) (found n row within)
    ∙ slice_get_past numbers column (omega (arith, past, row_is_short n.layout.columns (drop (row * (2 * length n.layout.columns)) (behind_count n))))

pub number_found : (n : Numbers) (row column : ℕ) → row < length (rows_of n) → column < length n.layout.columns
    → number_at n row column ≡ first_number (drop (column * 2) (drop (row * (2 * length n.layout.columns)) (behind_count n)))
number_found n row column within here =
    ap (option_and_then (λ (numbers : List ℕ). slice_get numbers column)) (found n row within)
    ∙ in_row n.layout.columns (drop (row * (2 * length n.layout.columns)) (behind_count n)) column here
