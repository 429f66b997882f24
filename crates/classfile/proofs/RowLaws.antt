-- A body has the layout of an attribute exactly where it spells rows of numbers.
use Rattle.std.proofs.Common.{◌≡◌, ℕ, zero, suc, ◌+◌, ◌*◌, Bool, true, false, cond, eqb, List, [], ◌∷◌, ◌++◌, length, take, drop, refl, ap, sym, subst, ◌∙◌, arith}
use Rattle.std.proofs.lemmas.Bool.{eqb-true, eq-eqb}
use Rattle.std.proofs.lemmas.List.{append-nil, take-append-drop, length-append, length-drop, length-take-le}
use Rattle.byteorder.specs.Endian.{big_number}
use Rattle.layout.specs.Format.{Format, Spells, done, andthen, number, times}
use Rattle.layout.specs.FormatLaws.{andthen_spelled, andthen_parts}
use Rattle.classfile.specs.declared.layouts.Column.{Column}
use Rattle.classfile.specs.ClassFile.{table}
use Rattle.classfile.specs.Laws.{row, BodySpellsRows, SpelledIsLaidOut}
use Rattle.classfile.specs.Layouts.{has_count}
use Rattle.classfile.specs.Numbers.{row_in, behind_row, rows_in, counted_rows}
use Rattle.classfile.proofs.NumberRows.{behind_drop}

two_is : (high low : ℕ) → big_number 2 (high ∷ low ∷ []) ≡ high * 256 + low
two_is high low = omega arith

two_spelled : (high low : ℕ) → Spells (number 2) (high ∷ low ∷ []) (high * 256 + low)
two_spelled high low = (high ∷ low ∷ [], [], refl, refl, (refl, two_is high low))

-- one more of them in front
more : {V : Type 0} (f : Format V) (n : ℕ) (first others : List ℕ) (v : V) (vs : List V) → Spells f first v → Spells (times n f) others vs → Spells (times (suc n) f) (first ++ others) (v ∷ vs)
unfolding times
more {V = V} f n first others v vs one many =
    let behind : Spells (andthen (times n f) (λ vs. done (v ∷ vs))) others (v ∷ vs) =
    subst (λ (t : List ℕ). Spells (andthen (times n f) (λ vs. done (v ∷ vs))) t (v ∷ vs)) (append-nil others)
    (andthen_spelled (times n f) (λ vs. done (v ∷ vs)) others [] vs (v ∷ vs) many (refl, refl)) in
    andthen_spelled f (λ v. andthen (times n f) (λ vs. done (v ∷ vs))) first others v (v ∷ vs) one behind

none : {V : Type 0} (f : Format V) (bytes : List ℕ) → length bytes ≡ 0 → Spells (times 0 f) bytes []
unfolding times
none f [] e = (refl, refl)
none f (b ∷ bytes) e = absurd (omega (arith, e))

row_spelled : (cs : List Column) (bytes : List ℕ) → length bytes ≡ 2 * length cs → Spells (row cs) bytes (row_in cs bytes)
row_spelled [] bytes e = none (number 2) bytes (omega (arith, e))
row_spelled (c ∷ cs) [] e = absurd (omega (arith, e))
row_spelled (c ∷ cs) (b ∷ []) e = absurd (omega (arith, e))
row_spelled (c ∷ cs) (high ∷ low ∷ bytes) e =
    more (number 2) (length cs) (high ∷ low ∷ []) bytes (high * 256 + low) (row_in cs bytes) (two_spelled high low) (row_spelled cs bytes (omega (arith, e)))

row_in_front : (cs : List Column) (bytes : List ℕ) → row_in cs (take (2 * length cs) bytes) ≡ row_in cs bytes
row_in_front [] bytes = refl
row_in_front (c ∷ cs) [] = ap (λ (k : ℕ). row_in (c ∷ cs) (take k [])) (let e : 2 * suc (length cs) ≡ suc (suc (2 * length cs)) = omega arith in e)
row_in_front (c ∷ cs) (b ∷ []) = ap (λ (k : ℕ). row_in (c ∷ cs) (take k (b ∷ []))) (let e : 2 * suc (length cs) ≡ suc (suc (2 * length cs)) = omega arith in e)
row_in_front (c ∷ cs) (high ∷ low ∷ bytes) =
    ap (λ (k : ℕ). row_in (c ∷ cs) (take k (high ∷ low ∷ bytes))) (let e : 2 * suc (length cs) ≡ suc (suc (2 * length cs)) = omega arith in e)
    ∙ ap (λ (ns : List ℕ). (high * 256 + low) ∷ ns) (row_in_front cs bytes)

rows_spelled : (cs : List Column) (n : ℕ) (bytes : List ℕ) → length bytes ≡ n * (2 * length cs) → Spells (times n (row cs)) bytes (rows_in cs n bytes)
rows_spelled cs zero bytes e = none (row cs) bytes (omega (arith, e))
rows_spelled cs (suc n) bytes e =
    let width = 2 * length cs in
    let first = take width bytes in
    let others = drop width bytes in
    let within : width + n * width ≡ length bytes = omega (arith, e) in
    let one : Spells (row cs) first (row_in cs bytes) = subst (Spells (row cs) first) (row_in_front cs bytes) (row_spelled cs first (length-take-le width bytes (omega (arith, within)))) in
    let many : Spells (times n (row cs)) others (rows_in cs n (behind_row cs bytes)) =
    subst (λ (b : List ℕ). Spells (times n (row cs)) others (rows_in cs n b)) (sym (behind_drop cs bytes)) (rows_spelled cs n others (omega (arith, length-drop width bytes, within))) in
    subst (λ (t : List ℕ). Spells (times (suc n) (row cs)) t (rows_in cs (suc n) bytes)) (take-append-drop width bytes)
    (more (row cs) n first others (row_in cs bytes) (rows_in cs n (behind_row cs bytes)) one many)

pub body_spells_rows : BodySpellsRows
body_spells_rows layout body h = by layout.counted body h
  where
    cs : List Column
    cs = layout.columns

    by : (b : Bool) (body : List ℕ) → cond b (has_count (2 * length cs) body) (eqb (length body) (2 * length cs)) ≡ true
        → Spells (cond b (table (row cs)) (andthen (row cs) (λ only. done (only ∷ [])))) body (cond b (counted_rows cs body) (rows_in cs 1 body))
    by true [] e = absurd (let x : false ≡ true = e in cc)
    by true (b ∷ []) e = absurd (let x : false ≡ true = e in cc)
    by true (high ∷ low ∷ body) e =
        andthen_spelled (number 2) (λ n. times n (row cs)) (high ∷ low ∷ []) body (high * 256 + low) (rows_in cs (high * 256 + low) body) (two_spelled high low)
        (rows_spelled cs (high * 256 + low) body (eqb-true _ _ e))
    by false body e =
        subst (λ (t : List ℕ). Spells (andthen (row cs) (λ only. done (only ∷ []))) t (row_in cs body ∷ [])) (append-nil body)
        (andthen_spelled (row cs) (λ only. done (only ∷ [])) body [] (row_in cs body) (row_in cs body ∷ []) (row_spelled cs body (eqb-true _ _ e)) (refl, refl))

-- ---- what spells rows

two_told : (high low n : ℕ) → Spells (number 2) (high ∷ low ∷ []) n → n ≡ high * 256 + low
two_told high low n s = sym s.4.1 ∙ ap (big_number 2) (sym (s.3 ∙ ap (λ (t : List ℕ). s.0 ++ t) s.4.0 ∙ append-nil s.0)) ∙ two_is high low

two_long : (bytes : List ℕ) (n : ℕ) → Spells (number 2) bytes n → length bytes ≡ 2
two_long bytes n s = ap length (s.3 ∙ ap (λ (t : List ℕ). s.0 ++ t) s.4.0 ∙ append-nil s.0) ∙ s.2

many_long : {V : Type 0} (f : Format V) (k : ℕ) → ((bytes : List ℕ) (v : V) → Spells f bytes v → length bytes ≡ k)
    → (n : ℕ) (bytes : List ℕ) (vs : List V) → Spells (times n f) bytes vs → length bytes ≡ n * k
unfolding times
many_long f k each zero bytes vs s = ap length s.0 ∙ omega arith
many_long {V = V} f k each (suc n) bytes vs s =
    let i = andthen_parts f (λ v. andthen (times n f) (λ vs. done (v ∷ vs))) bytes vs s in
    let j = andthen_parts (times n f) (λ vs. done (i.2 ∷ vs)) i.1 vs i.5 in
    let first = each i.0 i.2 i.4 in
    let others = many_long f k each n j.0 j.2 j.4 in
    omega (arith, ap length i.3, length-append i.0 i.1, ap length j.3, length-append j.0 j.1, ap length j.5.0, first, others)

row_long : (cs : List Column) (bytes row : List ℕ) → Spells (times (length cs) (number 2)) bytes row → length bytes ≡ 2 * length cs
row_long cs bytes row s = many_long (number 2) 2 two_long (length cs) bytes row s ∙ omega arith

pub spelled_is_laid_out : SpelledIsLaidOut
spelled_is_laid_out layout body told s = by layout.counted s
  where
    cs : List Column
    cs = layout.columns

    counted : (count others : List ℕ) (n : ℕ) → Spells (number 2) count n → length others ≡ n * (2 * length cs) → has_count (2 * length cs) (count ++ others) ≡ true
    counted [] others n s e = absurd (let x = two_long [] n s in omega (arith, x))
    counted (b ∷ []) others n s e = absurd (let x = two_long (b ∷ []) n s in omega (arith, x))
    counted (high ∷ low ∷ []) others n s e = eq-eqb _ _ (e ∙ ap (λ (k : ℕ). k * (2 * length cs)) (two_told high low n s))
    counted (high ∷ low ∷ b ∷ count) others n s e = absurd (let x = two_long (high ∷ low ∷ b ∷ count) n s in omega (arith, x))

    by : (b : Bool) → Spells (cond b (table (row cs)) (andthen (row cs) (λ only. done (only ∷ [])))) body told
        → cond b (has_count (2 * length cs) body) (eqb (length body) (2 * length cs)) ≡ true
    by true s =
        let i = andthen_parts (number 2) (λ n. times n (row cs)) body told s in
        ap (has_count (2 * length cs)) i.3 ∙ counted i.0 i.1 i.2 i.4 (many_long (row cs) (2 * length cs) (row_long cs) i.2 i.1 told i.5)
    by false s =
        let i = andthen_parts (row cs) (λ only. done (only ∷ [])) body told s in
        eq-eqb _ _ (omega (arith, ap length i.3, length-append i.0 i.1, ap length i.5.0, row_long cs i.0 i.2 i.4))
