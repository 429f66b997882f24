-- Bytes that are joined up to the last are a class name.
use Rattle.std.proofs.Common.{◌≡◌, ℕ, zero, suc, ◌+◌, ◌-◌, ◌<◌, ◌≤◌, Bool, true, false, not, eqb, ◌&&◌, ◌||◌, List, length, get_or, drop, refl, sym, ap, subst, arith}
use Rattle.std.proofs.lemmas.Bool.{and_parts, false≢true}
use Rattle.names.specs.Names.{slash, is_name_unit, IsClassName}
use Rattle.names.specs.Reading.{goes_on, ends_class_name}
use Rattle.names.specs.Forms.{is_plain, joins, AreJoinedBetween}
use Rattle.names.proofs.Scan.{plain_so, plain_goes_on, scan_ends, class_to_the_end}

-- whether an unqualified name has to begin at a place
abbrev begins : List ℕ → ℕ → Bool
begins bytes zero = true
begins bytes (suc k) = eqb (get_or bytes k 0) slash

abbrev Reaches : List ℕ → ℕ → Type 0
Reaches bytes at = ends_class_name true bytes ≡ ends_class_name (begins bytes at) (drop at bytes)

goes_by : (fresh unit is : Bool) → (unit || is) ≡ true → (fresh && is) ≡ false → (unit || (not fresh && is)) ≡ true
goes_by fresh true is some not_both = refl
goes_by true false true some not_both = absurd (false≢true (sym not_both))
goes_by true false false some not_both = some
goes_by false false true some not_both = refl
goes_by false false false some not_both = some

not_both_so : (b : Bool) → not b ≡ true → b ≡ false
not_both_so true h = absurd (false≢true h)
not_both_so false h = refl

parts : (b next : ℕ) → joins b next ≡ true → ((is_name_unit b || eqb b slash) ≡ true) × (not (eqb b slash && eqb next slash) ≡ true)
parts b next h = and_parts (is_name_unit b || eqb b slash) (not (eqb b slash && eqb next slash)) h

on_there : (bytes : List ℕ) (at : ℕ) → eqb (get_or bytes 0 0) slash ≡ false → at < length bytes - 1 → AreJoinedBetween bytes 0 (length bytes - 1) → goes_on (begins bytes at) (get_or bytes at 0) ≡ true
on_there bytes zero first lt joined =
    let p = parts (get_or bytes 0 0) (get_or bytes 1 0) (joined 0 (omega arith) lt) in
    goes_by true (is_name_unit (get_or bytes 0 0)) (eqb (get_or bytes 0 0) slash) p.0 first
on_there bytes (suc k) first lt joined =
    let before = parts (get_or bytes k 0) (get_or bytes (k + 1) 0) (joined k (omega arith) (omega (arith, lt))) in
    let here = parts (get_or bytes (suc k) 0) (get_or bytes (suc k + 1) 0) (joined (suc k) (omega arith) lt) in
    let next : k + 1 ≡ suc k = omega arith in
    goes_by (eqb (get_or bytes k 0) slash) (is_name_unit (get_or bytes (suc k) 0)) (eqb (get_or bytes (suc k) 0) slash) here.0
    (subst (λ j. (eqb (get_or bytes k 0) slash && eqb (get_or bytes j 0) slash) ≡ false) next (not_both_so _ before.1))

reaches : (n : ℕ) (bytes : List ℕ) → eqb (get_or bytes 0 0) slash ≡ false → n ≤ length bytes - 1 → AreJoinedBetween bytes 0 (length bytes - 1) → Reaches bytes n
reaches zero bytes first within joined = refl
reaches (suc n) bytes first within joined =
    let next : n + 1 ≡ suc n = omega arith in
    subst (λ j. ends_class_name true bytes ≡ ends_class_name (eqb (get_or bytes n 0) slash) (drop j bytes)) next
    (scan_ends bytes n (begins bytes n) (omega (arith, within)) (on_there bytes n first (omega (arith, within)) joined) (reaches n bytes first (omega (arith, within)) joined))

pub joined_to_the_end : (bytes : List ℕ) → 2 ≤ length bytes → eqb (get_or bytes 0 0) slash ≡ false → is_plain (get_or bytes (length bytes - 1) 0) ≡ true → AreJoinedBetween bytes 0 (length bytes - 1) → IsClassName bytes
joined_to_the_end bytes some first last joined =
    let at = length bytes - 1 in
    let plain = plain_so (get_or bytes at 0) last in
    let all : at + 1 ≡ length bytes = omega (arith, some) in
    let e = scan_ends bytes at (begins bytes at) (omega (arith, some)) (plain_goes_on (begins bytes at) (get_or bytes at 0) plain) (reaches at bytes first (omega arith) joined) in
    (class_to_the_end bytes (at + 1) (eqb (get_or bytes at 0) slash) all e).0 (ap not plain.no_slash)
