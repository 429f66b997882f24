-- The constants with which bytes begin.
use Rattle.std.proofs.Common.{◌≡◌, ◌∙◌, ℕ, suc, ◌+◌, ◌-◌, ◌<◌, ◌≤◌, Bool, true, false, List, [], ◌∷◌, length, take, drop, Option, Some, None, refl, sym, ap, subst, arith}
use Rattle.std.proofs.lemmas.Bool.{eqb-true, eqb-false, ltb-true, ltb-false}
use Rattle.std.proofs.lemmas.List.{take-append-drop, append-nil, length-take, length-drop}
use Rattle.std.specs.Prelude.{nat_eq, nat_lt, get_or, IfSome}
use Rattle.byteorder.specs.Endian.{big_number}
use Rattle.layout.specs.Format.{done, andthen, number, Spells}
use Rattle.classfile.specs.Outline.{bytes, text, both, wide, constant, is_wide, tagged}
use Rattle.file_reads.specs.private.Passing.{Passes, Skips, Takes}
use Rattle.file_reads.specs.declared.outline.Extent.{Extent}
use Rattle.file_reads.proofs.Outlines.{passes_then, passes_done, in_front, number_front, bytes_in_front}

-- ---- what stands behind a tag

bytes_spelled : (n : ℕ) (body : List ℕ) → length body ≡ n → Spells (bytes n) body tt
bytes_spelled n body len = (body, [], len, sym (append-nil body), (refl, refl))

both_spelled : (m n : ℕ) (body : List ℕ) → length body ≡ m + n → Spells (both m n) body tt
unfolding both
both_spelled m n body len = (
  take m body,
  drop m body,
  omega (arith, len, length-take m body),
  sym (take-append-drop m body),
  bytes_spelled n (drop m body) (omega (arith, len, length-drop m body)),
)

-- one of two tags, and of four
two : (P : ℕ → Type 0) (n tag : ℕ) → n ≤ tag → tag < n + 2 → P n → P (n + 1) → P tag
two P n tag ge lt one other = by_test (nat_eq tag n) refl
  where
    by_test : (b : Bool) → nat_eq tag n ≡ b → P tag
    by_test true e = subst P (sym (eqb-true _ _ e)) one
    by_test false e = subst P (let h = eqb-false _ _ e in omega (arith, ge, lt, h)) other

four : (P : ℕ → Type 0) (n tag : ℕ) → n ≤ tag → tag < n + 4 → P n → P (n + 1) → P (n + 2) → P (n + 2 + 1) → P tag
four P n tag ge lt a b c d = by_test (nat_lt tag (n + 2)) refl
  where
    by_test : (x : Bool) → nat_lt tag (n + 2) ≡ x → P tag
    by_test true e = two P n tag ge (ltb-true _ _ e) a b
    by_test false e = two P (n + 2) tag (ltb-false _ _ e) (omega (arith, lt)) c d

abbrev short : ℕ → Extent
short n = record { length = n; is_wide = false }

pub takes_number : (last : Bool) (tag : ℕ) (e : Extent) → 3 ≤ tag → tag < 5 → e ≡ short 5 → Takes last tag e
unfolding constant
takes_number last tag e ge lt is =
    subst (Takes last tag) (sym is) (two (λ (t : ℕ). Takes last t (short 5)) 3 tag ge lt
    (record { wide = refl; tagged = omega arith; spelled = λ body len. bytes_spelled 4 body (omega (arith, len)) })
    (record { wide = refl; tagged = omega arith; spelled = λ body len. bytes_spelled 4 body (omega (arith, len)) }))

pub takes_wide : (last : Bool) (tag : ℕ) (e : Extent) → 5 ≤ tag → tag < 7 → last ≡ false → e ≡ record { length = 9; is_wide = true } → Takes last tag e
unfolding constant wide
takes_wide last tag e ge lt more is =
    subst (λ (b : Bool). Takes b tag e) (sym more) (subst (Takes false tag) (sym is) (two (λ (t : ℕ). Takes false t (record { length = 9; is_wide = true })) 5 tag ge lt
    (record { wide = refl; tagged = omega arith; spelled = λ body len. both_spelled 4 4 body (omega (arith, len)) })
    (record { wide = refl; tagged = omega arith; spelled = λ body len. both_spelled 4 4 body (omega (arith, len)) })))

pub takes_handle : (last : Bool) (tag : ℕ) (e : Extent) → tag ≡ 15 → e ≡ short 4 → Takes last tag e
unfolding constant
takes_handle last tag e at is =
    rw (at, is) (record { wide = refl; tagged = omega arith; spelled = λ body len. both_spelled 1 2 body (omega (arith, len)) })

pub takes_method_type : (last : Bool) (tag : ℕ) (e : Extent) → tag ≡ 16 → e ≡ short 3 → Takes last tag e
unfolding constant
takes_method_type last tag e at is =
    rw (at, is) (record { wide = refl; tagged = omega arith; spelled = λ body len. bytes_spelled 2 body (omega (arith, len)) })

pub takes_dynamic : (last : Bool) (tag : ℕ) (e : Extent) → 17 ≤ tag → tag < 19 → e ≡ short 5 → Takes last tag e
unfolding constant
takes_dynamic last tag e ge lt is =
    subst (Takes last tag) (sym is) (two (λ (t : ℕ). Takes last t (short 5)) 17 tag ge lt
    (record { wide = refl; tagged = omega arith; spelled = λ body len. both_spelled 2 2 body (omega (arith, len)) })
    (record { wide = refl; tagged = omega arith; spelled = λ body len. both_spelled 2 2 body (omega (arith, len)) }))

takes_name : (last : Bool) (tag : ℕ) → 7 ≤ tag → tag < 9 → Takes last tag (short 3)
unfolding constant
takes_name last tag ge lt = two (λ (t : ℕ). Takes last t (short 3)) 7 tag ge lt
    (record { wide = refl; tagged = omega arith; spelled = λ body len. bytes_spelled 2 body (omega (arith, len)) })
    (record { wide = refl; tagged = omega arith; spelled = λ body len. bytes_spelled 2 body (omega (arith, len)) })

takes_pair : (last : Bool) (tag : ℕ) → 9 ≤ tag → tag < 13 → Takes last tag (short 5)
unfolding constant
takes_pair last tag ge lt = four (λ (t : ℕ). Takes last t (short 5)) 9 tag ge lt
    (record { wide = refl; tagged = omega arith; spelled = λ body len. both_spelled 2 2 body (omega (arith, len)) })
    (record { wide = refl; tagged = omega arith; spelled = λ body len. both_spelled 2 2 body (omega (arith, len)) })
    (record { wide = refl; tagged = omega arith; spelled = λ body len. both_spelled 2 2 body (omega (arith, len)) })
    (record { wide = refl; tagged = omega arith; spelled = λ body len. both_spelled 2 2 body (omega (arith, len)) })

pub ruleset rare = (takes_number, takes_wide, takes_handle, takes_method_type, takes_dynamic)

-- ---- a tag and what stands behind it

number_of_one : (a : ℕ) (others : List ℕ) → Passes (number 1) (a ∷ others) others a
number_of_one a others = number_front 1 (a ∷ others) (a ∷ []) others a (omega arith) refl refl (omega arith)

tagged_front : (last : Bool) (tag : ℕ) (others rest : List ℕ) → Skips (constant last tag) others rest → Passes (tagged last) (tag ∷ others) rest (is_wide tag)
unfolding tagged
tagged_front last tag others rest behind =
    let wide = passes_then (constant last tag) (λ skipped. done (is_wide tag)) others rest rest tt (is_wide tag) behind (passes_done (is_wide tag) rest) in
    passes_then (number 1) (λ t. andthen (constant last t) (λ skipped. done (is_wide t))) (tag ∷ others) others rest tag (is_wide tag) (number_of_one tag others) wide

-- a constant whose extent is known
takes_front : (last : Bool) (tag : ℕ) (others : List ℕ) (e : Extent) → Takes last tag e → e.length ≤ length (tag ∷ others)
    → Passes (tagged last) (tag ∷ others) (drop e.length (tag ∷ others)) e.is_wide
takes_front last tag others e takes within =
    let k : e.length ≡ suc (e.length - 1) = let some = takes.tagged in omega (arith, some) in
    let body = takes.spelled (take (e.length - 1) others) (let some = takes.tagged in omega (arith, within, some, length-take (e.length - 1) others)) in
    let passed = tagged_front last tag others (drop (e.length - 1) others) (in_front (constant last tag) (e.length - 1) others tt body) in
    subst (λ (w : Bool). Passes (tagged last) (tag ∷ others) (drop e.length (tag ∷ others)) w) (sym takes.wide)
    (subst (λ (n : ℕ). Passes (tagged last) (tag ∷ others) (drop n (tag ∷ others)) (is_wide tag)) (sym k) passed)

-- ---- the constant with which bytes begin, of which three were split off

abbrev pub IsExtent : Bool → List ℕ → Extent → Type 0
IsExtent last given e = e.length ≤ length given → Passes (tagged last) given (drop e.length given) e.is_wide

found : (last : Bool) (given front : List ℕ) (e : Extent) → 3 ≤ length given → front ≡ take 3 given → Takes last (get_or front 0 0) e → IsExtent last given e
found last (tag ∷ others) front e le first takes =
    takes_front last tag others e (subst (λ (l : List ℕ). Takes last (get_or l 0 0) e) first takes)
found last [] front e le first takes = absurd (omega (arith, le))

pub name_found : (last : Bool) (given front : List ℕ) (e : Extent) → 3 ≤ length given → front ≡ take 3 given → 7 ≤ get_or front 0 0 → get_or front 0 0 < 9
    → e ≡ short 3 → IsExtent last given e
name_found last given front e le first ge lt is = found last given front e le first (subst (Takes last (get_or front 0 0)) (sym is) (takes_name last _ ge lt))

pub pair_found : (last : Bool) (given front : List ℕ) (e : Extent) → 3 ≤ length given → front ≡ take 3 given → 9 ≤ get_or front 0 0 → get_or front 0 0 < 13
    → e ≡ short 5 → IsExtent last given e
pair_found last given front e le first ge lt is = found last given front e le first (subst (Takes last (get_or front 0 0)) (sym is) (takes_pair last _ ge lt))

pub rare_found : (last : Bool) (given front : List ℕ) (r : Option Extent) → 3 ≤ length given → front ≡ take 3 given → IfSome r (Takes last (get_or front 0 0))
    → IfSome r (IsExtent last given)
rare_found last given front (Some e) le first takes = found last given front e le first takes
rare_found last given front None le first takes = tt

pub text_found : (last : Bool) (given front : List ℕ) (v : ℕ) (e : Extent) → 3 ≤ length given → front ≡ take 3 given → get_or front 0 0 ≡ 1
    → v ≡ big_number 2 (take (length front - 1) (drop 1 front)) → e ≡ short (3 + v) → IsExtent last given e
unfolding constant text
text_found last (a ∷ b ∷ c ∷ given) front v e le first at value is within =
    let tag : a ≡ 1 = sym (ap (λ (l : List ℕ). get_or l 0 0) first) ∙ at in
    let value_is : v ≡ big_number 2 (b ∷ c ∷ []) = subst (λ (l : List ℕ). v ≡ big_number 2 (take (length l - 1) (drop 1 l))) first value in
    let size = number_front 2 (b ∷ c ∷ given) (b ∷ c ∷ []) given v (omega arith) refl refl value_is in
    let fits : v ≤ length given = let n = ap (λ (x : Extent). x.length) is in omega (arith, within, n) in
    let body = passes_then (number 2) bytes (b ∷ c ∷ given) given (drop v given) v tt size (bytes_in_front v given fits) in
    let sum : suc (suc (suc v)) ≡ 3 + v = omega arith in
    let passed = tagged_front last 1 (b ∷ c ∷ given) (drop v given) body in
    subst (λ (x : Extent). Passes (tagged last) (a ∷ b ∷ c ∷ given) (drop x.length (a ∷ b ∷ c ∷ given)) x.is_wide) (sym is)
    (subst (λ (t : ℕ). Passes (tagged last) (t ∷ b ∷ c ∷ given) (drop (3 + v) (t ∷ b ∷ c ∷ given)) false) (sym tag)
    (subst (λ (n : ℕ). Passes (tagged last) (1 ∷ b ∷ c ∷ given) (drop n (1 ∷ b ∷ c ∷ given)) false) sum passed))
text_found last [] front v e le first at value is within = absurd (omega (arith, le))
text_found last (a ∷ []) front v e le first at value is within = absurd (omega (arith, le))
text_found last (a ∷ b ∷ []) front v e le first at value is within = absurd (omega (arith, le))

pub ruleset found_by = (text_found, name_found, pair_found, rare_found)
