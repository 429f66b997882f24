-- Finding a unit is the other side of spelling it.
use Rattle.std.proofs.Common.{◌≡◌, ℕ, zero, suc, ◌+◌, ◌-◌, ◌*◌, ◌/◌, ◌%◌, ◌^◌, ◌<◌, ◌≤◌, Bool, true, false, cond, ltb, leb, eqb, List, [], ◌∷◌, ◌++◌, length, drop, Option, Some, None, refl, sym, ap, subst, ◌∙◌, append_assoc, arith, inl, inr, ◌⊎◌, ◌&&◌, ◌||◌}
use Rattle.std.proofs.lemmas.Bool.Decides.{nat_tests}
use Rattle.std.proofs.lemmas.Bool.{cases_lt, ltb-true, ltb-false, eqb-true, eqb-false}
use Rattle.layout.specs.FormatLaws.{chosen}
use Rattle.std.proofs.lemmas.List.{append_cancel_left, nil_from_length, drop_at, length-append, length-drop, append-nil}
use Rattle.std.proofs.Math.Logic.{∥∥₁_map, ∥∥₁_elim}
use Rattle.std.specs.Coded.{le_prop}
use Rattle.std.proofs.lemmas.Grind.{flat_map-append}
use Rattle.names.specs.Texts.{IsText, FirstBad, unit, spelling, AreUnits}
use Rattle.names.specs.Units.{bad_behind, bad_from, bad_text, unit_at, two, three, shortest, units_behind, units_from, units_of}

-- ---- what is spelled is found

pub again_one : (u : ℕ) (x : List ℕ) → 0 < u → u < 128 → unit_at (u ∷ x) ≡ Some (u, 1)
again_one u x h k = grind (arith, nat_tests)

again_two : (a b u : ℕ) (x : List ℕ) → 192 ≤ a → a < 224 → 128 ≤ b → b < 192 → (a - 192) * 64 + (b - 128) ≡ u → (128 ≤ u) ⊎ (u ≡ 0) → unit_at (a ∷ b ∷ x) ≡ Some (u, 2)
again_two a b u x h1 h2 h3 h4 h5 h6 = grind (arith, nat_tests)

again_three : (a b c u : ℕ) (x : List ℕ) → 224 ≤ a → a < 240 → 128 ≤ b → b < 192 → 128 ≤ c → c < 192 → ((a - 224) * 64 + (b - 128)) * 64 + (c - 128) ≡ u → 2048 ≤ u
    → unit_at (a ∷ b ∷ c ∷ x) ≡ Some (u, 3)
again_three a b c u x h1 h2 h3 h4 h5 h6 h7 h8 = grind (arith, nat_tests)

-- which of its spellings a unit has
pub data Spelt (u : ℕ) : List ℕ → Type 0 where
  null : u ≡ 0 → Spelt u (192 ∷ 128 ∷ [])
  one : 0 < u → u < 128 → Spelt u (u ∷ [])
  pair : 128 ≤ u → u < 2048 → Spelt u ((192 + u / 64) ∷ (128 + u % 64) ∷ [])
  triple : 2048 ≤ u → Spelt u ((224 + u / 4096) ∷ (128 + (u / 64) % 64) ∷ (128 + u % 64) ∷ [])

pub spelt : (u : ℕ) → Spelt u (unit u)
spelt u = by_null (eqb u 0) refl
  where
    by_long : (b : Bool) → ltb u 2048 ≡ b → 128 ≤ u → Spelt u (cond b ((192 + u / 64) ∷ (128 + u % 64) ∷ []) ((224 + u / 4096) ∷ (128 + (u / 64) % 64) ∷ (128 + u % 64) ∷ []))
    by_long true e h = pair h (ltb-true _ _ e)
    by_long false e h = triple (ltb-false _ _ e)

    by_short : (b : Bool) → ltb u 128 ≡ b → (u ≡ 0 → ⊥) → Spelt u (cond b (u ∷ []) (cond (ltb u 2048) ((192 + u / 64) ∷ (128 + u % 64) ∷ []) ((224 + u / 4096) ∷ (128 + (u / 64) % 64) ∷ (128 + u % 64) ∷ [])))
    by_short true e h = one (omega (arith, h)) (ltb-true _ _ e)
    by_short false e h = by_long (ltb u 2048) refl (ltb-false _ _ e)

    by_null : (b : Bool) → eqb u 0 ≡ b → Spelt u (cond b (192 ∷ 128 ∷ []) (cond (ltb u 128) (u ∷ []) (cond (ltb u 2048) ((192 + u / 64) ∷ (128 + u % 64) ∷ []) ((224 + u / 4096) ∷ (128 + (u / 64) % 64) ∷ (128 + u % 64) ∷ []))))
    by_null true e = null (eqb-true _ _ e)
    by_null false e = by_short (ltb u 128) refl (eqb-false _ _ e)

again : (u : ℕ) (bytes x : List ℕ) → u < 2 ^ 16 → Spelt u bytes → unit_at (bytes ++ x) ≡ Some (u, length bytes)
again u _ x lt (null e) = again_two 192 128 u x (omega arith) (omega arith) (omega arith) (omega arith) (omega arith) (inr e)
again u _ x lt (one h k) = again_one u x h k
again u _ x lt (pair h k) = again_two (192 + u / 64) (128 + u % 64) u x (omega arith) (omega arith) (omega arith) (omega arith) (omega arith) (inl h)
again u _ x lt (triple h) = again_three (224 + u / 4096) (128 + (u / 64) % 64) (128 + u % 64) u x (omega arith) (omega arith) (omega arith) (omega arith) (omega arith) (omega arith) (omega arith) h

pub unit_again : (u : ℕ) (x : List ℕ) → u < 2 ^ 16 → unit_at (unit u ++ x) ≡ Some (u, length (unit u))
unit_again u x lt = again u (unit u) x lt (spelt u)

pub no_unit : (bytes : List ℕ) → unit_at bytes ≡ None → (u : ℕ) (x : List ℕ) → u < 2 ^ 16 → bytes ≡ unit u ++ x → ⊥
no_unit bytes none u x lt e =
    let some = ap unit_at e ∙ unit_again u x lt in
    cc

-- ---- what is found is spelled

-- the bytes begin with the unit, which takes n of them
pub record Begins (bytes : List ℕ) (u n : ℕ) : Type 0 where
  pub fits : u < 2 ^ 16
  pub some : 0 < n
  pub len : length (unit u) ≡ n
  pub parts : bytes ≡ unit u ++ drop n bytes

unit_one : (a : ℕ) → 0 < a → a < 128 → unit a ≡ a ∷ []
unit_one a h k = grind (arith, nat_tests)

unit_two : (u : ℕ) → (128 ≤ u) ⊎ (u ≡ 0) → u < 2048 → unit u ≡ (192 + u / 64) ∷ (128 + u % 64) ∷ []
unit_two u (inl h) k = grind (arith, nat_tests)
unit_two u (inr h) k = rw h refl

unit_three : (u : ℕ) → 2048 ≤ u → unit u ≡ (224 + u / 4096) ∷ (128 + (u / 64) % 64) ∷ (128 + u % 64) ∷ []
unit_three u h = grind (arith, nat_tests)

found_one : (a : ℕ) (bs : List ℕ) → 0 < a → a < 128 → Begins (a ∷ bs) a 1
found_one a bs h k = record { fits = omega arith; some = omega arith; len = ap length (unit_one a h k); parts = rw (unit_one a h k) refl }

found_two : (a b u : ℕ) (bs : List ℕ) → 192 ≤ a → a < 224 → 128 ≤ b → b < 192 → (a - 192) * 64 + (b - 128) ≡ u → (128 ≤ u) ⊎ (u ≡ 0) → Begins (a ∷ b ∷ bs) u 2
found_two a b u bs h1 h2 h3 h4 h5 h6 =
    let lt : u < 2048 = omega arith in
    let x : 192 + u / 64 ≡ a = omega arith in
    let y : 128 + u % 64 ≡ b = omega arith in
    let is : unit u ≡ a ∷ b ∷ [] = unit_two u h6 lt ∙ rw (x, y) refl in
    record { fits = omega arith; some = omega arith; len = ap length is; parts = rw is refl }

found_three : (a b c u : ℕ) (bs : List ℕ) → 224 ≤ a → a < 240 → 128 ≤ b → b < 192 → 128 ≤ c → c < 192 → ((a - 224) * 64 + (b - 128)) * 64 + (c - 128) ≡ u → 2048 ≤ u → Begins (a ∷ b ∷ c ∷ bs) u 3
found_three a b c u bs h1 h2 h3 h4 h5 h6 h7 h8 =
    let x : 224 + u / 4096 ≡ a = omega arith in
    let y : 128 + (u / 64) % 64 ≡ b = omega arith in
    let z : 128 + u % 64 ≡ c = omega arith in
    let is : unit u ≡ a ∷ b ∷ c ∷ [] = unit_three u h8 ∙ rw (x, y, z) refl in
    record { fits = omega arith; some = omega arith; len = ap length is; parts = rw is refl }

abbrev pair_of : ℕ × ℕ → Option (ℕ × ℕ)
pair_of x = Some x

same_pair : (x y : ℕ × ℕ) → pair_of x ≡ pair_of y → x ≡ y
same_pair x y e = cc

none_some : (x : ℕ × ℕ) → None ≡ pair_of x → ⊥
none_some x e = cc

tested : (b : Bool) (r : Option (ℕ × ℕ)) (x : ℕ × ℕ) → cond b r None ≡ Some x → (b ≡ true) × (r ≡ Some x)
tested true r x e = (refl, e)
tested false r x e = absurd cc

least_long : (u : ℕ) → (leb 2048 u || eqb u 0 && eqb 3 2) ≡ true → 2048 ≤ u
least_long u e = grind (arith, nat_tests)

least_short : (u : ℕ) → (leb 128 u || eqb u 0 && eqb 2 2) ≡ true → (128 ≤ u) ⊎ (u ≡ 0)
least_short u e = elim (cases_lt u 128) [ inl h ↦ inr (grind (arith, nat_tests)) | inr h ↦ inl h ]

-- the two bytes after a first byte of 192 to 223
in_two : (a : ℕ) (bs : List ℕ) (x : ℕ × ℕ) → 192 ≤ a → a < 224 → two a bs ≡ Some x → Begins (a ∷ bs) x.0 x.1
in_two a [] x h k e = absurd cc
in_two a (b ∷ bs) x h k e =
    let u = (a - 192) * 64 + (b - 128) in
    let p = tested (leb 128 b && ltb b 192) (shortest u 128 2) x e in
    let q = tested (leb 128 u || eqb u 0 && eqb 2 2) (Some (u, 2)) x p.1 in
    let in_range = p.0 in
    let l : 128 ≤ b = grind (arith, nat_tests) in
    let m : b < 192 = grind (arith, nat_tests) in
    subst (λ (y : ℕ × ℕ). Begins (a ∷ b ∷ bs) y.0 y.1) (same_pair (u, 2) x q.1) (found_two a b u bs h k l m refl (least_short u q.0))

in_three : (a : ℕ) (bs : List ℕ) (x : ℕ × ℕ) → 224 ≤ a → a < 240 → three a bs ≡ Some x → Begins (a ∷ bs) x.0 x.1
in_three a [] x h k e = absurd cc
in_three a (b ∷ []) x h k e = absurd cc
in_three a (b ∷ c ∷ bs) x h k e =
    let u = ((a - 224) * 64 + (b - 128)) * 64 + (c - 128) in
    let p = tested (leb 128 b && ltb b 192 && leb 128 c && ltb c 192) (shortest u 2048 3) x e in
    let q = tested (leb 2048 u || eqb u 0 && eqb 3 2) (Some (u, 3)) x p.1 in
    let in_range = p.0 in
    let l : 128 ≤ b = grind (arith, nat_tests) in
    let m : b < 192 = grind (arith, nat_tests) in
    let n : 128 ≤ c = grind (arith, nat_tests) in
    let o : c < 192 = grind (arith, nat_tests) in
    subst (λ (y : ℕ × ℕ). Begins (a ∷ b ∷ c ∷ bs) y.0 y.1) (same_pair (u, 3) x q.1) (found_three a b c u bs h k l m n o refl (least_long u q.0))

pub unit_found : (bytes : List ℕ) (x : ℕ × ℕ) → unit_at bytes ≡ Some x → Begins bytes x.0 x.1
unit_found [] x e = absurd cc
unit_found (a ∷ bs) x e =
    elim (chosen (ltb a 128) (cond (eqb a 0) None (Some (a, 1))) (cond (ltb a 192) None (cond (ltb a 224) (two a bs) (cond (ltb a 240) (three a bs) None))) (Some x) e) [
      | inl h ↦
          elim (chosen (eqb a 0) None (Some (a, 1)) (Some x) h.1) [
            | inl g ↦ absurd (let no = g.1 in cc)
            | inr g ↦
                let more : 0 < a = omega (arith, eqb-false a 0 g.0) in
                subst (λ (y : ℕ × ℕ). Begins (a ∷ bs) y.0 y.1) (same_pair (a, 1) x g.1) (found_one a bs more (ltb-true _ _ h.0))
          ]
      | inr h ↦
          elim (chosen (ltb a 192) None (cond (ltb a 224) (two a bs) (cond (ltb a 240) (three a bs) None)) (Some x) h.1) [
            | inl g ↦ absurd (let no = g.1 in cc)
            | inr g ↦
                elim (chosen (ltb a 224) (two a bs) (cond (ltb a 240) (three a bs) None) (Some x) g.1) [
                  | inl i ↦ in_two a bs x (ltb-false _ _ g.0) (ltb-true _ _ i.0) i.1
                  | inr i ↦
                      let t = tested (ltb a 240) (three a bs) x i.1 in
                      in_three a bs x (ltb-false _ _ i.0) (ltb-true _ _ t.0) t.1
                ]
          ]
    ]

-- ---- over a whole text

-- the first `at` bytes spell units
pub record ReadTo (bytes : List ℕ) (at : ℕ) : Type 0 where
  pub units : List ℕ
  pub fit : AreUnits units
  pub parts : bytes ≡ spelling units ++ drop at bytes
  pub len : length (spelling units) ≡ at

-- units before one more
pub fit_push : (us : List ℕ) (u : ℕ) → AreUnits us → u < 2 ^ 16 → AreUnits (us ++ u ∷ [])
fit_push [] u h k = (k, tt)
fit_push (x ∷ us) u h k = (h.0, fit_push us u h.1 k)

spelling_push : (us : List ℕ) (u : ℕ) → spelling (us ++ u ∷ []) ≡ spelling us ++ unit u
spelling_push us u = flat_map-append unit us (u ∷ []) ∙ ap (λ (t : List ℕ). spelling us ++ t) (append-nil (unit u))

pub read_on : (bytes : List ℕ) (at u n : ℕ) → ReadTo bytes at → unit_at (drop at bytes) ≡ Some (u, n) → ReadTo bytes (at + n)
read_on bytes at u n r e =
    let b = unit_found (drop at bytes) (u, n) e in
    let R = drop n (drop at bytes) in
    let whole : bytes ≡ (spelling r.units ++ unit u) ++ R = r.parts ∙ ap (λ (t : List ℕ). spelling r.units ++ t) b.parts ∙ sym (append_assoc (spelling r.units) (unit u) R) in
    let len : length (spelling r.units ++ unit u) ≡ at + n = omega (arith, length-append (spelling r.units) (unit u), r.len, b.len) in
    let left : drop (at + n) bytes ≡ R = ap (drop (at + n)) whole ∙ drop_at (spelling r.units ++ unit u) R (at + n) len in
    record {
      units = r.units ++ u ∷ [];
      fit = fit_push r.units u r.fit b.fits;
      parts = rw (spelling_push, left) whole;
      len = rw spelling_push len;
    }

pub read_all : (bytes : List ℕ) (at : ℕ) → ReadTo bytes at → length bytes ≤ at → IsText bytes
read_all bytes at r le =
    let none : drop at bytes ≡ [] = nil_from_length _ (omega (arith, length-drop at bytes)) in
    record { units = r.units; fit = r.fit; spelled = r.parts ∙ ap (λ (t : List ℕ). spelling r.units ++ t) none ∙ append-nil (spelling r.units) }

pub stays_within : (bytes : List ℕ) (at u n : ℕ) → at < length bytes → unit_at (drop at bytes) ≡ Some (u, n) → at + n ≤ length bytes
stays_within bytes at u n lt e =
    let b = unit_found (drop at bytes) (u, n) e in
    omega (arith, length-drop at bytes, b.len, length-append (unit u) (drop n (drop at bytes)), ap length b.parts)

-- ---- the units of a text

-- what a text begins with is the first of its units
pub one_text : (a b : List ℕ) → AreUnits a → AreUnits b → spelling a ≡ spelling b → a ≡ b
one_text [] [] h k e = refl
one_text [] (v ∷ b) h k e = absurd (none_some (v, length (unit v)) (ap unit_at e ∙ unit_again v (spelling b) k.0))
one_text (u ∷ a) [] h k e = absurd (none_some (u, length (unit u)) (ap unit_at (sym e) ∙ unit_again u (spelling a) h.0))
one_text (u ∷ a) (v ∷ b) h k e =
    let same = same_pair (u, length (unit u)) (v, length (unit v)) (sym (unit_again u (spelling a) h.0) ∙ ap unit_at e ∙ unit_again v (spelling b) k.0) in
    let is : u ≡ v = ap (λ (x : ℕ × ℕ). x.0) same in
    let e2 : unit u ++ spelling a ≡ unit u ++ spelling b = e ∙ ap (λ (w : ℕ). unit w ++ spelling b) (sym is) in
    let inner : a ≡ b = one_text a b h.1 k.1 (append_cancel_left (unit u) (spelling a) (spelling b) e2) in
    ap (λ (x : ℕ). x ∷ a) is ∙ ap (λ (x : List ℕ). v ∷ x) inner

-- after the unit that a text begins with stands a text
after_unit : (rest : List ℕ) (u n : ℕ) → unit_at rest ≡ Some (u, n) → IsText rest → IsText (drop n rest)
after_unit rest u n e t = by_units t.units t.fit t.spelled
  where
    by_units : (us : List ℕ) → AreUnits us → rest ≡ spelling us → IsText (drop n rest)
    by_units [] fit is =
        let no : None ≡ Some (u, n) = ap unit_at (sym is) ∙ e in
        absurd (none_some (u, n) no)
    by_units (v ∷ us) fit is =
        let one = unit_again v (spelling us) fit.0 in
        let same : (v, length (unit v)) ≡ (u, n) = same_pair _ _ (sym one ∙ ap unit_at (sym is) ∙ e) in
        let len : length (unit v) ≡ n = ap (λ (x : ℕ × ℕ). x.1) same in
        record { units = us; fit = fit.1; spelled = ap (drop n) is ∙ drop_at (unit v) (spelling us) n len }

pub text_after : (rest : List ℕ) (u n : ℕ) → unit_at rest ≡ Some (u, n) → ∥ IsText rest ∥₁ → ∥ IsText (drop n rest) ∥₁
text_after rest u n e t = ∥∥₁_map t (after_unit rest u n e)

ended : (rest : List ℕ) → unit_at rest ≡ None → IsText rest → length rest ≤ 0
ended rest e t = by_units t.units t.fit t.spelled
  where
    by_units : (us : List ℕ) → AreUnits us → rest ≡ spelling us → length rest ≤ 0
    by_units [] fit is = omega (arith, ap length is)
    by_units (v ∷ us) fit is = absurd (no_unit rest e v (spelling us) fit.0 is)

pub text_ended : (rest : List ℕ) → unit_at rest ≡ None → ∥ IsText rest ∥₁ → rest ≡ []
text_ended rest e t = nil_from_length rest (let le : length rest ≤ 0 = ∥∥₁_elim t le_prop (ended rest e) in omega arith)

pub units_on : (out rest whole : List ℕ) (u n : ℕ) → unit_at rest ≡ Some (u, n) → spelling out ++ rest ≡ whole → spelling (out ++ u ∷ []) ++ drop n rest ≡ whole
units_on out rest whole u n e so_far =
    let b = unit_found rest (u, n) e in
    rw (spelling_push, append_assoc (spelling out) (unit u) (drop n rest), ← b.parts) so_far

pub is_within : (rest : List ℕ) (u n : ℕ) → unit_at rest ≡ Some (u, n) → (n ≤ length rest) × (0 < n)
is_within rest u n e =
    let b = unit_found rest (u, n) e in
    (omega (arith, b.len, length-append (unit u) (drop n rest), ap length b.parts), b.some)

-- ---- the first fault as a function

bad_step : (n at : ℕ) (bytes : List ℕ) (u k : ℕ) → unit_at bytes ≡ Some (u, k) → bad_from (suc n) at bytes ≡ bad_from n (at + k) (drop k bytes)
unfolding bad_from
bad_step n at [] u k e = absurd (none_some (u, k) e)
bad_step n at (b ∷ bytes) u k e = ap (bad_behind (bad_from n) at (b ∷ bytes)) e

pub some_bytes : (u : ℕ) → 0 < length (unit u)
some_bytes u = by_case (unit u) (spelt u)
  where
    by_case : (w : List ℕ) → Spelt u w → 0 < length w
    by_case _ (null e) = omega arith
    by_case _ (one h k) = omega arith
    by_case _ (pair h k) = omega arith
    by_case _ (triple h) = omega arith

-- after units the fault is that of what follows
pub bad_past : (us others : List ℕ) (n at : ℕ) → AreUnits us → length (spelling us ++ others) ≤ n → (m : ℕ) × (length others ≤ m) × (bad_from n at (spelling us ++ others) ≡ bad_from m (at + length (spelling us)) others)
bad_past [] others n at fit le = (n, le, ap (λ (k : ℕ). bad_from n k others) (omega arith))
bad_past (u ∷ us) others zero at fit le = absurd (omega (arith, le, some_bytes u, length-append (unit u ++ spelling us) others, length-append (unit u) (spelling us)))
bad_past (u ∷ us) others (suc n) at fit le =
    let len : length ((unit u ++ spelling us) ++ others) ≤ suc n = le in
    let after = spelling us ++ others in
    let regrouped : (unit u ++ spelling us) ++ others ≡ unit u ++ after = append_assoc (unit u) (spelling us) others in
    let inner = bad_past us others n (at + length (unit u)) fit.1 (omega (arith, len, some_bytes u, length-append (unit u) after, ap length regrouped)) in
    let step = bad_step n at (unit u ++ after) u (length (unit u)) (unit_again u after fit.0) in
    let dropped : bad_from n (at + length (unit u)) (drop (length (unit u)) (unit u ++ after)) ≡ bad_from n (at + length (unit u)) after = ap (bad_from n (at + length (unit u))) (drop_at (unit u) after (length (unit u)) refl) in
    let sum : (at + length (unit u)) + length (spelling us) ≡ at + length (unit u ++ spelling us) = omega (arith, length-append (unit u) (spelling us)) in
    (inner.0, inner.1, ap (bad_from (suc n) at) regrouped ∙ step ∙ dropped ∙ inner.2 ∙ ap (λ (k : ℕ). bad_from inner.0 k others) sum)

bad_end : (m at : ℕ) → bad_from m at [] ≡ None
unfolding bad_from
bad_end zero at = refl
bad_end (suc m) at = refl

bad_here : (m at : ℕ) (bytes : List ℕ) → 0 < length bytes → length bytes ≤ m → unit_at bytes ≡ None → bad_from m at bytes ≡ Some at
unfolding bad_from
bad_here m at [] h k e = absurd (omega arith)
bad_here zero at (b ∷ bytes) h k e = absurd (omega arith)
bad_here (suc m) at (b ∷ bytes) h k e = ap (bad_behind (bad_from m) at (b ∷ bytes)) e

pub text_is_good : (bytes : List ℕ) → IsText bytes → bad_text bytes ≡ None
unfolding bad_text
text_is_good bytes t =
    let whole : bytes ≡ spelling t.units ++ [] = t.spelled ∙ sym (append-nil (spelling t.units)) in
    let p = bad_past t.units [] (length bytes) 0 t.fit (omega (arith, ap length whole)) in
    ap (bad_from (length bytes) 0) whole ∙ p.2 ∙ bad_end p.0 (0 + length (spelling t.units))

pub bad_is_found : (bytes : List ℕ) (k : ℕ) → ReadTo bytes k → k < length bytes → unit_at (drop k bytes) ≡ None → bad_text bytes ≡ Some k
unfolding bad_text
bad_is_found bytes k r lt none =
    let p = bad_past r.units (drop k bytes) (length bytes) 0 r.fit (omega (arith, ap length r.parts)) in
    let here = bad_here p.0 (0 + length (spelling r.units)) (drop k bytes) (omega (arith, length-drop k bytes)) p.1 none in
    let at : 0 + length (spelling r.units) ≡ k = omega (arith, r.len) in
    ap (bad_from (length bytes) 0) r.parts ∙ p.2 ∙ here ∙ ap Some at

pub never_bad : (bytes : List ℕ) → ∥ IsText bytes ∥₁ → bad_text bytes ≡ None
never_bad bytes t = by_case (bad_text bytes) refl
  where
    by_case : (o : Option ℕ) → bad_text bytes ≡ o → o ≡ None
    by_case None e = refl
    by_case (Some k) e =
        let wrong : 1 ≤ 0 = ∥∥₁_elim t le_prop (λ is. absurd (let good = text_is_good bytes is in cc)) in
        absurd (omega (arith, wrong))

-- ---- what the function says is what the spelling says

nothing_fits : (others : List ℕ) → ((u : ℕ) (x : List ℕ) → u < 2 ^ 16 → others ≡ unit u ++ x → ⊥) → unit_at others ≡ None
nothing_fits others bad = by_case (unit_at others) refl
  where
    by_case : (o : Option (ℕ × ℕ)) → unit_at others ≡ o → o ≡ None
    by_case None e = refl
    by_case (Some x) e = let b = unit_found others x e in absurd (bad x.0 (drop x.1 others) b.fits b.parts)

pub first_bad_is_found : (bytes : List ℕ) (k : ℕ) → FirstBad bytes k → bad_text bytes ≡ Some k
unfolding bad_text
first_bad_is_found bytes k f =
    let p = bad_past f.units f.others (length bytes) 0 f.fit (omega (arith, ap length f.parts)) in
    let here = bad_here p.0 (0 + length (spelling f.units)) f.others f.more p.1 (nothing_fits f.others f.bad) in
    let place : 0 + length (spelling f.units) ≡ k = omega (arith, f.at) in
    ap (bad_from (length bytes) 0) f.parts ∙ p.2 ∙ here ∙ ap Some place

data Judged (at : ℕ) (bytes : List ℕ) : Option ℕ → Type 0 where
  good : IsText bytes → Judged at bytes None
  wrong : (k : ℕ) → FirstBad bytes k → Judged at bytes (Some (at + k))

no_bytes : (at : ℕ) → Judged at [] None
no_bytes at = good (record { units = []; fit = tt; spelled = refl })

judged : (n at : ℕ) (bytes : List ℕ) → length bytes ≤ n → Judged at bytes (bad_from n at bytes)
unfolding bad_from
judged zero at [] le = no_bytes at
judged zero at (b ∷ bytes) le = absurd (omega arith)
judged (suc n) at [] le = no_bytes at
judged (suc n) at (b ∷ bytes) le = by_unit (λ place rest fits. judged n place rest fits) (unit_at (b ∷ bytes)) refl
  where
    longer : (x : ℕ × ℕ) → Begins (b ∷ bytes) x.0 x.1 → (o : Option ℕ) → Judged (at + x.1) (drop x.1 (b ∷ bytes)) o → Judged at (b ∷ bytes) o
    longer x u _ (good t) =
        good (record { units = x.0 ∷ t.units; fit = (u.fits, t.fit); spelled = u.parts ∙ ap (λ (y : List ℕ). unit x.0 ++ y) t.spelled })
    longer x u _ (wrong k f) =
        let place : at + (x.1 + k) ≡ (at + x.1) + k = omega arith in
        subst (λ (m : ℕ). Judged at (b ∷ bytes) (Some m)) place
        (wrong (x.1 + k)
        (record {
          units = x.0 ∷ f.units;
          others = f.others;
          fit = (u.fits, f.fit);
          parts = u.parts ∙ ap (λ (y : List ℕ). unit x.0 ++ y) f.parts ∙ sym (append_assoc (unit x.0) (spelling f.units) f.others);
          at = omega (arith, length-append (unit x.0) (spelling f.units), u.len, f.at);
          more = f.more;
          bad = f.bad;
        }))

    by_unit : ((place : ℕ) (rest : List ℕ) → length rest ≤ n → Judged place rest (bad_from n place rest)) → (o : Option (ℕ × ℕ)) → unit_at (b ∷ bytes) ≡ o → Judged at (b ∷ bytes) (bad_behind (bad_from n) at (b ∷ bytes) o)
    by_unit inner None e =
        subst (λ (m : ℕ). Judged at (b ∷ bytes) (Some m)) (let place : at + 0 ≡ at = omega arith in place)
        (wrong 0 (record { units = []; others = b ∷ bytes; fit = tt; parts = refl; at = refl; more = omega arith; bad = no_unit (b ∷ bytes) e }))
    by_unit inner (Some x) e =
        let u = unit_found (b ∷ bytes) x e in
        longer x u (bad_from n (at + x.1) (drop x.1 (b ∷ bytes))) (inner (at + x.1) (drop x.1 (b ∷ bytes)) (omega (arith, le, u.some, length-drop x.1 (b ∷ bytes))))

pub good_is_text : (bytes : List ℕ) → bad_text bytes ≡ None → IsText bytes
unfolding bad_text
good_is_text bytes e = by_answer (bad_text bytes) (judged (length bytes) 0 bytes (omega arith)) e
  where
    by_answer : (o : Option ℕ) → Judged 0 bytes o → o ≡ None → IsText bytes
    by_answer _ (good t) e = t
    by_answer _ (wrong k f) e = absurd cc

pub bad_is_first : (bytes : List ℕ) (k : ℕ) → bad_text bytes ≡ Some k → FirstBad bytes k
unfolding bad_text
bad_is_first bytes k e = by_answer (bad_text bytes) (judged (length bytes) 0 bytes (omega arith)) e
  where
    by_answer : (o : Option ℕ) → Judged 0 bytes o → o ≡ Some k → FirstBad bytes k
    by_answer _ (good t) e = absurd cc
    by_answer _ (wrong j f) e = let place : 0 + j ≡ k = cc in subst (FirstBad bytes) (let same : j ≡ k = omega (arith, place) in same) f

pub not_both : (k : ℕ) → None ≡ (let o : Option ℕ = Some k in o) → ⊥
not_both k e = cc

pub same_place : (j k : ℕ) → (let o : Option ℕ = Some j in o) ≡ Some k → j ≡ k
same_place j k e = cc

-- ---- the units of a text as a function

same_behind : (f g : List ℕ → List ℕ) (bytes : List ℕ) → ((u n : ℕ) → unit_at bytes ≡ Some (u, n) → f (drop n bytes) ≡ g (drop n bytes))
    → units_behind f bytes (unit_at bytes) ≡ units_behind g bytes (unit_at bytes)
same_behind f g bytes same = by_unit (unit_at bytes) same
  where
    by_unit : (o : Option (ℕ × ℕ)) → ((u n : ℕ) → o ≡ Some (u, n) → f (drop n bytes) ≡ g (drop n bytes)) → units_behind f bytes o ≡ units_behind g bytes o
    by_unit None same = refl
    by_unit (Some x) same = ap (λ us. x.0 ∷ us) (same x.0 x.1 refl)

-- more units may be asked for than bytes are there
same_units : (n m : ℕ) (bytes : List ℕ) → length bytes ≤ n → length bytes ≤ m → units_from n bytes ≡ units_from m bytes
unfolding units_from
same_units zero zero bytes h k = refl
same_units zero (suc m) bytes h k = rw (nil_from_length bytes (omega (arith, h))) refl
same_units (suc n) zero bytes h k = rw (nil_from_length bytes (omega (arith, k))) refl
same_units (suc n) (suc m) bytes h k =
    same_behind (units_from n) (units_from m) bytes (λ u t e.
    let in_front = is_within bytes u t e in
    let left = length-drop t bytes in
    same_units n m (drop t bytes) (omega (arith, left, in_front.0, in_front.1, h)) (omega (arith, left, in_front.0, in_front.1, k)))

pub units_on_from : (bytes : List ℕ) (u n : ℕ) → unit_at bytes ≡ Some (u, n) → units_of bytes ≡ u ∷ units_of (drop n bytes)
unfolding units_of units_from
units_on_from [] u n e = absurd (none_some (u, n) e)
units_on_from (b ∷ bs) u n e =
    let in_front = is_within (b ∷ bs) u n e in
    let left : length (drop n (b ∷ bs)) + n ≡ length (b ∷ bs) = omega (arith, length-drop n (b ∷ bs), in_front.0) in
    ap (units_behind (units_from (length bs)) (b ∷ bs)) e
    ∙ ap (λ us. u ∷ us) (same_units (length bs) (length (drop n (b ∷ bs))) (drop n (b ∷ bs)) (omega (arith, left, in_front.1)) (omega arith))

-- there are fewer after it
pub fewer_units : (bytes : List ℕ) (u n : ℕ) → unit_at bytes ≡ Some (u, n) → length (units_of (drop n bytes)) < length (units_of bytes)
fewer_units bytes u n e = omega (arith, ap length (units_on_from bytes u n e))

pub no_units : (bytes : List ℕ) → unit_at bytes ≡ None → units_of bytes ≡ []
unfolding units_of units_from
no_units [] e = refl
no_units (b ∷ bs) e = ap (units_behind (units_from (length bs)) (b ∷ bs)) e

pub units_again : (us : List ℕ) → AreUnits us → units_of (spelling us) ≡ us
units_again [] h = no_units [] refl
units_again (u ∷ us) h =
    units_on_from (spelling (u ∷ us)) u (length (unit u)) (unit_again u (spelling us) h.0)
    ∙ ap (λ x. u ∷ units_of x) (drop_at (unit u) (spelling us) (length (unit u)) refl)
    ∙ ap (λ x. u ∷ x) (units_again us h.1)
