-- How large pieces are: whether a number passes its field, and how many bytes there are.
use Rattle.std.proofs.Common.{◌≡◌, ℕ, ◌+◌, ◌<◌, Bool, true, false, cond, ◌||◌, ◌&&◌, List, [], ◌∷◌, ◌++◌, length, refl, sym, ap, ◌∙◌, inl, inr, ◌⊎◌, arith, ltb}
use Rattle.std.specs.List.{flat_map, list_all}
use Rattle.std.proofs.lemmas.Bool.{ltb-true, ltb-false}
use Rattle.std.proofs.lemmas.List.{length-append, append-nil}
use Rattle.layout.specs.declared.limits.TheConstants.{MAX_CLASS_BYTES}
use Rattle.layout.specs.Pieces.{Piece, plain, over, unspelled, field, text, lengthened, marked, has_over, too_large}
use Rattle.layout.specs.PieceLaws.{counted, text_append}
use Rattle.classfile.specs.Sizes.{total, table_fits, table_size}

-- The sums over the pieces of a part, where `fits` tells whether its numbers fit and `size` how many bytes it has.
pub record Measured (p : List Piece) (fits : Bool) (size : ℕ) : Type 0 where
  pub counts : has_over p ≡ false → length (text p) ≡ size
  pub passes : fits ≡ false → has_over p ≡ true
  pub why : has_over p ≡ true → (fits ≡ false) ⊎ (MAX_CLASS_BYTES < size)

has_over_append : (p q : List Piece) → has_over (p ++ q) ≡ (has_over p || has_over q)
has_over_append [] q = refl
has_over_append (plain bytes ∷ p) q = has_over_append p q
has_over_append (over ∷ p) q = refl
has_over_append (unspelled ∷ p) q = has_over_append p q

neither : (a b : Bool) → (a || b) ≡ false → (a ≡ false) × (b ≡ false)
neither true b h = absurd cc
neither false b h = (refl, h)

one_of : (a b : Bool) → (a || b) ≡ true → (a ≡ true) ⊎ (b ≡ true)
one_of true b h = inl refl
one_of false b h = inr h

not_both : (a b : Bool) → (a && b) ≡ false → (a ≡ false) ⊎ (b ≡ false)
not_both true b h = inr h
not_both false b h = inl refl

left_is : (a b : Bool) → a ≡ false → (a && b) ≡ false
left_is a b h = ap (λ (x : Bool). x && b) h

right_is : (a b : Bool) → b ≡ false → (a && b) ≡ false
right_is true b h = h
right_is false b h = refl

or_left : (a b : Bool) → a ≡ true → (a || b) ≡ true
or_left a b h = ap (λ (x : Bool). x || b) h

or_right : (a b : Bool) → b ≡ true → (a || b) ≡ true
or_right true b h = refl
or_right false b h = h

-- ---- parts one after the other

pub measured_append : {p q : List Piece} {f g : Bool} {m n : ℕ} → Measured p f m → Measured q g n → Measured (p ++ q) (f && g) (m + n)
measured_append {p = p} {q = q} {f = f} {g = g} {m = m} {n = n} a b = record {
  counts = λ h.
      let none = neither (has_over p) (has_over q) (sym (has_over_append p q) ∙ h) in
      let first = a.counts none.0 in
      let second = b.counts none.1 in
      let both : length (text (p ++ q)) ≡ length (text p) + length (text q) = ap length (text_append p q) ∙ length-append (text p) (text q) in
      omega (arith, both, first, second);
  passes = λ h. has_over_append p q ∙ too_far (not_both f g h);
  why = λ h. because (one_of (has_over p) (has_over q) (sym (has_over_append p q) ∙ h));
}
  where
    too_far : (f ≡ false) ⊎ (g ≡ false) → (has_over p || has_over q) ≡ true
    too_far (inl h) = or_left (has_over p) (has_over q) (a.passes h)
    too_far (inr h) = or_right (has_over p) (has_over q) (b.passes h)

    left : (f ≡ false) ⊎ (MAX_CLASS_BYTES < m) → ((f && g) ≡ false) ⊎ (MAX_CLASS_BYTES < m + n)
    left (inl h) = inl (left_is f g h)
    left (inr h) = inr (omega (arith, h))

    right : (g ≡ false) ⊎ (MAX_CLASS_BYTES < n) → ((f && g) ≡ false) ⊎ (MAX_CLASS_BYTES < m + n)
    right (inl h) = inl (right_is f g h)
    right (inr h) = inr (omega (arith, h))

    because : (has_over p ≡ true) ⊎ (has_over q ≡ true) → ((f && g) ≡ false) ⊎ (MAX_CLASS_BYTES < m + n)
    because (inl h) = left (a.why h)
    because (inr h) = right (b.why h)

pub measured_none : Measured [] true 0
measured_none = record { counts = λ h. refl; passes = λ h. absurd cc; why = λ h. absurd cc }

-- bytes as they are
pub measured_plain : (bytes : List ℕ) → Measured (plain bytes ∷ []) true (length bytes)
measured_plain bytes = record { counts = λ h. ap length (append-nil bytes); passes = λ h. absurd cc; why = λ h. absurd cc }

-- what no bytes spell has no bytes
pub measured_unspelled : {p : List Piece} {f : Bool} {m : ℕ} → Measured p f m → Measured (unspelled ∷ p) f m
measured_unspelled a = record { counts = a.counts; passes = a.passes; why = a.why }

pub measured_marked : {p : List Piece} {f : Bool} {m : ℕ} (b : Bool) → Measured p f m → Measured (marked b p) f m
measured_marked true a = a
measured_marked false a = measured_unspelled a

-- a number in a field: bytes where it fits
measured_sized : (n : ℕ) (b : Bool) (bytes : List ℕ) → length bytes ≡ n → Measured (cond b (plain bytes) over ∷ []) b n
measured_sized n true bytes long = record { counts = λ h. ap length (append-nil bytes) ∙ long; passes = λ h. absurd cc; why = λ h. absurd cc }
measured_sized n false bytes long = record { counts = λ h. absurd cc; passes = λ h. refl; why = λ h. inl refl }

pub measured_1 : (k : ℕ) → Measured (field 1 k) (ltb k 256) 1
unfolding field
measured_1 k = measured_sized 1 (ltb k 256) _ refl

pub measured_2 : (k : ℕ) → Measured (field 2 k) (ltb k 65536) 2
unfolding field
measured_2 k = measured_sized 2 (ltb k 65536) _ refl

pub measured_4 : (k : ℕ) → Measured (field 4 k) (ltb k 4294967296) 4
unfolding field
measured_4 k = measured_sized 4 (ltb k 4294967296) _ refl

-- ---- a length of four bytes: a body that passes it has too many bytes anyway

pub measured_lengthened : {p : List Piece} {f : Bool} {m : ℕ} → Measured p f m → Measured (lengthened p) f (4 + m)
measured_lengthened {p = p} {f = f} {m = m} a = record {
  counts = λ h.
      let none = neither (has_over size) (has_over p) (sym (has_over_append size p) ∙ h) in
      let first = b.counts none.0 in
      let second = a.counts none.1 in
      let both : length (text (size ++ p)) ≡ length (text size) + length (text p) = ap length (text_append size p) ∙ length-append (text size) (text p) in
      omega (arith, both, first, second);
  passes = λ h. has_over_append size p ∙ or_right (has_over size) (has_over p) (a.passes h);
  why = λ h. because (has_over p) refl (one_of (has_over size) (has_over p) (sym (has_over_append size p) ∙ h));
}
  where
    size : List Piece
    size = field 4 (length (text p))

    b : Measured size (ltb (length (text p)) 4294967296) 4
    b = measured_4 (length (text p))

    more : (f ≡ false) ⊎ (MAX_CLASS_BYTES < m) → (f ≡ false) ⊎ (MAX_CLASS_BYTES < 4 + m)
    more (inl h) = inl h
    more (inr h) = inr (omega (arith, h))

    long : has_over p ≡ false → (ltb (length (text p)) 4294967296 ≡ false) ⊎ (MAX_CLASS_BYTES < 4) → (f ≡ false) ⊎ (MAX_CLASS_BYTES < 4 + m)
    long e (inl h) = let is = a.counts e in inr (omega (arith, is, ltb-false _ _ h))
    long e (inr h) = inr (omega (arith, h))

    because : (o : Bool) → has_over p ≡ o → (has_over size ≡ true) ⊎ (has_over p ≡ true) → (f ≡ false) ⊎ (MAX_CLASS_BYTES < 4 + m)
    because true e h = more (a.why e)
    because false e (inl h) = long e (b.why h)
    because false e (inr h) = absurd cc

-- ---- lists

pub measured_each : {V : Type 0} {p : V → List Piece} {f : V → Bool} {s : V → ℕ} → ((v : V) → Measured (p v) (f v) (s v)) → (vs : List V)
    → Measured (flat_map p vs) (list_all f vs) (total s vs)
measured_each each [] = measured_none
measured_each each (v ∷ vs) = measured_append (each v) (measured_each each vs)

pub measured_table : {V : Type 0} {p : V → List Piece} {f : V → Bool} {s : V → ℕ} → ((v : V) → Measured (p v) (f v) (s v)) → (vs : List V)
    → Measured (counted p vs) (table_fits f vs) (table_size s vs)
measured_table each vs = measured_append (measured_2 (length vs)) (measured_each each vs)

-- ---- too large

pub large_if : {p : List Piece} {f : Bool} {m : ℕ} → Measured p f m → too_large p ≡ true → (f ≡ false) ⊎ (MAX_CLASS_BYTES < m)
large_if {p = p} {f = f} {m = m} a h = by_over (has_over p) refl (one_of (has_over p) _ h)
  where
    by_over : (o : Bool) → has_over p ≡ o → (has_over p ≡ true) ⊎ (ltb MAX_CLASS_BYTES (length (text p)) ≡ true) → (f ≡ false) ⊎ (MAX_CLASS_BYTES < m)
    by_over true e k = a.why e
    by_over false e (inl k) = absurd cc
    by_over false e (inr k) = let is = a.counts e in inr (omega (arith, is, ltb-true _ _ k))

pub large_then : {p : List Piece} {f : Bool} {m : ℕ} → Measured p f m → (f ≡ false) ⊎ (MAX_CLASS_BYTES < m) → too_large p ≡ true
large_then {p = p} {f = f} {m = m} a (inl h) = or_left (has_over p) _ (a.passes h)
large_then {p = p} {f = f} {m = m} a (inr h) = by_tests (has_over p) (ltb MAX_CLASS_BYTES (length (text p))) refl refl
  where
    by_tests : (o l : Bool) → has_over p ≡ o → ltb MAX_CLASS_BYTES (length (text p)) ≡ l → too_large p ≡ true
    by_tests true l e k = or_left (has_over p) _ e
    by_tests false true e k = or_right (has_over p) _ k
    by_tests false false e k = absurd (let is = a.counts e in omega (arith, is, h, ltb-false _ _ k))
