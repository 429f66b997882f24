-- How many types the frames of the methods in front have.
use Rattle.std.proofs.Common.{◌≡◌, ◌+◌, ◌-◌, ℕ, zero, suc, Bool, true, false, nat_lt, List, [], ◌∷◌, ◌++◌, length, Some, None, refl, sym, ◌∙◌, ap, subst, arith}
use Rattle.std.specs.Prelude.{slice_get}
use Rattle.std.proofs.lemmas.Bool.Decides.{nat_tests}
use Rattle.std.proofs.lemmas.List.{length-append}
use Rattle.classfile.specs.Methods.{JudgedClass}
use Rattle.hierarchy.specs.Class.{ClassFact}
use Rattle.verify.specs.declared.frames_at.TheConstants.{MOST_KEPT}
use Rattle.verify.specs.declared.frames_at.FramesAt.{FramesAt}
use Rattle.verify.specs.declared.report.MethodVerdict.{MethodVerdict}
use Rattle.verify.specs.Coming.{FramesFact, frames_view, frames_size, size_before, IsFramedIf, AreFramed}
use Rattle.verify.specs.Explaining.{AreFramedIf}

-- one more after them
pub size_with : (xs : List FramesAt) (x : FramesAt) → size_before (xs ++ x ∷ []) (suc (length xs)) ≡ size_before xs (length xs) + frames_size (frames_view x)
size_with [] x = omega arith
size_with (y ∷ xs) x =
    let e : size_before (xs ++ x ∷ []) (suc (length xs)) ≡ size_before xs (length xs) + frames_size (frames_view x) = size_with xs x in
    omega (arith, e)

-- they have fewer where some are left
pub some_left : (size left most : ℕ) → left ≡ most - size → nat_lt 0 left ≡ nat_lt size most
some_left size left most e = by_tests (nat_lt 0 left) (nat_lt size most) refl refl
  where
    by_tests : (some fewer : Bool) → nat_lt 0 left ≡ some → nat_lt size most ≡ fewer → some ≡ fewer
    by_tests true true p q = refl
    by_tests false false p q = refl
    by_tests true false p q = grind (arith, nat_tests, e, p, q)
    by_tests false true p q = grind (arith, nat_tests, e, p, q)

none_some : {A : Type 0} (a : A) → None ≡ Some a → ⊥
none_some a e = cc

some_same : {A : Type 0} (a b : A) → Some a ≡ Some b → a ≡ b
some_same a b e = cc

-- a property of each item, of what stands beside it and of the size in front of it, and of one more item, is one of all
one_more_behind : {R : Type 0} (rs : List R) (xs : List FramesAt) (r : R) (x : FramesAt) (P : ℕ → ℕ → R → FramesAt → Type 0) → length xs ≡ length rs
    → ((n : ℕ) (s : R) (y : FramesAt) → slice_get rs n ≡ Some s → slice_get xs n ≡ Some y → P n (size_before xs n) s y) → P (length xs) (size_before xs (length xs)) r x
    → (n : ℕ) (s : R) (y : FramesAt) → slice_get (rs ++ r ∷ []) n ≡ Some s → slice_get (xs ++ x ∷ []) n ≡ Some y → P n (size_before (xs ++ x ∷ []) n) s y
one_more_behind [] [] r x P same all last zero s y e f = subst (P 0 0 s) (some_same x y f) (subst (λ q. P 0 0 q x) (some_same r s e) last)
one_more_behind [] [] r x P same all last (suc n) s y e f = absurd (none_some y f)
one_more_behind [] (z ∷ xs) r x P same all last n s y e f = absurd (omega (arith, same))
one_more_behind (q ∷ rs) [] r x P same all last n s y e f = absurd (omega (arith, same))
one_more_behind (q ∷ rs) (z ∷ xs) r x P same all last zero s y e f = all zero s y e f
one_more_behind (q ∷ rs) (z ∷ xs) r x P same all last (suc n) s y e f =
    one_more_behind rs xs r x (λ k size. P (suc k) (frames_size (frames_view z) + size)) (omega (arith, same)) (λ k. all (suc k)) last n s y e f

-- the frames of the methods so far, and how many types are left
pub record AreFramedSoFar (classes : List ClassFact) (c : JudgedClass) (rs : List MethodVerdict) (xs : List FramesAt) (still : ℕ) : Type 0 where
  pub framed : AreFramed classes c rs xs
  pub left : still ≡ MOST_KEPT - size_before xs (length xs)

pub one_more_framed : (classes : List ClassFact) (c : JudgedClass) (rs : List MethodVerdict) (xs : List FramesAt) (left next : ℕ) (r : MethodVerdict) (x : FramesAt) → AreFramedSoFar classes c rs xs left
    → IsFramedIf (nat_lt 0 left) classes c (length rs) r.verdict (frames_view x) → next ≡ left - frames_size (frames_view x) → AreFramedSoFar classes c (rs ++ r ∷ []) (xs ++ x ∷ []) next
one_more_framed classes c rs xs left next r x h is less =
    let size : ℕ = size_before xs (length xs) in
    let told : nat_lt 0 left ≡ nat_lt size MOST_KEPT = some_left size left MOST_KEPT h.left in
    let here : IsFramedIf (nat_lt size MOST_KEPT) classes c (length xs) r.verdict (frames_view x) =
    subst (λ n. IsFramedIf (nat_lt size MOST_KEPT) classes c n r.verdict (frames_view x)) (sym h.framed.all) (subst (λ b. IsFramedIf b classes c (length rs) r.verdict (frames_view x)) told is) in
    let longer : length (xs ++ x ∷ []) ≡ suc (length xs) = length-append xs (x ∷ []) ∙ omega arith in
    record {
      framed = record {
        all = omega (arith, longer, length-append rs (r ∷ []), h.framed.all);
        each = one_more_behind rs xs r x (λ n before s y. IsFramedIf (nat_lt before MOST_KEPT) classes c n s.verdict (frames_view y)) h.framed.all h.framed.each here;
      };
      left = less ∙ omega (arith, h.left, size_with xs x) ∙ ap (λ n. MOST_KEPT - size_before (xs ++ x ∷ []) n) (sym longer);
    }

-- where they are asked for
pub framed_where : (framed : Bool) (classes : List ClassFact) (c : JudgedClass) (rs : List MethodVerdict) (xs : List FramesAt) → (framed ≡ true → AreFramed classes c rs xs) → AreFramedIf framed classes c rs xs
framed_where true classes c rs xs f = f refl
framed_where false classes c rs xs f = tt

-- two lists with one size in front of each place are equal, where the properties of both at a place leave no choice
pub same_in_turn : (xs ys : List FramesAt) (P : ℕ → ℕ → FramesFact → Type 0) (Q : ℕ → ℕ → FramesFact → Type 0)
    → ((n size : ℕ) (x y : FramesFact) → P n size x → Q n size y → x ≡ y)
    → ((n : ℕ) (x : FramesAt) → slice_get xs n ≡ Some x → P n (size_before xs n) (frames_view x))
    → ((n : ℕ) (y : FramesAt) → slice_get ys n ≡ Some y → Q n (size_before ys n) (frames_view y))
    → (n : ℕ) (x y : FramesAt) → slice_get xs n ≡ Some x → slice_get ys n ≡ Some y → frames_view x ≡ frames_view y
same_in_turn [] ys P Q one all others n x y here there = absurd (none_some x here)
same_in_turn (a ∷ xs) [] P Q one all others n x y here there = absurd (none_some y there)
same_in_turn (a ∷ xs) (b ∷ ys) P Q one all others zero x y here there =
    one zero 0 (frames_view x) (frames_view y) (all zero x here) (others zero y there)
same_in_turn (a ∷ xs) (b ∷ ys) P Q one all others (suc n) x y here there =
    let first : frames_view a ≡ frames_view b = one zero 0 (frames_view a) (frames_view b) (all zero a refl) (others zero b refl) in
    same_in_turn xs ys (λ k size. P (suc k) (frames_size (frames_view a) + size)) (λ k size. Q (suc k) (frames_size (frames_view a) + size))
    (λ k size. one (suc k) (frames_size (frames_view a) + size))
    (λ k. all (suc k))
    (λ k z e. subst (λ f. Q (suc k) (frames_size f + size_before ys k) (frames_view z)) (sym first) (others (suc k) z e))
    n x y here there
