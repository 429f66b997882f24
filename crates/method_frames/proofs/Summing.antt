-- The sums of the locals that an entry of a stack map leaves.
use Rattle.std.proofs.Common.{◌≡◌, ◌∙◌, ℕ, ◌+◌, ◌-◌, ◌<◌, ◌≤◌, Bool, true, false, ltb, if◌then◌else◌, List, [], ◌∷◌, ◌++◌, length, refl, sym, ap, arith}
use Rattle.std.specs.Prelude.{◌||◌}
use Rattle.std.proofs.lemmas.Bool.Decides.{nat_tests}
use Rattle.std.proofs.lemmas.List.{map-append, length-map}
use Rattle.frames.specs.VerificationType.{VerificationType}
use Rattle.frames.specs.FrameAssignable.{width_of}
use Rattle.frames.specs.DeclaredFrames.{is_uninit_this, has_uninit_this}
use Rattle.type_numbers.specs.Numbers.{Numbering}
use Rattle.type_numbers.specs.Decoding.{type_by, types_by}
use Rattle.method_frames.specs.private.EntryLocals.{own_among, AreSummed}
use Rattle.method_frames.proofs.Counting.{none_numbered, counted_more, counted_less}

abbrev pub one_if : Bool → ℕ
one_if b = if b then 1 else 0

own_behind : (ts : List VerificationType) (t : VerificationType) → own_among (ts ++ t ∷ []) ≡ own_among ts + one_if (is_uninit_this t)
own_behind [] t = omega arith
own_behind (x ∷ xs) t = omega (arith, own_behind xs t)

one_most : (b : Bool) → one_if b ≤ 1
one_most true = omega arith
one_most false = omega arith

own_least : (ts : List VerificationType) → own_among ts ≤ length ts
own_least [] = omega arith
own_least (t ∷ ts) = omega (arith, own_least ts, one_most (is_uninit_this t))

pub own_most : (ns : List ℕ) (wides own : ℕ) → AreSummed ns wides own → own ≤ length ns
own_most ns wides own a =
    let s = none_numbered in
    omega (arith, a.owned s, own_least (types_by s ns), length-map ns (type_by s))

-- ---- one more after the others, and one less

module _ (ns : List ℕ) (n wides own k : ℕ) (b : Bool) (wide : (s : Numbering) → width_of (type_by s n) ≡ 1 + k) (is : (s : Numbering) → b ≡ is_uninit_this (type_by s n)) where
  own_more : (s : Numbering) → own_among (types_by s (ns ++ n ∷ [])) ≡ own_among (types_by s ns) + one_if b
  own_more s =
      ap own_among (map-append (type_by s) ns (n ∷ [])) ∙ own_behind (types_by s ns) (type_by s n)
      ∙ ap (λ c. own_among (types_by s ns) + one_if c) (sym (is s))

  pub summed_more : AreSummed ns wides own → AreSummed (ns ++ n ∷ []) (wides + k) (own + one_if b)
  summed_more a = record {
    counted = counted_more ns n wides k wide a.counted;
    owned = λ s. omega (arith, own_more s, a.owned s);
  }

  pub summed_others : b ≡ false → AreSummed ns wides own → AreSummed (ns ++ n ∷ []) (wides + k) own
  summed_others e a = record {
    counted = counted_more ns n wides k wide a.counted;
    owned = λ s. omega (arith, own_more s, a.owned s, ap one_if e);
  }

  pub own_some : AreSummed (ns ++ n ∷ []) wides own → one_if b ≤ own
  own_some a = omega (arith, own_more none_numbered, a.owned none_numbered)

  pub summed_less : AreSummed (ns ++ n ∷ []) wides own → AreSummed ns (wides - k) (own - one_if b)
  summed_less a = record {
    counted = counted_less ns n wides k wide a.counted;
    owned = λ s. omega (arith, own_more s, a.owned s);
  }

  pub others_left : b ≡ false → AreSummed (ns ++ n ∷ []) wides own → AreSummed ns (wides - k) own
  others_left e a = record {
    counted = counted_less ns n wides k wide a.counted;
    owned = λ s. omega (arith, own_more s, a.owned s, ap one_if e);
  }

-- ---- whether one of them is the own object

one_or_more : (b : Bool) (n : ℕ) → ltb 0 (one_if b + n) ≡ b || ltb 0 n
one_or_more true n = let some : 0 < 1 + n = omega arith in grind (arith, nat_tests)
one_or_more false n = let e : 0 + n ≡ n = omega arith in ap (ltb 0) e

own_has : (ts : List VerificationType) → ltb 0 (own_among ts) ≡ has_uninit_this ts
own_has [] = refl
own_has (t ∷ ts) = one_or_more (is_uninit_this t) (own_among ts) ∙ ap (λ b. is_uninit_this t || b) (own_has ts)

pub own_told : (ns : List ℕ) (wides own : ℕ) → AreSummed ns wides own → (s : Numbering) → ltb 0 own ≡ has_uninit_this (types_by s ns)
own_told ns wides own a s = ap (ltb 0) (sym (a.owned s)) ∙ own_has (types_by s ns)
