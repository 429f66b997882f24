-- The numbers of objects that are not initialized, and those of the classes that they become.
use Rattle.std.proofs.Common.{◌≡◌, ◌≢◌, ◌∙◌, ℕ, zero, suc, ◌+◌, ◌/◌, ◌%◌, ◌≤◌, ◌||◌, Bool, true, false, cond, nat_eq, nat_lt, List, Option, Some, None, position, refl, sym, ap, arith, ◌⊎◌, inl, inr}
use Rattle.std.specs.Str.{bytes_eq}
use Rattle.std.proofs.lemmas.Bool.{true≢false}
use Rattle.std.proofs.lemmas.Bool.Decides.{nat_tests}
use Rattle.hierarchy.specs.Places.{place_in}
use Rattle.hierarchy.proofs.Names.{none_some}
use Rattle.frames.specs.VerificationType.{VerificationType, top, int, float, long, double, null, class, array, uninit_this, uninit}
use Rattle.frames.specs.Objects.{is_initialized}
use Rattle.frames.specs.FrameAssignable.{width_of}
use Rattle.frames.specs.Slots.{is_wide}
use Rattle.frames.proofs.Walks.{width_is}
use Rattle.type_numbers.specs.Numbers.{Numbering, IsNumber, absent_limit, absent_number, numbered, number_by}
use Rattle.type_numbers.specs.Decoding.{or_top, type_with, name_at, type_at, type_by}
use Rattle.type_numbers.proofs.NumberParts.{parts_of, tag_back}
use Rattle.method_frames.specs.Objects.{is_uninitialized}

pick : (b : Bool) (x y : Option VerificationType) → is_wide (or_top x) ≡ false → is_wide (or_top y) ≡ false → is_wide (or_top (cond b x y)) ≡ false
pick true x y a c = a
pick false x y a c = c

named_narrow : (dims : ℕ) (o : Option (List ℕ)) → is_wide (or_top (type_with dims o)) ≡ false
named_narrow dims None = refl
named_narrow zero (Some name) = refl
named_narrow (suc d) (Some name) = refl

narrow_at : (s : Numbering) (tag dims rest : ℕ) → nat_eq tag 3 ≡ false → nat_eq tag 4 ≡ false → is_wide (or_top (type_at s tag dims rest)) ≡ false
narrow_at s tag dims rest e f =
    pick (nat_eq tag 0) _ _ refl (pick (nat_eq tag 1) _ _ refl (pick (nat_eq tag 2) _ _ refl
    (rw (e, f) (pick (nat_eq tag 5) _ _ refl (pick (nat_eq tag 6) _ _ refl (pick (nat_eq tag 8) _ _ refl (pick (nat_eq tag 9) _ _ refl (named_narrow dims (name_at s tag rest)))))))))

-- by its tag, a type is no long and no double
pub narrow_tag : (n : ℕ) → n / 16777216 ≢ 3 → n / 16777216 ≢ 4 → (s : Numbering) → is_wide (type_by s n) ≡ false
narrow_tag n a b s = narrow_at s (n / 16777216) (n / 65536 % 256) (n % 65536) (grind (arith, nat_tests, a)) (grind (arith, nat_tests, b))

pub object_tag : (n : ℕ) → is_uninitialized n ≡ true → (n / 16777216 ≡ 6) ⊎ (n / 16777216 ≡ 8)
object_tag n o = by (nat_eq (n / 16777216) 6) refl o
  where
    by : (b : Bool) → nat_eq (n / 16777216) 6 ≡ b → (b || nat_eq (n / 16777216) 8) ≡ true → (n / 16777216 ≡ 6) ⊎ (n / 16777216 ≡ 8)
    by true e h = inl (grind (arith, nat_tests, e))
    by false e h = inr (grind (arith, nat_tests, h))

pub object_narrow : (n : ℕ) → is_uninitialized n ≡ true → (s : Numbering) → is_wide (type_by s n) ≡ false
object_narrow n o s = by (object_tag n o)
  where
    by : (n / 16777216 ≡ 6) ⊎ (n / 16777216 ≡ 8) → is_wide (type_by s n) ≡ false
    by (inl e) = narrow_tag n (λ q. omega (arith, e, q)) (λ q. omega (arith, e, q)) s
    by (inr e) = narrow_tag n (λ q. omega (arith, e, q)) (λ q. omega (arith, e, q)) s

-- ---- classes

abbrev IsFar : ℕ → Type 0
IsFar n = (n / 16777216 ≡ 7) ⊎ (9 ≤ n / 16777216)

absent_tag : (dims k n : ℕ) → absent_number dims k ≡ Some n → IsFar n
absent_tag dims k n e = by (nat_lt k absent_limit) refl e
  where
    by : (b : Bool) → nat_lt k absent_limit ≡ b → cond b (numbered (10 + k / 65536) dims (k % 65536)) None ≡ Some n → IsFar n
    by false h q = absurd (none_some q)
    by true h q = let t = tag_back (10 + k / 65536) dims (k % 65536) n (parts_of (10 + k / 65536) dims (k % 65536) n q) in inr (omega (arith, t))

class_tag : (dims n : ℕ) (o q : Option ℕ) → number_by dims o q ≡ Some n → IsFar n
class_tag dims n (Some place) q e = inl (tag_back 7 dims place n (parts_of 7 dims place n e))
class_tag dims n None (Some k) e = absent_tag dims k n e
class_tag dims n None None e = absurd (none_some e)

far_narrow : (n : ℕ) → IsFar n → (t : Numbering) → is_wide (type_by t n) ≡ false
far_narrow n (inl e) = narrow_tag n (λ q. omega (arith, e, q)) (λ q. omega (arith, e, q))
far_narrow n (inr le) = narrow_tag n (λ q. omega (arith, le, q)) (λ q. omega (arith, le, q))

far_no_object : (n : ℕ) → IsFar n → is_uninitialized n ≡ false
far_no_object n (inl e) = grind (arith, nat_tests, e)
far_no_object n (inr le) = grind (arith, nat_tests, le)

module _ (s : Numbering) (n : ℕ) (name : List ℕ) (h : IsNumber s n (class name)) where
  far_class : IsFar n
  far_class = class_tag 0 n (place_in s.classes name) (position (bytes_eq name) s.absent) h.number

  pub class_narrow : (t : Numbering) → is_wide (type_by t n) ≡ false
  class_narrow = far_narrow n far_class

  pub class_no_object : is_uninitialized n ≡ false
  class_no_object = far_no_object n far_class

near_object : (n tag dims rest : ℕ) → (nat_eq tag 6 || nat_eq tag 8) ≡ true → numbered tag dims rest ≡ Some n → is_uninitialized n ≡ true
near_object n tag dims rest t e = ap (λ k. nat_eq k 6 || nat_eq k 8) (tag_back tag dims rest n (parts_of tag dims rest n e)) ∙ t

-- an object that is not initialized has the number of one
pub object_by_type : (s : Numbering) (n : ℕ) (t : VerificationType) → IsNumber s n t → is_initialized t t ≡ true → is_uninitialized n ≡ true
object_by_type s n top h o = absurd (true≢false (sym o))
object_by_type s n int h o = absurd (true≢false (sym o))
object_by_type s n float h o = absurd (true≢false (sym o))
object_by_type s n double h o = absurd (true≢false (sym o))
object_by_type s n long h o = absurd (true≢false (sym o))
object_by_type s n null h o = absurd (true≢false (sym o))
object_by_type s n uninit_this h o = near_object n 6 0 0 refl h.number
object_by_type s n (uninit offset) h o = near_object n 8 0 offset refl h.number
object_by_type s n (class name) h o = absurd (true≢false (sym o))
object_by_type s n (array x) h o = absurd (true≢false (sym o))

-- a type that is no long and no double takes one unit
pub narrow_width : (t : VerificationType) → is_wide t ≡ false → width_of t ≡ 1
narrow_width t e = width_is t ∙ ap (λ b. cond b 2 1) e
