-- The kind of a type by the parts of its number.
use Rattle.std.proofs.Common.{◌≡◌, ◌∙◌, ◌&&◌, ◌+◌, ◌-◌, ◌*◌, ◌/◌, ◌%◌, ◌≤◌, ℕ, zero, suc, Bool, true, false, nat_lt, nat_eq, List, Option, Some, None, slice_get, refl, sym, ap, arith}
use Rattle.std.proofs.lemmas.Bool.Decides.{nat_tests}
use Rattle.names.specs.declared.base.Primitive.{Primitive}
use Rattle.names.specs.Descriptors.{dimensioned, primitive}
use Rattle.hierarchy.proofs.Names.{none_some, some_same}
use Rattle.insn.specs.Operators.{takes_array}
use Rattle.frames.specs.VerificationType.{VerificationType, top, int, float, long, double, null, array, uninit_this, uninit}
use Rattle.frames.specs.DeclaredFrames.{is_uninit_this}
use Rattle.type_numbers.specs.Numbers.{Numbering, IsNumber}
use Rattle.type_numbers.specs.Decoding.{element_at, type_with, type_at}
use Rattle.type_numbers.proofs.Decoded.{far, read_back}
use Rattle.rules.specs.After.{is_narrow}
use Rattle.rules.specs.Rules.{is_array, is_array_for, is_reference}
use Rattle.numbered_rules.specs.private.TypeParts.{is_array_by, is_array_for_by, is_narrow_by, is_own_by, is_reference_by}

-- ---- classes and arrays of them

named_reference : (dims : ℕ) (o : Option (List ℕ)) (t : VerificationType) → type_with dims o ≡ Some t → true ≡ is_reference t
named_reference dims None t e = absurd (none_some e)
named_reference zero (Some name) t e = ap is_reference (some_same e)
named_reference (suc d) (Some name) t e = ap is_reference (some_same e)

named_array : (dims : ℕ) (o : Option (List ℕ)) (t : VerificationType) → type_with dims o ≡ Some t → nat_lt 0 dims ≡ is_array t
named_array dims None t e = absurd (none_some e)
named_array zero (Some name) t e = ap is_array (some_same e)
named_array (suc d) (Some name) t e = let some : nat_lt 0 (suc d) ≡ true = grind (arith, nat_tests) in some ∙ ap is_array (some_same e)

named_array_for : (p : Primitive) (dims : ℕ) (o : Option (List ℕ)) (t : VerificationType) → type_with dims o ≡ Some t → false ≡ is_array_for p t
named_array_for p dims None t e = absurd (none_some e)
named_array_for p zero (Some name) t e = ap (is_array_for p) (some_same e)
named_array_for p (suc zero) (Some name) t e = ap (is_array_for p) (some_same e)
named_array_for p (suc (suc d)) (Some name) t e = ap (is_array_for p) (some_same e)

named_own : (dims : ℕ) (o : Option (List ℕ)) (t : VerificationType) → type_with dims o ≡ Some t → false ≡ is_uninit_this t
named_own dims None t e = absurd (none_some e)
named_own zero (Some name) t e = ap is_uninit_this (some_same e)
named_own (suc d) (Some name) t e = ap is_uninit_this (some_same e)

named_narrow : (dims : ℕ) (o : Option (List ℕ)) (t : VerificationType) → type_with dims o ≡ Some t → true ≡ is_narrow t
named_narrow dims None t e = absurd (none_some e)
named_narrow zero (Some name) t e = ap is_narrow (some_same e)
named_narrow (suc d) (Some name) t e = ap is_narrow (some_same e)

-- ---- an array of primitives

primitive_array_for : (p q : Primitive) (dims : ℕ) → (nat_lt dims 2 && takes_array p q) ≡ is_array_for p (array (dimensioned (dims - 1) (primitive q)))
primitive_array_for p q zero = refl
primitive_array_for p q (suc zero) = refl
primitive_array_for p q (suc (suc d)) =
    let many : nat_lt (suc (suc d)) 2 ≡ false = grind (arith, nat_tests) in
    let less : suc (suc d) - 1 ≡ suc d = omega arith in
    ap (λ b. b && takes_array p q) many ∙ sym (ap (λ k. is_array_for p (array (dimensioned k (primitive q)))) less)

-- ---- by the tag

module _ (s : Numbering) (dims rest : ℕ) (t : VerificationType) where
  -- the tags of absent classes
  module _ (tag : ℕ) (h : 10 ≤ tag) (e : type_at s tag dims rest ≡ Some t) where
    named : type_with dims (slice_get s.absent ((tag - 10) * 65536 + rest)) ≡ Some t
    named = sym (far s tag dims rest h) ∙ e

    far_reference : is_reference_by tag ≡ is_reference t
    far_reference = let a : nat_lt 4 tag ≡ true = grind (arith, nat_tests) in a ∙ named_reference dims _ t named

    far_array : is_array_by tag dims ≡ is_array t
    far_array =
        let a : nat_eq tag 5 ≡ false = grind (arith, nat_tests) in
        let b : nat_eq tag 9 ≡ false = grind (arith, nat_tests) in
        let c : nat_eq tag 7 ≡ false = grind (arith, nat_tests) in
        let d : nat_lt 9 tag ≡ true = grind (arith, nat_tests) in
        rw (a, b, c, d) (named_array dims _ t named)

    far_array_for : (p : Primitive) → is_array_for_by p tag dims rest ≡ is_array_for p t
    far_array_for p =
        let a : nat_eq tag 5 ≡ false = grind (arith, nat_tests) in
        let b : nat_eq tag 9 ≡ false = grind (arith, nat_tests) in
        rw (a, b) (named_array_for p dims _ t named)

    far_own : is_own_by tag ≡ is_uninit_this t
    far_own = let a : nat_eq tag 6 ≡ false = grind (arith, nat_tests) in a ∙ named_own dims _ t named

    far_narrow : is_narrow_by tag ≡ is_narrow t
    far_narrow =
        let a : nat_eq tag 0 ≡ false = grind (arith, nat_tests) in
        let b : nat_eq tag 3 ≡ false = grind (arith, nat_tests) in
        let c : nat_eq tag 4 ≡ false = grind (arith, nat_tests) in
        rw (a, b, c) (named_narrow dims _ t named)

  -- a kind of types, and of tags
  record IsKind (by : ℕ → Bool) (is : VerificationType → Bool) : Type 0 where
    top : by 0 ≡ is top
    int : by 1 ≡ is int
    float : by 2 ≡ is float
    double : by 3 ≡ is double
    long : by 4 ≡ is long
    null : by 5 ≡ is null
    own : by 6 ≡ is uninit_this
    named : (o : Option (List ℕ)) → type_with dims o ≡ Some t → by 7 ≡ is t
    made : by 8 ≡ is (uninit rest)
    primitives : by 9 ≡ is (array (dimensioned (dims - 1) (primitive (element_at rest))))
    far : (tag : ℕ) → 10 ≤ tag → type_at s tag dims rest ≡ Some t → by tag ≡ is t

  module _ (by : ℕ → Bool) (is : VerificationType → Bool) (k : IsKind by is) where
    by_tag : (tag : ℕ) → type_at s tag dims rest ≡ Some t → by tag ≡ is t
    by_tag zero e = k.top ∙ ap is (some_same e)
    by_tag (suc zero) e = k.int ∙ ap is (some_same e)
    by_tag (suc (suc zero)) e = k.float ∙ ap is (some_same e)
    by_tag (suc (suc (suc zero))) e = k.double ∙ ap is (some_same e)
    by_tag (suc (suc (suc (suc zero)))) e = k.long ∙ ap is (some_same e)
    by_tag (suc (suc (suc (suc (suc zero))))) e = k.null ∙ ap is (some_same e)
    by_tag (suc (suc (suc (suc (suc (suc zero)))))) e = k.own ∙ ap is (some_same e)
    by_tag (suc (suc (suc (suc (suc (suc (suc zero))))))) e = k.named _ e
    by_tag (suc (suc (suc (suc (suc (suc (suc (suc zero)))))))) e = k.made ∙ ap is (some_same e)
    by_tag (suc (suc (suc (suc (suc (suc (suc (suc (suc zero))))))))) e = k.primitives ∙ ap is (some_same e)
    by_tag (suc (suc (suc (suc (suc (suc (suc (suc (suc (suc i)))))))))) e = let high : 10 ≤ (suc (suc (suc (suc (suc (suc (suc (suc (suc (suc i)))))))))) = omega arith in k.far (suc (suc (suc (suc (suc (suc (suc (suc (suc (suc i)))))))))) high e

  reference_tag : (tag : ℕ) → type_at s tag dims rest ≡ Some t → is_reference_by tag ≡ is_reference t
  reference_tag = by_tag is_reference_by is_reference (record { top = refl; int = refl; float = refl; double = refl; long = refl; null = refl; own = refl; named = λ o. named_reference dims o t; made = refl; primitives = refl; far = far_reference })

  array_tag : (tag : ℕ) → type_at s tag dims rest ≡ Some t → is_array_by tag dims ≡ is_array t
  array_tag = by_tag (λ tag. is_array_by tag dims) is_array (record { top = refl; int = refl; float = refl; double = refl; long = refl; null = refl; own = refl; named = λ o. named_array dims o t; made = refl; primitives = refl; far = far_array })

  array_for_tag : (p : Primitive) (tag : ℕ) → type_at s tag dims rest ≡ Some t → is_array_for_by p tag dims rest ≡ is_array_for p t
  array_for_tag p = by_tag (λ tag. is_array_for_by p tag dims rest) (is_array_for p) (record { top = refl; int = refl; float = refl; double = refl; long = refl; null = refl; own = refl; named = λ o. named_array_for p dims o t; made = refl; primitives = primitive_array_for p (element_at rest) dims; far = λ tag h e. far_array_for tag h e p })

  own_tag : (tag : ℕ) → type_at s tag dims rest ≡ Some t → is_own_by tag ≡ is_uninit_this t
  own_tag = by_tag is_own_by is_uninit_this (record { top = refl; int = refl; float = refl; double = refl; long = refl; null = refl; own = refl; named = λ o. named_own dims o t; made = refl; primitives = refl; far = far_own })

  narrow_tag : (tag : ℕ) → type_at s tag dims rest ≡ Some t → is_narrow_by tag ≡ is_narrow t
  narrow_tag = by_tag is_narrow_by is_narrow (record { top = refl; int = refl; float = refl; double = refl; long = refl; null = refl; own = refl; named = λ o. named_narrow dims o t; made = refl; primitives = refl; far = far_narrow })

-- ---- by a number

module _ (s : Numbering) (n : ℕ) (t : VerificationType) (h : IsNumber s n t) where
  pub reference_parts : is_reference_by (n / 16777216) ≡ is_reference t
  reference_parts = reference_tag s (n / 65536 % 256) (n % 65536) t (n / 16777216) (read_back s n t h)

  pub array_parts : is_array_by (n / 16777216) (n / 65536 % 256) ≡ is_array t
  array_parts = array_tag s (n / 65536 % 256) (n % 65536) t (n / 16777216) (read_back s n t h)

  pub array_for_parts : (p : Primitive) → is_array_for_by p (n / 16777216) (n / 65536 % 256) (n % 65536) ≡ is_array_for p t
  array_for_parts p = array_for_tag s (n / 65536 % 256) (n % 65536) t p (n / 16777216) (read_back s n t h)

  pub own_parts : is_own_by (n / 16777216) ≡ is_uninit_this t
  own_parts = own_tag s (n / 65536 % 256) (n % 65536) t (n / 16777216) (read_back s n t h)

  pub narrow_parts : is_narrow_by (n / 16777216) ≡ is_narrow t
  narrow_parts = narrow_tag s (n / 65536 % 256) (n % 65536) t (n / 16777216) (read_back s n t h)
