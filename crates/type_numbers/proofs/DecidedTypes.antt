-- Comparisons that the parts of numbers decide.
use Rattle.std.proofs.Common.{◌≡◌, ◌∙◌, ℕ, ◌+◌, ◌/◌, ◌%◌, ◌<◌, ◌≤◌, Bool, true, false, cond, not, ◌&&◌, ◌||◌, nat_eq, nat_lt, List, Option, Some, None, position, refl, sym, ap, subst, arith}
use Rattle.std.specs.Str.{bytes_eq}
use Rattle.std.specs.Prelude.{◌==◌}
use Rattle.std.proofs.lemmas.Bool.{eqb-true, false≢true, lt-ltb, ltb-true}
use Rattle.std.proofs.lemmas.Bool.Decides.{nat_tests}
use Rattle.names.specs.declared.base.Primitive.{Primitive}
use Rattle.names.specs.declared.base.Primitive.TheVariants.{Byte, Char, Double, Float, Int, Long, Short, Boolean}
use Rattle.names.specs.Descriptors.{FieldDescriptor, primitive, class as class_type, array as array_type, dimensions}
use Rattle.hierarchy.specs.Answer.{no, yes_if}
use Rattle.hierarchy.specs.Class.{ClassFact}
use Rattle.hierarchy.specs.Places.{place_in}
use Rattle.hierarchy.proofs.Names.{none_some, some_same}
use Rattle.frames.specs.VerificationType.{VerificationType, top, int, float, long, double, null, class, array, uninit_this, uninit}
use Rattle.frames.specs.Assignable.{same_primitive, component_answer, type_answer}
use Rattle.frames.specs.Packing.{element_code}
use Rattle.type_numbers.specs.Numbers.{Numbering, IsNumber, absent_limit, number_by, numbered, array_number}
use Rattle.type_numbers.specs.private.Deciding.{decided, is_reference}
use Rattle.type_numbers.proofs.NumberParts.{parts_of, tag_back, dims_back}

-- ---- types by their parts

abbrev is_top : VerificationType → Bool
is_top top = true
is_top _ = false

abbrev is_null : VerificationType → Bool
is_null null = true
is_null _ = false

abbrev is_named : VerificationType → Bool
is_named (class name) = true
is_named (array component) = true
is_named _ = false

abbrev has_primitive : FieldDescriptor → Bool
has_primitive (primitive p) = true
has_primitive (class_type name) = false
has_primitive (array_type component) = has_primitive component

abbrev is_primitive_array : VerificationType → Bool
is_primitive_array (array component) = has_primitive component
is_primitive_array _ = false

abbrev depth : VerificationType → ℕ
depth (array component) = dimensions component + 1
depth _ = 0

-- the parts of a number tell these of its type
record Tells (tag dims : ℕ) (t : VerificationType) : Type 0 where
  of_top : nat_eq tag 0 ≡ is_top t
  of_null : nat_eq tag 5 ≡ is_null t
  of_reference : is_reference tag ≡ is_named t
  of_primitives : nat_eq tag 9 ≡ is_primitive_array t
  deep : dims ≡ depth t

tag_at : (tag dims rest n : ℕ) → numbered tag dims rest ≡ Some n → n / 16777216 ≡ tag
tag_at tag dims rest n e = tag_back tag dims rest n (parts_of tag dims rest n e)

dims_at : (tag dims rest n : ℕ) → numbered tag dims rest ≡ Some n → n / 65536 % 256 ≡ dims
dims_at tag dims rest n e = dims_back tag dims rest n (parts_of tag dims rest n e)

tells : (tag dims rest n : ℕ) (t : VerificationType) → numbered tag dims rest ≡ Some n → Tells tag dims t → Tells (n / 16777216) (n / 65536 % 256) t
tells tag dims rest n t e h = subst (λ k. Tells k (n / 65536 % 256) t) (sym (tag_at tag dims rest n e)) (subst (λ k. Tells tag k t) (sym (dims_at tag dims rest n e)) h)

-- the tags of absent classes
far_tells : (tag dims : ℕ) (t : VerificationType) → 10 ≤ tag → is_top t ≡ false → is_null t ≡ false → is_named t ≡ true → is_primitive_array t ≡ false → dims ≡ depth t → Tells tag dims t
far_tells tag dims t h a b c d e =
    let p : nat_eq tag 0 ≡ false = grind (arith, nat_tests) in
    let q : nat_eq tag 5 ≡ false = grind (arith, nat_tests) in
    let r : nat_lt 8 tag ≡ true = lt-ltb 8 tag (omega (arith, h)) in
    let s : nat_eq tag 9 ≡ false = grind (arith, nat_tests) in
    let u : nat_eq tag 7 ≡ false = grind (arith, nat_tests) in
    record {
      of_top = p ∙ sym a;
      of_null = q ∙ sym b;
      of_reference = (λ i. u i || r i) ∙ sym c;
      of_primitives = s ∙ sym d;
      deep = e;
    }

class_tells : (dims n : ℕ) (t : VerificationType) (o k : Option ℕ) → number_by dims o k ≡ Some n → is_top t ≡ false → is_null t ≡ false → is_named t ≡ true → is_primitive_array t ≡ false → dims ≡ depth t → Tells (n / 16777216) (n / 65536 % 256) t
class_tells dims n t (Some place) k e a b c d f = tells 7 dims place n t e (record { of_top = sym a; of_null = sym b; of_reference = sym c; of_primitives = sym d; deep = f })
class_tells dims n t None None e a b c d f = absurd (none_some e)
class_tells dims n t None (Some k) e a b c d f = by (nat_lt k absent_limit) e
  where
    by : (w : Bool) → cond w (numbered (10 + k / 65536) dims (k % 65536)) None ≡ Some n → Tells (n / 16777216) (n / 65536 % 256) t
    by true e = tells (10 + k / 65536) dims (k % 65536) n t e (far_tells (10 + k / 65536) dims t (omega arith) a b c d f)
    by false e = absurd (none_some e)

module _ (s : Numbering) where
  array_tells : (d n : ℕ) (x : FieldDescriptor) (t : VerificationType) → array_number s.classes s.absent d x ≡ Some n → is_top t ≡ false → is_null t ≡ false → is_named t ≡ true → is_primitive_array t ≡ has_primitive x → d + dimensions x ≡ depth t → Tells (n / 16777216) (n / 65536 % 256) t
  array_tells d n (primitive p) t e a b c q f =
      let all : d ≡ depth t = omega (arith, f) in
      tells 9 d (element_code p) n t e (record { of_top = sym a; of_null = sym b; of_reference = sym c; of_primitives = sym q; deep = all })
  array_tells d n (class_type name) t e a b c q f =
      let all : d ≡ depth t = omega (arith, f) in
      class_tells d n t (place_in s.classes name) (position (bytes_eq name) s.absent) e a b c q all
  array_tells d n (array_type x) t e a b c q f =
      let all : (d + 1) + dimensions x ≡ depth t = omega (arith, f) in
      array_tells (d + 1) n x t e a b c q all

  number_tells : (n : ℕ) (t : VerificationType) → IsNumber s n t → Tells (n / 16777216) (n / 65536 % 256) t
  number_tells n top h = tells 0 0 0 n top h.number (record { of_top = refl; of_null = refl; of_reference = refl; of_primitives = refl; deep = refl })
  number_tells n int h = tells 1 0 0 n int h.number (record { of_top = refl; of_null = refl; of_reference = refl; of_primitives = refl; deep = refl })
  number_tells n float h = tells 2 0 0 n float h.number (record { of_top = refl; of_null = refl; of_reference = refl; of_primitives = refl; deep = refl })
  number_tells n double h = tells 3 0 0 n double h.number (record { of_top = refl; of_null = refl; of_reference = refl; of_primitives = refl; deep = refl })
  number_tells n long h = tells 4 0 0 n long h.number (record { of_top = refl; of_null = refl; of_reference = refl; of_primitives = refl; deep = refl })
  number_tells n null h = tells 5 0 0 n null h.number (record { of_top = refl; of_null = refl; of_reference = refl; of_primitives = refl; deep = refl })
  number_tells n uninit_this h = tells 6 0 0 n uninit_this h.number (record { of_top = refl; of_null = refl; of_reference = refl; of_primitives = refl; deep = refl })
  number_tells n (uninit offset) h = tells 8 0 offset n (uninit offset) h.number (record { of_top = refl; of_null = refl; of_reference = refl; of_primitives = refl; deep = refl })
  number_tells n (class name) h = class_tells 0 n (class name) (place_in s.classes name) (position (bytes_eq name) s.absent) h.number refl refl refl refl refl
  number_tells n (array x) h = array_tells 1 n x (array x) h.number refl refl refl refl (let e : 1 + dimensions x ≡ dimensions x + 1 = omega arith in e)

-- ---- what is decided of two types that differ

abbrev decided_types : VerificationType → VerificationType → Option Bool
decided_types t u =
    cond (is_top u) (Some true)
    (cond (not (is_named u)) (Some false)
    (cond (is_null t) (Some true)
    (cond (not (is_named t) || nat_lt (depth t) (depth u)) (Some false)
    (cond (is_primitive_array u || (nat_eq (depth t) (depth u) && is_primitive_array t)) (Some false)
    None))))

primitive_is : (p q : Primitive) → same_primitive p q ≡ true → p ≡ q
primitive_is Byte Byte e = refl
primitive_is Char Char e = refl
primitive_is Double Double e = refl
primitive_is Float Float e = refl
primitive_is Int Int e = refl
primitive_is Long Long e = refl
primitive_is Short Short e = refl
primitive_is Boolean Boolean e = refl
primitive_is _ _ e = absurd (false≢true e)

no_primitives : (h : List ClassFact) (p q : Primitive) → (primitive p ≡ primitive q → ⊥) → component_answer h (primitive p) (primitive q) ≡ no
no_primitives h p q differ = by (same_primitive p q) refl
  where
    by : (b : Bool) → same_primitive p q ≡ b → yes_if b ≡ no
    by true e = absurd (differ (ap primitive (primitive_is p q e)))
    by false e = refl

no_deeper : (h : List ClassFact) (x y : FieldDescriptor) → dimensions x < dimensions y → component_answer h x y ≡ no
no_deeper h (array_type x) (array_type y) lt = no_deeper h x y (omega (arith, lt))
no_deeper h (primitive p) (array_type y) lt = refl
no_deeper h (class_type n) (array_type y) lt = refl
no_deeper h x (primitive q) lt = absurd (omega (arith, lt))
no_deeper h x (class_type m) lt = absurd (omega (arith, lt))

no_wanted : (h : List ClassFact) (x y : FieldDescriptor) → has_primitive y ≡ true → (x ≡ y → ⊥) → component_answer h x y ≡ no
no_wanted h (primitive p) (primitive q) is differ = no_primitives h p q differ
no_wanted h (class_type n) (primitive q) is differ = refl
no_wanted h (array_type x) (primitive q) is differ = refl
no_wanted h (array_type x) (array_type y) is differ = no_wanted h x y is (λ e. differ (ap array_type e))
no_wanted h (primitive p) (array_type y) is differ = refl
no_wanted h (class_type n) (array_type y) is differ = refl
no_wanted h x (class_type m) is differ = absurd (false≢true is)

no_given : (h : List ClassFact) (x y : FieldDescriptor) → dimensions x ≡ dimensions y → has_primitive x ≡ true → (x ≡ y → ⊥) → component_answer h x y ≡ no
no_given h (primitive p) (primitive q) same is differ = no_primitives h p q differ
no_given h (primitive p) (class_type m) same is differ = refl
no_given h (primitive p) (array_type y) same is differ = refl
no_given h (array_type x) (array_type y) same is differ = no_given h x y (omega (arith, same)) is (λ e. differ (ap array_type e))
no_given h (array_type x) (primitive q) same is differ = absurd (omega (arith, same))
no_given h (array_type x) (class_type m) same is differ = absurd (omega (arith, same))
no_given h (class_type n) y same is differ = absurd (false≢true is)

-- two arrays
arrays_decided : (h : List ClassFact) (x y : FieldDescriptor) (b : Bool) → decided_types (array x) (array y) ≡ Some b → (array x ≡ array y → ⊥) → component_answer h x y ≡ yes_if b
arrays_decided h x y b e differ = by (nat_lt (dimensions x + 1) (dimensions y + 1)) refl e
  where
    apart : x ≡ y → ⊥
    apart f = differ (ap array f)

    last : (l : Bool) → nat_eq (dimensions x + 1) (dimensions y + 1) ≡ l → (k : Bool) → has_primitive x ≡ k → cond (l && k) (Some false) None ≡ Some b → component_answer h x y ≡ yes_if b
    last true f true k e = no_given h x y (let g = eqb-true (dimensions x + 1) (dimensions y + 1) f in omega (arith, g)) k apart ∙ ap yes_if (some_same e)
    last true f false k e = absurd (none_some e)
    last false f l k e = absurd (none_some e)

    then : (q : Bool) → has_primitive y ≡ q → cond (q || (nat_eq (dimensions x + 1) (dimensions y + 1) && has_primitive x)) (Some false) None ≡ Some b → component_answer h x y ≡ yes_if b
    then true f e = no_wanted h x y f apart ∙ ap yes_if (some_same e)
    then false f e = last (nat_eq (dimensions x + 1) (dimensions y + 1)) refl (has_primitive x) refl e

    by : (w : Bool) → nat_lt (dimensions x + 1) (dimensions y + 1) ≡ w
        → cond w (Some false) (cond (has_primitive y || (nat_eq (dimensions x + 1) (dimensions y + 1) && has_primitive x)) (Some false) None) ≡ Some b → component_answer h x y ≡ yes_if b
    by true f e = no_deeper h x y (let g = ltb-true (dimensions x + 1) (dimensions y + 1) f in omega (arith, g)) ∙ ap yes_if (some_same e)
    by false f e = then (has_primitive y) refl e

-- a class where an array is wanted, and an array where a class is
class_shallow : (name : List ℕ) (y : FieldDescriptor) (b : Bool) → decided_types (class name) (array y) ≡ Some b → b ≡ false
class_shallow name y b e = by (nat_lt 0 (dimensions y + 1)) (lt-ltb 0 (dimensions y + 1) (omega arith)) e
  where
    by : (w : Bool) → w ≡ true → cond w (Some false) (cond (has_primitive y || (nat_eq 0 (dimensions y + 1) && false)) (Some false) None) ≡ Some b → b ≡ false
    by true f e = sym (some_same e)
    by false f e = absurd (false≢true f)

array_undecided : (x : FieldDescriptor) (name : List ℕ) (b : Bool) → decided_types (array x) (class name) ≡ Some b → ⊥
array_undecided x name b e = by (nat_lt (dimensions x + 1) 0) refl e
  where
    last : (w : Bool) → nat_eq (dimensions x + 1) 0 ≡ w → cond (w && has_primitive x) (Some false) None ≡ Some b → ⊥
    last true f e = let g = eqb-true (dimensions x + 1) 0 f in absurd (omega (arith, g))
    last false f e = none_some e

    by : (w : Bool) → nat_lt (dimensions x + 1) 0 ≡ w → cond w (Some false) (cond (nat_eq (dimensions x + 1) 0 && has_primitive x) (Some false) None) ≡ Some b → ⊥
    by true f e = let g = ltb-true (dimensions x + 1) 0 f in absurd (omega (arith, g))
    by false f e = last (nat_eq (dimensions x + 1) 0) refl e

offsets_differ : (p q : ℕ) (b : Bool) → Some false ≡ Some b → (uninit p ≡ uninit q → ⊥) → yes_if (p == q) ≡ yes_if b
offsets_differ p q b e differ = by (p == q) refl ∙ ap yes_if (some_same e)
  where
    by : (w : Bool) → (p == q) ≡ w → yes_if w ≡ no
    by true f = absurd (differ (ap uninit (eqb-true p q f)))
    by false f = refl

types_decided : (h : List ClassFact) (t u : VerificationType) (b : Bool) → decided_types t u ≡ Some b → (t ≡ u → ⊥) → type_answer h t u ≡ yes_if b
types_decided h _ top b e n = ap yes_if (some_same e)
types_decided h int int b e n = absurd (n refl)
types_decided h float float b e n = absurd (n refl)
types_decided h long long b e n = absurd (n refl)
types_decided h double double b e n = absurd (n refl)
types_decided h null null b e n = absurd (n refl)
types_decided h uninit_this uninit_this b e n = absurd (n refl)
types_decided h (uninit p) (uninit q) b e n = offsets_differ p q b e n
types_decided h (class x) (class y) b e n = absurd (none_some e)
types_decided h (array x) (class y) b e n = absurd (array_undecided x y b e)
types_decided h (class x) (array y) b e n = ap yes_if (sym (class_shallow x y b e))
types_decided h (array x) (array y) b e n = arrays_decided h x y b e n
types_decided h _ _ b e n = ap yes_if (some_same e)

pub number_decides : (s : Numbering) (n m : ℕ) (t u : VerificationType) (b : Bool) → IsNumber s n t → IsNumber s m u → (t ≡ u → ⊥)
    → decided (n / 16777216) (n / 65536 % 256) (m / 16777216) (m / 65536 % 256) ≡ Some b → type_answer s.classes t u ≡ yes_if b
number_decides s n m t u b h k differ e =
    let p = number_tells s n t h in
    let q = number_tells s m u k in
    types_decided s.classes t u b
    (sym (λ i. cond (q.of_top i) (Some true)
    (cond (not (q.of_reference i)) (Some false)
    (cond (p.of_null i) (Some true)
    (cond (not (p.of_reference i) || nat_lt (p.deep i) (q.deep i)) (Some false)
    (cond (q.of_primitives i || (nat_eq (p.deep i) (q.deep i) && p.of_primitives i)) (Some false)
    None))))) ∙ e) differ
