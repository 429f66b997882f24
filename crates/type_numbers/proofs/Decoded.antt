-- The type that has a number, got back from its parts.
use Rattle.std.proofs.Common.{◌≡◌, ◌≢◌, ◌∙◌, ℕ, zero, suc, ◌+◌, ◌*◌, ◌-◌, ◌/◌, ◌%◌, ◌<◌, ◌≤◌, Bool, true, false, cond, nat_lt, nat_eq, List, Option, Some, None, slice_get, position, refl, sym, ap, subst, arith}
use Rattle.std.specs.Str.{bytes_eq}
use Rattle.std.proofs.lemmas.Bool.{ltb-true}
use Rattle.std.proofs.lemmas.Bool.Decides.{nat_tests}
use Rattle.names.specs.declared.base.Primitive.{Primitive}
use Rattle.names.specs.declared.base.Primitive.TheVariants.{Byte, Char, Double, Float, Int, Long, Short, Boolean}
use Rattle.names.specs.Descriptors.{FieldDescriptor, primitive, class as class_type, array as array_type, dimensioned}
use Rattle.hierarchy.specs.Places.{place_in}
use Rattle.hierarchy.proofs.Names.{none_some, some_same}
use Rattle.frames.specs.VerificationType.{VerificationType, top, int, float, long, double, null, class, array, uninit_this, uninit}
use Rattle.frames.specs.Packing.{element_code}
use Rattle.type_numbers.specs.Numbers.{Numbering, IsNoted, IsBaseNoted, IsNumber, absent_limit, absent_number, number_by, numbered, class_number, array_number, present_at}
use Rattle.type_numbers.specs.Decoding.{element_at, type_named, type_with, name_at, type_at, or_top, type_by}
use Rattle.type_numbers.proofs.Growing.{named_at}
use Rattle.type_numbers.proofs.NumberParts.{HasParts, parts_of, tag_back, dims_back, rest_back, dimension_inside}

element_back : (p : Primitive) → element_at (element_code p) ≡ p
element_back Boolean = refl
element_back Char = refl
element_back Float = refl
element_back Double = refl
element_back Byte = refl
element_back Short = refl
element_back Int = refl
element_back Long = refl

named_array : (d : ℕ) (name : List ℕ) → 1 ≤ d → type_named d name ≡ array (dimensioned (d - 1) (class_type name))
named_array zero name h = absurd (omega (arith, h))
named_array (suc k) name h = let less : k ≡ suc k - 1 = omega arith in ap (λ j. array (dimensioned j (class_type name))) less

-- the name of a class by its tag
pub present_name : (s : Numbering) (tag rest : ℕ) → tag ≡ 7 → name_at s tag rest ≡ present_at s rest
present_name s tag rest e = rw e refl

pub absent_name : (s : Numbering) (tag rest : ℕ) → tag ≢ 7 → name_at s tag rest ≡ slice_get s.absent ((tag - 10) * 65536 + rest)
absent_name s tag rest n = let e : nat_eq tag 7 ≡ false = grind (arith, nat_tests) in rw e refl

-- the tags of absent classes
pub far : (s : Numbering) (tag dims rest : ℕ) → 10 ≤ tag → type_at s tag dims rest ≡ type_with dims (slice_get s.absent ((tag - 10) * 65536 + rest))
far s tag dims rest h =
    let a : nat_eq tag 0 ≡ false = grind (arith, nat_tests) in
    let b : nat_eq tag 1 ≡ false = grind (arith, nat_tests) in
    let c : nat_eq tag 2 ≡ false = grind (arith, nat_tests) in
    let d : nat_eq tag 3 ≡ false = grind (arith, nat_tests) in
    let e : nat_eq tag 4 ≡ false = grind (arith, nat_tests) in
    let f : nat_eq tag 5 ≡ false = grind (arith, nat_tests) in
    let i : nat_eq tag 6 ≡ false = grind (arith, nat_tests) in
    let j : nat_eq tag 8 ≡ false = grind (arith, nat_tests) in
    let k : nat_eq tag 9 ≡ false = grind (arith, nat_tests) in
    let l : nat_eq tag 7 ≡ false = grind (arith, nat_tests) in
    rw (a, b, c, d, e, f, i, j, k, l) refl

module _ (s : Numbering) where
  -- the type is got back from the parts of the number
  record Decodes (n : ℕ) (t : VerificationType) : Type 0 where
    tag : ℕ
    dims : ℕ
    rest : ℕ
    low : tag < 255
    parts : HasParts tag dims rest n
    back : type_at s tag dims rest ≡ Some t

  decodes : (tag dims rest n : ℕ) (t : VerificationType) → tag < 255 → numbered tag dims rest ≡ Some n → type_at s tag dims rest ≡ Some t → Decodes n t
  decodes tag dims rest n t low e back = record { tag = tag; dims = dims; rest = rest; low = low; parts = parts_of tag dims rest n e; back = back }

  absent_decodes : (dims k n : ℕ) (name : List ℕ) → slice_get s.absent k ≡ Some name → absent_number dims k ≡ Some n → Decodes n (type_named dims name)
  absent_decodes dims k n name at e = by (nat_lt k absent_limit) refl e
    where
      by : (b : Bool) → nat_lt k absent_limit ≡ b → cond b (numbered (10 + k / 65536) dims (k % 65536)) None ≡ Some n → Decodes n (type_named dims name)
      by false h e = absurd (none_some e)
      by true h e =
          let less = ltb-true k absent_limit h in
          let low : 10 + k / 65536 < 255 = omega arith in
          let high : 10 ≤ 10 + k / 65536 = omega arith in
          let same : ((10 + k / 65536) - 10) * 65536 + k % 65536 ≡ k = omega arith in
          decodes (10 + k / 65536) dims (k % 65536) n (type_named dims name) low e
          (far s (10 + k / 65536) dims (k % 65536) high ∙ ap (λ j. type_with dims (slice_get s.absent j)) same ∙ ap (type_with dims) at)

  class_decodes : (dims n : ℕ) (name : List ℕ) → IsNoted s name → class_number s.classes s.absent dims name ≡ Some n → Decodes n (type_named dims name)
  class_decodes dims n name noted e = by (place_in s.classes name) refl (position (bytes_eq name) s.absent) refl e
    where
      by : (o : Option ℕ) → place_in s.classes name ≡ o → (q : Option ℕ) → position (bytes_eq name) s.absent ≡ q → number_by dims o q ≡ Some n → Decodes n (type_named dims name)
      by (Some place) is q f e = decodes 7 dims place n (type_named dims name) (omega arith) e (ap (type_with dims) (noted place is))
      by None is (Some k) f e = absent_decodes dims k n name (named_at s.absent name k f) e
      by None is None f e = absurd (none_some e)

  array_decodes : (d n : ℕ) (x : FieldDescriptor) → 1 ≤ d → IsBaseNoted s x → array_number s.classes s.absent d x ≡ Some n → Decodes n (array (dimensioned (d - 1) x))
  array_decodes d n (primitive p) h noted e = decodes 9 d (element_code p) n _ (omega arith) e (ap (λ q. Some (array (dimensioned (d - 1) (primitive q)))) (element_back p))
  array_decodes d n (class_type name) h noted e = subst (Decodes n) (named_array d name h) (class_decodes d n name noted e)
  array_decodes d n (array_type x) h noted e =
      let more : (d + 1) - 1 ≡ suc (d - 1) = omega (arith, h) in
      let same : array (dimensioned ((d + 1) - 1) x) ≡ array (dimensioned (d - 1) (array_type x)) = ap (λ k. array (dimensioned k x)) more ∙ ap array (dimension_inside (d - 1) x) in
      subst (Decodes n) same (array_decodes (d + 1) n x (omega arith) noted e)

  number_decodes : (n : ℕ) (t : VerificationType) → IsNumber s n t → Decodes n t
  number_decodes n top h = decodes 0 0 0 n top (omega arith) h.number refl
  number_decodes n int h = decodes 1 0 0 n int (omega arith) h.number refl
  number_decodes n float h = decodes 2 0 0 n float (omega arith) h.number refl
  number_decodes n double h = decodes 3 0 0 n double (omega arith) h.number refl
  number_decodes n long h = decodes 4 0 0 n long (omega arith) h.number refl
  number_decodes n null h = decodes 5 0 0 n null (omega arith) h.number refl
  number_decodes n uninit_this h = decodes 6 0 0 n uninit_this (omega arith) h.number refl
  number_decodes n (uninit offset) h = decodes 8 0 offset n (uninit offset) (omega arith) h.number refl
  number_decodes n (class name) h = class_decodes 0 n name h.noted h.number
  number_decodes n (array x) h = array_decodes 1 n x (omega arith) h.noted h.number

  -- by the parts that the program finds
  pub read_back : (n : ℕ) (t : VerificationType) → IsNumber s n t → type_at s (n / 16777216) (n / 65536 % 256) (n % 65536) ≡ Some t
  read_back n t h =
      let d = number_decodes n t h in
      (λ i. type_at s (tag_back d.tag d.dims d.rest n d.parts i) (dims_back d.tag d.dims d.rest n d.parts i) (rest_back d.tag d.dims d.rest n d.parts i)) ∙ d.back

  pub below_absent : (n : ℕ) (t : VerificationType) → IsNumber s n t → n < 4294967295
  below_absent n t h =
      let d = number_decodes n t h in
      let low = d.low in
      let few = d.parts.few in
      let small = d.parts.small in
      let is = d.parts.is in
      omega arith

  -- two types of one number are equal
  pub one_type : (n : ℕ) (t u : VerificationType) → IsNumber s n t → IsNumber s n u → t ≡ u
  one_type n t u h k = some_same (sym (read_back n t h) ∙ read_back n u k)

pub number_read : (s : Numbering) (n : ℕ) (t : VerificationType) → IsNumber s n t → type_by s n ≡ t
number_read s n t h = ap or_top (read_back s n t h)
