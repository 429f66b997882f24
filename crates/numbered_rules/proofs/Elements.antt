-- Numbers of arrays, of their elements, and of arrays of them.
use Rattle.std.proofs.Common.{◌≡◌, ◌≢◌, ◌∙◌, ℕ, zero, suc, ◌+◌, ◌-◌, ◌*◌, ◌/◌, ◌%◌, ◌<◌, ◌≤◌, Bool, true, false, cond, nat_lt, nat_eq, ◌&&◌, ◌||◌, List, [], ◌∷◌, Option, Some, None, slice_get, position, Result, refl, sym, ap, subst, arith}
use Rattle.std.specs.Str.{bytes_eq}
use Rattle.std.proofs.lemmas.Bool.{lt-ltb}
use Rattle.std.proofs.lemmas.Bool.Decides.{nat_tests}
use Rattle.names.specs.Descriptors.{FieldDescriptor, primitive, class as class_type, array as array_type, dimensions, dimensioned}
use Rattle.names.specs.ReferenceTypes.{ReferenceType, class_type as of_class, array_type as of_array, descriptor_of, dimensions_of}
use Rattle.classfile.specs.Methods.{Method}
use Rattle.hierarchy.specs.Class.{ClassFact}
use Rattle.hierarchy.specs.Places.{place_in}
use Rattle.hierarchy.proofs.Names.{none_some, some_same}
use Rattle.insn.specs.Meanings.{Act}
use Rattle.insn.specs.OperandStacks.{beneath}
use Rattle.insn.specs.declared.kinds.Kind.TheVariants.{Int}
use Rattle.frames.specs.Conditions.{reason}
use Rattle.frames.specs.FrameFact.{FrameFact}
use Rattle.frames.specs.VerificationType.{VerificationType, top, null, array}
use Rattle.frames.specs.Packing.{element_code}
use Rattle.frames.specs.Slots.{to_reference}
use Rattle.type_numbers.specs.Numbers.{Numbering, IsNumber, absent_limit, number_by, numbered, array_number}
use Rattle.type_numbers.specs.Decoding.{type_with, type_at, type_by, types_by, element_at}
use Rattle.type_numbers.proofs.Decoded.{far, one_type, read_back}
use Rattle.type_numbers.proofs.NumberParts.{parts_of, dims_back}
use Rattle.rules.specs.declared.reason.Reason.{Reason}
use Rattle.rules.specs.Table.{object_array}
use Rattle.rules.specs.TypingRules.{ExpectedType, number, pops, loads_element}
use Rattle.rules.specs.After.{after, element_of, top_of, rest_of, with_stack}
use Rattle.rules.specs.Outcomes.{Done}
use Rattle.rules.specs.Rules.{conditions, gives_frame, is_too_wide, operand_conditions}
use Rattle.numbered_rules.specs.private.TypeParts.{holds_references, holds_references_by}

-- ---- one dimension less, or more

numbered_less : (tag d rest n : ℕ) → numbered tag (d + 1) rest ≡ Some n → numbered tag d rest ≡ Some (n - 65536)
numbered_less tag d rest n e =
    let h = parts_of tag (d + 1) rest n e in
    let few = h.few in
    let small = h.small in
    let is = h.is in
    let same : tag * 16777216 + d * 65536 + rest ≡ n - 65536 = omega arith in
    rw (lt-ltb d 256 (omega arith), lt-ltb rest 65536 small) (ap (λ k. Some k) same)

numbered_more : (tag d rest n : ℕ) → numbered tag d rest ≡ Some n → n / 65536 % 256 < 255 → numbered tag (d + 1) rest ≡ Some (n + 65536)
numbered_more tag d rest n e room =
    let h = parts_of tag d rest n e in
    let back = dims_back tag d rest n h in
    let small = h.small in
    let is = h.is in
    let same : tag * 16777216 + (d + 1) * 65536 + rest ≡ n + 65536 = omega arith in
    rw (lt-ltb (d + 1) 256 (omega (arith, back, room)), lt-ltb rest 65536 small) (ap (λ k. Some k) same)

less_by : (d n : ℕ) (o k : Option ℕ) → number_by (d + 1) o k ≡ Some n → number_by d o k ≡ Some (n - 65536)
less_by d n (Some place) k e = numbered_less 7 d place n e
less_by d n None None e = absurd (none_some e)
less_by d n None (Some k) e = by (nat_lt k absent_limit) e
  where
    by : (b : Bool) → cond b (numbered (10 + k / 65536) (d + 1) (k % 65536)) None ≡ Some n → cond b (numbered (10 + k / 65536) d (k % 65536)) None ≡ Some (n - 65536)
    by true e = numbered_less (10 + k / 65536) d (k % 65536) n e
    by false e = absurd (none_some e)

more_by : (d n : ℕ) (o k : Option ℕ) → number_by d o k ≡ Some n → n / 65536 % 256 < 255 → number_by (d + 1) o k ≡ Some (n + 65536)
more_by d n (Some place) k e room = numbered_more 7 d place n e room
more_by d n None None e room = absurd (none_some e)
more_by d n None (Some k) e room = by (nat_lt k absent_limit) e
  where
    by : (b : Bool) → cond b (numbered (10 + k / 65536) d (k % 65536)) None ≡ Some n → cond b (numbered (10 + k / 65536) (d + 1) (k % 65536)) None ≡ Some (n + 65536)
    by true e = numbered_more (10 + k / 65536) d (k % 65536) n e room
    by false e = absurd (none_some e)

module _ (s : Numbering) where
  array_less : (d n : ℕ) (x : FieldDescriptor) → array_number s.classes s.absent (d + 1) x ≡ Some n → array_number s.classes s.absent d x ≡ Some (n - 65536)
  array_less d n (primitive p) e = numbered_less 9 d (element_code p) n e
  array_less d n (class_type name) e = less_by d n (place_in s.classes name) (position (bytes_eq name) s.absent) e
  array_less d n (array_type x) e = array_less (d + 1) n x e

  array_more : (d n : ℕ) (x : FieldDescriptor) → array_number s.classes s.absent d x ≡ Some n → n / 65536 % 256 < 255 → array_number s.classes s.absent (d + 1) x ≡ Some (n + 65536)
  array_more d n (primitive p) e room = numbered_more 9 d (element_code p) n e room
  array_more d n (class_type name) e room = more_by d n (place_in s.classes name) (position (bytes_eq name) s.absent) e room
  array_more d n (array_type x) e room = array_more (d + 1) n x e room

  -- the number of the type of arrays of a reference type
  pub array_number_more : (n : ℕ) (t : ReferenceType) → IsNumber s n (to_reference t) → n / 65536 % 256 < 255 → IsNumber s (n + 65536) (array (descriptor_of t))
  array_number_more n (of_class name) h room = record { number = more_by 0 n (place_in s.classes name) (position (bytes_eq name) s.absent) h.number room; noted = h.noted }
  array_number_more n (of_array x) h room = record { number = array_more 1 n x h.number room; noted = h.noted }

  -- the number of the type of an element
  pub element_number : (n : ℕ) (t : VerificationType) → IsNumber s n t → holds_references t ≡ true → IsNumber s (n - 65536) (element_of t)
  element_number n (array (primitive p)) h e = cc
  element_number n (array (class_type name)) h e = record { number = less_by 0 n (place_in s.classes name) (position (bytes_eq name) s.absent) h.number; noted = h.noted }
  element_number n (array (array_type x)) h e = record { number = array_less 1 n x h.number; noted = h.noted }
  element_number n _ h e = cc

  top_number : IsNumber s 0 top
  top_number = record { number = refl; noted = tt }

  null_number : IsNumber s 83886080 null
  null_number = record { number = refl; noted = tt }

  pub no_element_number : (n : ℕ) (t : VerificationType) → IsNumber s n t → n ≢ 83886080 → holds_references t ≡ false → IsNumber s 0 (element_of t)
  no_element_number n null h other e = absurd (other (some_same (sym h.number)))
  no_element_number n (array (primitive p)) h other e = top_number
  no_element_number n (array _) h other e = cc
  no_element_number n _ h other e = top_number

  pub null_element_number : (n : ℕ) (t : VerificationType) → IsNumber s n t → n ≡ 83886080 → IsNumber s 83886080 (element_of t)
  null_element_number n t h e = subst (λ u. IsNumber s 83886080 (element_of u)) (one_type s 83886080 null t null_number (subst (λ k. IsNumber s k t) e h)) null_number

-- ---- the dimensions of a reference type

numbered_dims : (tag dims rest n : ℕ) → numbered tag dims rest ≡ Some n → n / 65536 % 256 ≡ dims
numbered_dims tag dims rest n e = dims_back tag dims rest n (parts_of tag dims rest n e)

dims_by : (d n : ℕ) (o k : Option ℕ) → number_by d o k ≡ Some n → n / 65536 % 256 ≡ d
dims_by d n (Some place) k e = numbered_dims 7 d place n e
dims_by d n None None e = absurd (none_some e)
dims_by d n None (Some k) e = by (nat_lt k absent_limit) e
  where
    by : (b : Bool) → cond b (numbered (10 + k / 65536) d (k % 65536)) None ≡ Some n → n / 65536 % 256 ≡ d
    by true e = numbered_dims (10 + k / 65536) d (k % 65536) n e
    by false e = absurd (none_some e)

array_dims : (s : Numbering) (d n : ℕ) (x : FieldDescriptor) → array_number s.classes s.absent d x ≡ Some n → n / 65536 % 256 ≡ d + dimensions x
array_dims s d n (primitive p) e = let is = numbered_dims 9 d (element_code p) n e in omega (arith, is)
array_dims s d n (class_type name) e = let is = dims_by d n (place_in s.classes name) (position (bytes_eq name) s.absent) e in omega (arith, is)
array_dims s d n (array_type x) e = let is = array_dims s (d + 1) n x e in omega (arith, is)

pub reference_dims : (s : Numbering) (n : ℕ) (t : ReferenceType) → IsNumber s n (to_reference t) → n / 65536 % 256 ≡ dimensions_of t
reference_dims s n (of_class name) h = dims_by 0 n (place_in s.classes name) (position (bytes_eq name) s.absent) h.number
reference_dims s n (of_array x) h = let is = array_dims s 1 n x h.number in omega (arith, is)

-- ---- the item beneath the top of a stack

pub second_some : (s : Numbering) (stack : List ℕ) (n : ℕ) → Some n ≡ slice_get stack 1 → top_of (rest_of (types_by s stack)) ≡ type_by s n
second_some s [] n e = absurd (none_some (sym e))
second_some s (x ∷ []) n e = absurd (none_some (sym e))
second_some s (x ∷ y ∷ stack) n e = ap (type_by s) (sym (some_same e))

pub second_none : (s : Numbering) (stack : List ℕ) → None ≡ slice_get stack 1 → top_of (rest_of (types_by s stack)) ≡ top
second_none s [] e = refl
second_none s (x ∷ []) e = refl
second_none s (x ∷ y ∷ stack) e = absurd (none_some e)

-- ---- arrays of references, by the parts of a number

named_holds : (dims : ℕ) (o : Option (List ℕ)) (t : VerificationType) → type_with dims o ≡ Some t → nat_lt 0 dims ≡ holds_references t
named_holds dims None t e = absurd (none_some e)
named_holds zero (Some name) t e = ap holds_references (some_same e)
named_holds (suc zero) (Some name) t e = ap holds_references (some_same e)
named_holds (suc (suc d)) (Some name) t e = let some : nat_lt 0 (suc (suc d)) ≡ true = grind (arith, nat_tests) in some ∙ ap holds_references (some_same e)

primitives_hold : (dims rest : ℕ) → (nat_lt 1 dims || false) ≡ holds_references (array (dimensioned (dims - 1) (primitive (element_at rest))))
primitives_hold zero rest = refl
primitives_hold (suc zero) rest = refl
primitives_hold (suc (suc d)) rest =
    let some : nat_lt 1 (suc (suc d)) ≡ true = grind (arith, nat_tests) in
    let less : suc (suc d) - 1 ≡ suc d = omega arith in
    ap (λ b. b || false) some ∙ sym (ap (λ k. holds_references (array (dimensioned k (primitive (element_at rest))))) less)

module _ (s : Numbering) (dims rest : ℕ) (t : VerificationType) where
  holds_tag : (tag : ℕ) → type_at s tag dims rest ≡ Some t → holds_references_by tag dims ≡ holds_references t
  holds_tag zero e = ap holds_references (some_same e)
  holds_tag (suc zero) e = ap holds_references (some_same e)
  holds_tag (suc (suc zero)) e = ap holds_references (some_same e)
  holds_tag (suc (suc (suc zero))) e = ap holds_references (some_same e)
  holds_tag (suc (suc (suc (suc zero)))) e = ap holds_references (some_same e)
  holds_tag (suc (suc (suc (suc (suc zero))))) e = ap holds_references (some_same e)
  holds_tag (suc (suc (suc (suc (suc (suc zero)))))) e = ap holds_references (some_same e)
  holds_tag (suc (suc (suc (suc (suc (suc (suc zero))))))) e = named_holds dims _ t e
  holds_tag (suc (suc (suc (suc (suc (suc (suc (suc zero)))))))) e = ap holds_references (some_same e)
  holds_tag (suc (suc (suc (suc (suc (suc (suc (suc (suc zero))))))))) e = primitives_hold dims rest ∙ ap holds_references (some_same e)
  holds_tag (suc (suc (suc (suc (suc (suc (suc (suc (suc (suc k)))))))))) e = far_holds (suc (suc (suc (suc (suc (suc (suc (suc (suc (suc k)))))))))) (omega arith) e
    where
      far_holds : (tag : ℕ) → 10 ≤ tag → type_at s tag dims rest ≡ Some t → holds_references_by tag dims ≡ holds_references t
      far_holds tag h e =
          let b : nat_eq tag 9 ≡ false = grind (arith, nat_tests) in
          let c : nat_eq tag 7 ≡ false = grind (arith, nat_tests) in
          let d : nat_lt 9 tag ≡ true = grind (arith, nat_tests) in
          rw (b, c, d) (named_holds dims _ t (sym (far s tag dims rest h) ∙ e))

pub holds_parts : (s : Numbering) (n : ℕ) (t : VerificationType) → IsNumber s n t → holds_references_by (n / 16777216) (n / 65536 % 256) ≡ holds_references t
holds_parts s n t h = holds_tag s (n / 65536 % 256) (n % 65536) t (n / 16777216) (read_back s n t h)

-- ---- aaload

beneath_two : (a b : ExpectedType) (ts : List VerificationType) → beneath (a ∷ b ∷ []) ts ≡ rest_of (rest_of ts)
beneath_two a b [] = refl
beneath_two a b (t ∷ []) = refl
beneath_two a b (t ∷ u ∷ ts) = refl

pub element_loaded : (cs : List ClassFact) (m : Method Act) (at : ℕ) (f now : FrameFact) (r : Result Unit Reason) (u : VerificationType) → u ≡ element_of (top_of (rest_of f.stack))
    → Done (conditions cs m 0 (pops (number Int ∷ object_array ∷ []) (u ∷ []) [] true) f) (after m 0 (pops (number Int ∷ object_array ∷ []) (u ∷ []) [] true) f) now r
    → Done (conditions cs m at loads_element f) (after m at loads_element f) now r
element_loaded cs m at f now r u is d =
    let ws = number Int ∷ object_array ∷ [] in
    let same : after m 0 (pops ws (u ∷ []) [] true) f ≡ after m at loads_element f = λ i. with_stack f (is i ∷ beneath_two (number Int) object_array f.stack i) in
    subst (λ z. Done ((reason 65, gives_frame (operand_conditions cs ws f.stack) && is_too_wide m z) ∷ operand_conditions cs ws f.stack) z now r) same d
