-- A method of a well-formed class, and its code.
use Rattle.std.proofs.Common.{◌≡◌, ℕ, ◌<◌, ◌≤◌, false, nat_eq, nat_lt, List, [], ◌∷◌, length, Option, Some, None, refl, sym, ◌∙◌, ap, arith, slice_get}
use Rattle.std.proofs.lemmas.Bool.Decides.{nat_tests}
use Rattle.std.specs.List.{list_any}
use Rattle.std.specs.Option.{option_and_then}
use Rattle.names.specs.Descriptors.{MethodDescriptor}
use Rattle.classfile.specs.declared.form_fault.Place.TheVariants as places
use Rattle.classfile.specs.Values.{of_parts, of_numbers, raw, CodeBody, Attribute, Member, Class}
use Rattle.classfile.specs.Methods.{JudgedClass, Method, ExceptionEntry, code_of, method_with, method_from, method_of}
use Rattle.classfile.specs.MethodParts.{code_at}
use Rattle.classfile.specs.AttributeForm.{on_body, has_bad_length, have_bad_length}
use Rattle.classfile.specs.WellFormed.{WellFormed, conditions_of_method}
use Rattle.classfile.proofs.Places.{own_rule, method_is}
use Rattle.classfile.proofs.FormedNames.{none_holds, left_not, right_not}
use Rattle.insn.specs.Meanings.{Act}

some_same : {A : Type 0} (a b : A) → Some a ≡ Some b → a ≡ b
some_same a b e = cc

-- ---- the Code attribute

pub record HasCode (c : Class) (number : ℕ) (body : CodeBody) : Type 0 where
  pub member : Member
  pub numbered : slice_get c.methods number ≡ Some member
  pub has_code : code_of member.attributes ≡ Some body

pub has_code : (c : Class) (number : ℕ) (body : CodeBody) → code_at c number ≡ Some body → HasCode c number body
has_code c number body e = by (slice_get c.methods number) refl e
  where
    by : (o : Option Member) → slice_get c.methods number ≡ o → option_and_then (λ m. code_of m.attributes) o ≡ Some body
        → HasCode c number body
    by None is e = cc
    by (Some member) is e = record { member = member; numbered = is; has_code = e }

length_passes : (attributes : List Attribute) (body : CodeBody) → code_of attributes ≡ Some body
    → list_any (on_body has_bad_length) attributes ≡ false → has_bad_length body ≡ false
length_passes [] body is h = cc
length_passes (of_parts name code ∷ attributes) body is h = let same : code ≡ body = some_same code body is in
    sym (ap has_bad_length same) ∙ left_not (has_bad_length code) (list_any (on_body has_bad_length) attributes) h
length_passes (of_numbers name numbers ∷ attributes) body is h =
    length_passes attributes body is (right_not (on_body has_bad_length (of_numbers name numbers)) (list_any (on_body has_bad_length) attributes) h)
length_passes (raw name bytes ∷ attributes) body is h =
    length_passes attributes body is (right_not (on_body has_bad_length (raw name bytes)) (list_any (on_body has_bad_length) attributes) h)

length_good : (c : Class) → WellFormed c → (number : ℕ) (body : CodeBody) → HasCode c number body → has_bad_length body ≡ false
unfolding have_bad_length
length_good c formed number body x =
    let none = none_holds (conditions_of_method c number x.member)
    (own_rule _ _ (sym (method_is c number x.member x.numbered) ∙ formed.everywhere (places.Method number))) in
    length_passes x.member.attributes body x.has_code none.1.1.1.1.1.1.1.1.0

-- code_length is 1 to 65,535 (4.7.3)
pub some_code : (c : Class) → WellFormed c → (number : ℕ) (body : CodeBody) → code_at c number ≡ Some body → 0 < length body.code
some_code c formed number body e =
    let fits = left_not (nat_eq (length body.code) 0) (nat_lt 65535 (length body.code))
    (length_good c formed number body (has_code c number body e)) in
    grind (arith, nat_tests, fits)

pub little_code : (c : Class) → WellFormed c → (number : ℕ) (body : CodeBody) → code_at c number ≡ Some body → length body.code ≤ 65535
little_code c formed number body e =
    let fits = right_not (nat_eq (length body.code) 0) (nat_lt 65535 (length body.code))
    (length_good c formed number body (has_code c number body e)) in
    grind (arith, nat_tests, fits)

-- ---- the code of a class's method

module _ (c : JudgedClass) (code : List (ℕ × Act)) (m : Method Act) where
  with_code : (member : Member) (body : CodeBody) (class name : Option (List ℕ)) (type : Option MethodDescriptor)
      (exceptions : Option (List ExceptionEntry))
      → method_with c member code body class name type exceptions ≡ Some m → m.code ≡ code
  with_code member body (Some class) (Some name) (Some type) (Some exceptions) e = sym (ap (λ z. z.code) (some_same _ m e))
  with_code member body None name type exceptions e = cc
  with_code member body (Some class) None type exceptions e = cc
  with_code member body (Some class) (Some name) None exceptions e = cc
  with_code member body (Some class) (Some name) (Some type) None e = cc

  from_code : (member : Member) (o : Option CodeBody) (k : CodeBody → Option (Method Act))
      → ((b : CodeBody) → k b ≡ Some m → m.code ≡ code) → option_and_then k o ≡ Some m → m.code ≡ code
  from_code member (Some body) k f e = f body e
  from_code member None k f e = cc

  member_code : (o : Option Member) → option_and_then (method_from c code) o ≡ Some m → m.code ≡ code
  member_code (Some member) e = from_code member (code_of member.attributes) _ (λ b h. with_code member b _ _ _ _ h) e
  member_code None e = cc

  pub code_is : (number : ℕ) → method_of c number code ≡ Some m → m.code ≡ code
  code_is number e = member_code (slice_get c.file.methods number) e
