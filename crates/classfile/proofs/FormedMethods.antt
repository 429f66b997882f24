-- In a well-formed class a method with code has all that its instructions see of it.
use Rattle.std.proofs.Common.{◌≡◌, ℕ, Bool, true, false, not, cond, ◌||◌, ◌&&◌, nat_eq, List, [], ◌∷◌, Option, Some, None, Result, Ok, refl, sym, ap, ◌∙◌, inl, inr, eqb-true}
use Rattle.std.specs.Prelude.{slice_get, codes}
use Rattle.std.specs.Option.{option_and_then}
use Rattle.std.specs.List.{list_any}
use Rattle.std.specs.Str.{bytes_eq}
use Rattle.std.proofs.lemmas.Slice.Eq.{bytes_eq-Decides}
use Rattle.std.proofs.lemmas.Bool.{true≢false, false≢true, cond-true, cond-false, cases_Bool}
use Rattle.names.specs.declared.base.Primitive.TheVariants.{Byte, Char, Double, Float, Int, Long, Short, Boolean}
use Rattle.names.specs.Names.{bracket}
use Rattle.names.specs.Descriptors.{FieldDescriptor, primitive, class, array, MethodDescriptor, field_spelling}
use Rattle.names.specs.ReferenceTypes.{ReferenceType, class_type, array_type, begins_array, array_of, reference_type}
use Rattle.names.specs.StandardNames.{throwable_name}
use Rattle.names.specs.Reading.{field_answer, method_answer, read_method, read_params, read_result, ends_class_name}
use Rattle.names.proofs.AnswerLaws.{field_answered}
use Rattle.pool.specs.declared.fault.PoolFault.{PoolFault}
use Rattle.pool.specs.Entries.{Entry}
use Rattle.pool.specs.Lookups as lookups
use Rattle.pool.specs.Lookups.{named, text_at}
use Rattle.pool.specs.ConstantMeanings.{found, class_at}
use Rattle.classfile.specs.declared.form_fault.Place.TheVariants as places
use Rattle.classfile.specs.declared.indices.ConstantKind.TheVariants as kinds
use Rattle.classfile.specs.Values.{of_parts, of_numbers, raw, Handler, CodeBody, Attribute, Member, Class}
use Rattle.classfile.specs.Indices.{on_found, is_bad, is_bad_unless_zero, is_other}
use Rattle.classfile.specs.Naming.{is_array_name, is_class_name, is_clinit, is_init, is_field_descriptor, is_method_descriptor, is_void_descriptor, fits_method}
use Rattle.classfile.specs.ConstantForm.{names_class, is_array_class}
use Rattle.classfile.specs.ClassForm.{class_conditions, class_has_array}
use Rattle.classfile.specs.Flags.{has, STATIC}
use Rattle.classfile.specs.AttributeForm.{on_body, head_has_bad, head_has_other, attribute_has_bad, attribute_has_other, attributes_have_bad, attributes_have_other, code_has_bad, code_has_other, handlers_have_bad, handlers_have_other}
use Rattle.classfile.specs.MemberForm.{member_has_bad, member_has_other, may_describe_method, is_badly_described}
use Rattle.classfile.specs.WellFormed.{WellFormed, conditions_of_method}
use Rattle.classfile.specs.Methods.{ExceptionEntry, code_of, class_named, caught_type, entry_with, exception_entries}
use Rattle.classfile.proofs.Places.{own_rule, class_is, method_is}
use Rattle.classfile.proofs.NamingLaws.{ok_value, void_value}
use Rattle.classfile.proofs.FormedNames.{none_holds, not_false, left_not, right_not, class_there, both_named, texts_there, this_fits}

-- ---- classes

array_begins : (text : List ℕ) → begins_array text ≡ is_array_name text
array_begins [] = refl
array_begins (b ∷ bytes) = refl

-- the name of a class or interface
plain_class : (text : List ℕ) → begins_array text ≡ false → reference_type text ≡ Some (class_type text)
plain_class text h = cond-false (begins_array text) _ _ h

-- a name of a class does not begin as an array's does
no_class_name : (text : List ℕ) → begins_array text ≡ true → is_class_name text ≡ false
unfolding ends_class_name
no_class_name [] h = absurd (false≢true h)
no_class_name (b ∷ bytes) h = ap (λ (x : ℕ). ends_class_name true (x ∷ bytes)) (eqb-true b bracket h)

-- what a descriptor names that begins so is an array
is_array : (b : ℕ) (bytes : List ℕ) (t : FieldDescriptor) → nat_eq b bracket ≡ true → b ∷ bytes ≡ field_spelling t
    → (component : FieldDescriptor) × (t ≡ array component)
is_array b bytes t h e = by_type t (ap (λ (x : ℕ). x ∷ bytes) (sym (eqb-true b bracket h)) ∙ e)
  where
    by_type : (t : FieldDescriptor) → bracket ∷ bytes ≡ field_spelling t → (component : FieldDescriptor) × (t ≡ array component)
    by_type (array component) e = (component, refl)
    by_type (class name) e = absurd (true≢false (ap begins_array e))
    by_type (primitive Byte) e = absurd (true≢false (ap begins_array e))
    by_type (primitive Char) e = absurd (true≢false (ap begins_array e))
    by_type (primitive Double) e = absurd (true≢false (ap begins_array e))
    by_type (primitive Float) e = absurd (true≢false (ap begins_array e))
    by_type (primitive Int) e = absurd (true≢false (ap begins_array e))
    by_type (primitive Long) e = absurd (true≢false (ap begins_array e))
    by_type (primitive Short) e = absurd (true≢false (ap begins_array e))
    by_type (primitive Boolean) e = absurd (true≢false (ap begins_array e))

right_of : (a b : Bool) → a ≡ false → (a || b) ≡ true → b ≡ true
right_of true b h e = absurd (true≢false h)
right_of false b h e = e

second : (a b : Bool) → (a && b) ≡ true → b ≡ true
second true b e = e
second false b e = absurd (false≢true e)

array_there : (text : List ℕ) → begins_array text ≡ true → names_class text ≡ true → (t : ReferenceType) × (reference_type text ≡ Some t)
array_there [] begins form = absurd (false≢true begins)
array_there (b ∷ bytes) begins form =
    let text = b ∷ bytes in
    let described =
    second (is_array_name text) (is_field_descriptor text) (right_of (is_class_name text) _ (no_class_name text begins) form) in
    let type = ok_value (field_answer text) described in
    let array_is = is_array b bytes type.0 begins (field_answered text type.0 type.1).0.spelled in (
      array_type array_is.0,
      cond-true (begins_array text) _ _ begins ∙ ap array_of (type.1 ∙ ap (λ (t : FieldDescriptor). Ok t) array_is.1),
    )

reference_there : (text : List ℕ) → names_class text ≡ true → (t : ReferenceType) × (reference_type text ≡ Some t)
reference_there text form =
    elim (cases_Bool (begins_array text)) [
      | inl begins ↦ array_there text begins form
      | inr plain ↦ (class_type text, plain_class text plain)
    ]

this_named : (c : Class) → WellFormed c → (name : List ℕ) × (class_named (class_at c.constant_pool c.this_class) ≡ Some name)
unfolding class_has_array is_array_class
this_named c formed =
    let pool = c.constant_pool in
    let none = none_holds (class_conditions c) (own_rule _ _ (sym (class_is c) ∙ formed.everywhere places.Class)) in
    let fit = this_fits c none.0 none.1.0 in
    let there = class_there c formed c.this_class fit.0 fit.1 in
    let plain : is_array_name there.name ≡ false =
    sym (ap (on_found is_array_name) there.is) ∙ left_not _ _ (left_not _ _ none.1.1.0) in (
      there.name,
      ap (λ (r : Result (List ℕ) PoolFault). class_named (option_and_then reference_type (found r))) there.is
          ∙ ap class_named (plain_class there.name (array_begins there.name ∙ plain)),
    )

-- ---- exception tables

class_caught : (c : Class) → WellFormed c → (index : ℕ) → is_bad c.constant_pool index ≡ false
    → is_other c.constant_pool kinds.Class index ≡ false
    → (t : ReferenceType) × (class_at c.constant_pool index ≡ Some t)
class_caught c formed index bad other =
    let there = class_there c formed index bad other in
    let type = reference_there there.name there.form in
    (type.0, ap (λ (r : Result (List ℕ) PoolFault). option_and_then reference_type (found r)) there.is ∙ type.1)

caught : (c : Class) → WellFormed c → (index : ℕ) → is_bad_unless_zero c.constant_pool index ≡ false
    → is_other c.constant_pool kinds.Class index ≡ false
    → (t : ReferenceType) × (caught_type c.constant_pool index ≡ Some t)
caught c formed index bad other =
    elim (cases_Bool (nat_eq index 0)) [
      | inl all ↦ (class_type throwable_name, cond-true (nat_eq index 0) _ _ all)
      | inr some ↦
          let class = class_caught c formed index (sym (ap (λ (b : Bool). not b && is_bad c.constant_pool index) some) ∙ bad) other in
          (class.0, cond-false (nat_eq index 0) _ _ some ∙ class.1)
    ]

entries_there : (c : Class) → WellFormed c → (hs : List Handler) → handlers_have_bad c.constant_pool hs ≡ false
    → handlers_have_other c.constant_pool hs ≡ false
    → (es : List ExceptionEntry) × (exception_entries c.constant_pool hs ≡ Some es)
unfolding handlers_have_bad handlers_have_other
entries_there c formed [] bad other = ([], refl)
entries_there c formed (h ∷ hs) bad other =
    let pool = c.constant_pool in
    let first = caught c formed h.catch_type (left_not _ _ bad) (left_not _ _ other) in
    let others = entries_there c formed hs (right_not _ _ bad) (right_not _ _ other) in (
      record { from = h.start_pc; to = h.end_pc; handler = h.handler_pc; caught = first.0 } ∷ others.0,
      ap (λ (t : Option ReferenceType). entry_with h t (exception_entries pool hs)) first.1 ∙ ap (entry_with h (Some first.0)) others.1,
    )

-- what holds of no attribute does not hold of the Code attribute
code_passes : (first : Attribute → Bool) (test : CodeBody → Bool) (attributes : List Attribute) (body : CodeBody)
    → code_of attributes ≡ Some body
    → list_any (λ a. first a || on_body test a) attributes ≡ false → test body ≡ false
code_passes first test [] body is h = absurd cc
code_passes first test (of_parts name code ∷ attributes) body is h =
    let same : code ≡ body = cc in
    sym (ap test same) ∙ right_not (first (of_parts name code)) (test code) (left_not _ _ h)
code_passes first test (of_numbers name numbers ∷ attributes) body is h = code_passes first test attributes body is (right_not _ _ h)
code_passes first test (raw name bytes ∷ attributes) body is h = code_passes first test attributes body is (right_not _ _ h)

handlers_fit : (pool : List Entry) (attributes : List Attribute) (body : CodeBody) → code_of attributes ≡ Some body
    → attributes_have_bad pool attributes ≡ false → attributes_have_other pool attributes ≡ false
    → (handlers_have_bad pool body.exception_table ≡ false) × (handlers_have_other pool body.exception_table ≡ false)
unfolding attributes_have_bad attribute_has_bad code_has_bad attributes_have_other attribute_has_other code_has_other
handlers_fit pool attributes body is bad other = (
  left_not _ _ (code_passes (head_has_bad pool) (code_has_bad pool) attributes body is bad),
  left_not _ _ (code_passes (head_has_other pool) (code_has_other pool) attributes body is other),
)

-- ---- descriptors

no_params : (receiver : Bool) → method_answer receiver (codes "()V") ≡ Ok (record { params = []; result = None })
unfolding method_answer read_method read_params read_result
no_params true = refl
no_params false = refl

described : (receiver : Bool) (x : lookups.Named) → may_describe_method receiver x ≡ true
    → (t : MethodDescriptor) × (method_answer receiver x.descriptor ≡ Ok t)
described receiver x h = by_clinit (is_clinit x.name) h
  where
    by_init : (b : Bool) → cond b (is_void_descriptor receiver x.descriptor) (is_method_descriptor receiver x.descriptor) ≡ true
        → (t : MethodDescriptor) × (method_answer receiver x.descriptor ≡ Ok t)
    by_init true h = let v = void_value (method_answer receiver x.descriptor) h in (v.0, v.1)
    by_init false h = ok_value (method_answer receiver x.descriptor) h

    by_clinit : (b : Bool) → cond b (bytes_eq x.descriptor (codes "()V")) (fits_method receiver x.name x.descriptor) ≡ true
        → (t : MethodDescriptor) × (method_answer receiver x.descriptor ≡ Ok t)
    by_clinit true h =
        (record { params = []; result = None }, ap (method_answer receiver) ((bytes_eq-Decides x.descriptor (codes "()V")).0 h) ∙ no_params receiver)
    by_clinit false h = by_init (is_init x.name) h

-- ---- the method

-- what the class names for a method with this Code attribute
pub record NamesMethod (c : Class) (m : Member) (body : CodeBody) : Type 0 where
  pub class : List ℕ
  pub class_is : class_named (class_at c.constant_pool c.this_class) ≡ Some class
  pub name : List ℕ
  pub name_is : text_at c.constant_pool m.name ≡ Ok name
  pub descriptor : List ℕ
  pub descriptor_is : text_at c.constant_pool m.descriptor ≡ Ok descriptor
  pub type : MethodDescriptor
  pub type_is : method_answer (not (has m.access_flags STATIC)) descriptor ≡ Ok type
  pub entries : List ExceptionEntry
  pub entries_are : exception_entries c.constant_pool body.exception_table ≡ Some entries

pub formed_method : (c : Class) → WellFormed c → (n : ℕ) (m : Member) (body : CodeBody) → slice_get c.methods n ≡ Some m
    → code_of m.attributes ≡ Some body → NamesMethod c m body
unfolding member_has_bad member_has_other is_badly_described has
formed_method c formed n m body here coded =
    let pool = c.constant_pool in
    let none = none_holds (conditions_of_method c n m) (own_rule _ _ (sym (method_is c n m here) ∙ formed.everywhere (places.Method n))) in
    let class = this_named c formed in
    let texts = texts_there pool m none.0 none.1.0 in
    let fit = handlers_fit pool m.attributes body coded (right_not _ _ none.0) (right_not _ _ none.1.0) in
    let entries = entries_there c formed body.exception_table fit.0 fit.1 in
    let x : lookups.Named = record { name = texts.name; descriptor = texts.descriptor } in
    let receiver = not (has m.access_flags STATIC) in
    let named_is = both_named pool m.name m.descriptor texts.name texts.descriptor texts.name_is texts.descriptor_is in
    let may = not_false (may_describe_method receiver x) (sym (ap (on_found (λ x. not (may_describe_method receiver x))) named_is) ∙ none.1.1.1.0) in
    let type = described receiver x may in
    record {
      class = class.0;
      class_is = class.1;
      name = texts.name;
      name_is = texts.name_is;
      descriptor = texts.descriptor;
      descriptor_is = texts.descriptor_is;
      type = type.0;
      type_is = type.1;
      entries = entries.0;
      entries_are = entries.1;
    }
