-- Which forms a text cannot have, by its first byte.
use Rattle.std.proofs.Common.{◌≡◌, ℕ, Bool, true, false, ◌&&◌, ◌||◌, List, [], ◌∷◌, refl, sym, subst, ◌∙◌, eqb-true}
use Rattle.std.proofs.lemmas.Bool.{false≢true}
use Rattle.names.specs.Names.{bracket}
use Rattle.names.specs.Descriptors.{left_parenthesis}
use Rattle.names.specs.Reading.{ends_class_name, read_base, read_field, read_method, field_answer, method_answer}
use Rattle.classfile.specs.Naming.{begins_with, is_array_name, is_class_name, is_field_descriptor, is_method_descriptor, is_void_descriptor}
use Rattle.classfile.specs.declared.text_forms.DescriptorForm.{DescriptorForm}
use Rattle.classfile.specs.ConstantForm.{names_class}
use Rattle.classfile.specs.private.TextForms.{descriptor_form_of, AreMethodForms}

-- ---- a '(' begins no field's descriptor, and every method's

no_field_there : (rest : List ℕ) → is_field_descriptor (left_parenthesis ∷ rest) ≡ false
unfolding field_answer read_field read_base
no_field_there rest = refl

no_field : (text : List ℕ) → begins_with left_parenthesis text ≡ true → is_field_descriptor text ≡ false
no_field [] h = absurd (false≢true h)
no_field (b ∷ rest) h = subst (λ x. is_field_descriptor (x ∷ rest) ≡ false) (sym (eqb-true b left_parenthesis h)) (no_field_there rest)

no_method : (receiver : Bool) (text : List ℕ) → begins_with left_parenthesis text ≡ false → (is_method_descriptor receiver text ≡ false) × (is_void_descriptor receiver text ≡ false)
unfolding method_answer read_method
no_method receiver [] h = (refl, refl)
no_method receiver (b ∷ rest) h = rw h (refl, refl)

pub as_method : (text : List ℕ) (form : DescriptorForm) → begins_with left_parenthesis text ≡ true → AreMethodForms text form → form ≡ descriptor_form_of text
as_method text form begins are = by_parts form.field form.method form.void form.receiver_method form.receiver_void (are.no_field ∙ sym (no_field text begins)) are.method are.void are.receiver_method are.receiver_void
  where
    by_parts : (field method void receiver_method receiver_void : Bool) → field ≡ is_field_descriptor text → method ≡ is_method_descriptor false text → void ≡ is_void_descriptor false text
        → receiver_method ≡ is_method_descriptor true text → receiver_void ≡ is_void_descriptor true text
        → record { field = field; method = method; void = void; receiver_method = receiver_method; receiver_void = receiver_void } ≡ descriptor_form_of text
    by_parts field method void receiver_method receiver_void a b c d e = rw (a, b, c, d, e) refl

pub as_field : (text : List ℕ) (field : Bool) → begins_with left_parenthesis text ≡ false → field ≡ is_field_descriptor text
    → record { field = field; method = false; void = false; receiver_method = false; receiver_void = false } ≡ descriptor_form_of text
as_field text field begins is =
    let without = no_method false text begins in
    let with = no_method true text begins in
    rw (is, without.0, without.1, with.0, with.1) refl

-- ---- a '[' begins no name but that of an array class

no_class_there : (rest : List ℕ) → is_class_name (bracket ∷ rest) ≡ false
unfolding ends_class_name
no_class_there rest = refl

no_class : (text : List ℕ) → is_array_name text ≡ true → is_class_name text ≡ false
no_class [] h = absurd (false≢true h)
no_class (b ∷ rest) h = subst (λ x. is_class_name (x ∷ rest) ≡ false) (sym (eqb-true b bracket h)) (no_class_there rest)

pub array_name : (text : List ℕ) → is_array_name text ≡ true → is_field_descriptor text ≡ names_class text
array_name text begins = rw (begins, no_class text begins) refl

or_nothing : (a b : Bool) → (a || (false && b)) ≡ a
or_nothing true b = refl
or_nothing false b = refl

pub other_name : (text : List ℕ) → is_array_name text ≡ false → is_class_name text ≡ names_class text
other_name text begins = rw begins (sym (or_nothing (is_class_name text) (is_field_descriptor text)))
