-- The forms that a text has (JVMS 4.2, 4.3), as a name and as a descriptor, and what is kept of it for its entry of a
-- constant pool, so that each is judged once. Words of the code's own steps.
use Rattle.std.specs.Prelude.{◌≡◌, ℕ, ◌+◌, ◌<◌, false, true, List, length, Option, Some, Ok, slice_index_or}
use Rattle.pool.specs.Entries.{Entry}
use Rattle.pool.specs.Lookups.{text_at}
use Rattle.classfile.specs.declared.text_forms.ClassForm.{ClassForm}
use Rattle.classfile.specs.declared.text_forms.NameForm.{NameForm}
use Rattle.classfile.specs.declared.text_forms.DescriptorForm.{DescriptorForm}
use Rattle.classfile.specs.declared.text_forms.TextForms.{TextForms}
use Rattle.classfile.specs.Naming.{is_unqualified_name, is_method_name, is_field_descriptor, is_method_descriptor, is_void_descriptor}
use Rattle.classfile.specs.ConstantForm.{names_class}

abbrev pub class_form_of : List ℕ → ClassForm
class_form_of text = record { names_class = names_class text }

abbrev pub name_form_of : List ℕ → NameForm
name_form_of text = record {
  unqualified_name = is_unqualified_name text;
  method_name = is_method_name text;
}

abbrev pub descriptor_form_of : List ℕ → DescriptorForm
descriptor_form_of text = record {
  field = is_field_descriptor text;
  method = is_method_descriptor false text;
  void = is_void_descriptor false text;
  receiver_method = is_method_descriptor true text;
  receiver_void = is_void_descriptor true text;
}

-- what a text is as the descriptor of a method
pub record AreMethodForms (text : List ℕ) (f : DescriptorForm) : Type 0 where
  pub no_field : f.field ≡ false
  pub method : f.method ≡ is_method_descriptor false text
  pub void : f.void ≡ is_void_descriptor false text
  pub receiver_method : f.receiver_method ≡ is_method_descriptor true text
  pub receiver_void : f.receiver_void ≡ is_void_descriptor true text

-- what is kept of the texts of the pool, each at its entry: of those that were judged, their forms
pub record AreKept {F : Type 0} (form_of : List ℕ → F) (pool : List Entry) (kept : List (Option F)) : Type 0 where
  pub sized : length kept ≡ length pool
  pub right : (place : ℕ) (default : Option F) (form : F) (text : List ℕ)
      → slice_index_or kept place default ≡ Some form → place < length pool → text_at pool (place + 1) ≡ Ok text
      → form ≡ form_of text

pub record AreForms (pool : List Entry) (forms : TextForms) : Type 0 where
  pub classes : AreKept class_form_of pool forms.classes.forms.items
  pub names : AreKept name_form_of pool forms.names.forms.items
  pub descriptors : AreKept descriptor_form_of pool forms.descriptors.forms.items
