-- The types that texts name, as far as they were read.
use Rattle.std.specs.Prelude.{◌≡◌, ℕ, ◌+◌, ◌++◌, List, Option, Some, None, option_map, slice_index_or, length}
use Rattle.std.specs.Option.{option_and_then}
use Rattle.names.specs.Reading.{field_answer}
use Rattle.names.specs.ReferenceTypes.{reference_type}
use Rattle.names.specs.StandardNames.{string_name, class_name, method_type_name, method_handle_name}
use Rattle.pool.specs.Entries.{Entry}
use Rattle.pool.specs.Lookups.{text_at}
use Rattle.pool.specs.ConstantMeanings.{found}
use Rattle.frames.specs.VerificationType.{VerificationType, class}
use Rattle.frames.specs.Slots.{to_reference, descriptor_type}
use Rattle.type_numbers.specs.declared.loaded_numbers.LoadedNumbers.{LoadedNumbers}
use Rattle.type_numbers.specs.declared.text_numbers.Form.{Form}
use Rattle.type_numbers.specs.declared.text_numbers.Form.TheVariants.{ClassName, FieldDescriptor}
use Rattle.type_numbers.specs.declared.text_numbers.Reading.{Reading}
use Rattle.type_numbers.specs.declared.text_numbers.Reading.TheVariants.{Unread, Nothing, Named}
use Rattle.type_numbers.specs.declared.text_numbers.TextNumbers.{TextNumbers}
use Rattle.type_numbers.specs.declared.texts.Texts.{Texts}
use Rattle.type_numbers.specs.Numbers.{Numbering, IsNumber}
use Rattle.type_numbers.specs.MethodNumbers.{AreDescriptors, AreNumbers, row_of}

-- the type that a text names: as that of a Class constant, or as the descriptor of a field
abbrev pub text_type : Form → List ℕ → Option VerificationType
text_type ClassName text = option_map to_reference (reference_type text)
text_type FieldDescriptor text = option_map descriptor_type (found (field_answer text))

-- the type that the text at an index names
abbrev pub type_in : Form → List Entry → ℕ → Option VerificationType
type_in form pool index = option_and_then (text_type form) (found (text_at pool index))

-- what was read of a text that names this type, or none
abbrev pub IsReading : Numbering → Option VerificationType → Reading → Type 0
IsReading s t Unread = Unit {0}
IsReading s None Nothing = Unit {0}
IsReading s (Some t) Nothing = ⊥
IsReading s None (Named n) = ⊥
IsReading s (Some t) (Named n) = IsNumber s n t

abbrev pub reading_in : List Reading → ℕ → Reading
reading_in readings index = slice_index_or readings index Unread

-- of each text of a pool what was read of it
pub record AreReadings (s : Numbering) (pool : List Entry) (t : TextNumbers) : Type 0 where
  pub long : length t.readings.items ≡ length pool + 1
  pub read : (index : ℕ) → IsReading s (type_in t.form pool index) (reading_in t.readings.items index)

-- numbers of these types were put after a row
pub record ArePushed (s : Numbering) (row later : List ℕ) (types : List VerificationType) : Type 0 where
  pub numbers : List ℕ
  pub is : later ≡ row ++ numbers
  pub each : AreNumbers s numbers types

-- the row that the descriptors of methods share
abbrev pub shared_row : Texts → List ℕ
shared_row t = row_of t.methods

-- the numbers of the classes of which constants load objects
pub record AreLoaded (s : Numbering) (l : LoadedNumbers) : Type 0 where
  pub string : IsNumber s l.string (class string_name)
  pub class_object : IsNumber s l.class (class class_name)
  pub method_type : IsNumber s l.method_type (class method_type_name)
  pub method_handle : IsNumber s l.method_handle (class method_handle_name)

-- the texts of a pool have these readings, as the names of classes and as the descriptors of fields and of methods
pub record AreTexts (s : Numbering) (pool : List Entry) (t : Texts) : Type 0 where
  pub classes : AreReadings s pool t.classes
  pub class_form : t.classes.form ≡ ClassName
  pub descriptors : AreReadings s pool t.descriptors
  pub descriptor_form : t.descriptors.form ≡ FieldDescriptor
  pub methods : AreDescriptors s pool t.methods
  pub loaded : AreLoaded s t.loaded
