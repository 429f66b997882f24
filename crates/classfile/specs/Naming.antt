-- Whether a text is a name or a descriptor of its form (JVMS 4.2, 4.3), in words that compute; a law of this crate says
-- that they are the forms of names and the grammar of descriptors within their limits.
use Rattle.std.specs.Prelude.{ℕ, Bool, true, false, not, ◌&&◌, List, [], ◌∷◌, nat_eq, codes, if◌then◌else◌, Ok, Err, Result}
use Rattle.std.specs.List.{list_all}
use Rattle.std.specs.Option.{is_none}
use Rattle.std.specs.Result.{is_ok}
use Rattle.std.specs.Str.{bytes_eq}
use Rattle.names.specs.declared.fault.NameFault.{NameFault}
use Rattle.names.specs.Names.{bracket, is_name_unit, is_angle}
use Rattle.names.specs.Descriptors.{MethodDescriptor}
use Rattle.names.specs.StandardNames.{init_name}
use Rattle.names.specs.Reading.{ends_class_name, field_answer, method_answer}

abbrev pub begins_with : ℕ → List ℕ → Bool
begins_with b [] = false
begins_with b (x ∷ bytes) = nat_eq x b

-- the name of an array class is its descriptor (4.4.1)
abbrev pub is_array_name : List ℕ → Bool
is_array_name bytes = begins_with bracket bytes

abbrev pub is_class_name : List ℕ → Bool
is_class_name bytes = ends_class_name true bytes

abbrev pub is_some_text : List ℕ → Bool
is_some_text [] = false
is_some_text (b ∷ bytes) = true

abbrev pub is_unqualified_name : List ℕ → Bool
is_unqualified_name bytes = is_some_text bytes && list_all is_name_unit bytes

abbrev pub is_method_name : List ℕ → Bool
is_method_name bytes = is_unqualified_name bytes && list_all (λ u. not (is_angle u)) bytes

-- the names of instance initialization methods and of class initialization methods (2.9.1, 2.9.2)
abbrev pub is_init : List ℕ → Bool
is_init name = bytes_eq name init_name

abbrev pub is_clinit : List ℕ → Bool
is_clinit name = bytes_eq name (codes "<clinit>")

-- at most 255 dimensions
abbrev pub is_field_descriptor : List ℕ → Bool
is_field_descriptor bytes = is_ok (field_answer bytes)

-- at most 255 units, with the receiver if there is one, and at most 255 dimensions of each type
abbrev pub is_method_descriptor : Bool → List ℕ → Bool
is_method_descriptor receiver bytes = is_ok (method_answer receiver bytes)

abbrev pub has_no_result : Result MethodDescriptor NameFault → Bool
has_no_result (Ok m) = is_none m.result
has_no_result (Err e) = false

-- a method's descriptor whose result is V
abbrev pub is_void_descriptor : Bool → List ℕ → Bool
is_void_descriptor receiver bytes = has_no_result (method_answer receiver bytes)

-- a descriptor that a method of this name may have: `<init>` has no result (2.9.1)
abbrev pub fits_method : Bool → List ℕ → List ℕ → Bool
fits_method receiver name descriptor =
    if is_init name then is_void_descriptor receiver descriptor else is_method_descriptor receiver descriptor
