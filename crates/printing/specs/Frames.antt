-- The lines of a frame: its verification types by the names that the standard gives them (JVMS 4.10.1.2, 4.10.1.4).
use Rattle.std.specs.Prelude.{ℕ, Bool, if◌then◌else◌, List, [], ◌∷◌, ◌++◌, map, reverse, codes, decimal}
use Rattle.std.specs.List.{flat_map}
use Rattle.names.specs.Descriptors.{FieldDescriptor, primitive, class as class_descriptor, array as array_descriptor, letter}
use Rattle.frames.specs.VerificationType.{VerificationType, top, int, float, long, double, null, class, array, uninit_this, uninit}
use Rattle.frames.specs.FrameFact.{FrameFact}
use Rattle.printing.specs.Json.{Field, strings}
use Rattle.printing.specs.NamesIn.{spelled_in}
use Rattle.printing.specs.declared.names_in.Within.{Within}
use Rattle.printing.specs.declared.names_in.Within.TheVariants.{Words, Json}

-- a descriptor, the names of classes as they are written there
abbrev pub descriptor_text : Within → FieldDescriptor → List ℕ
descriptor_text within (primitive p) = letter p ∷ []
descriptor_text within (class_descriptor name) = codes "L" ++ (spelled_in within name ++ codes ";")
descriptor_text within (array_descriptor component) = codes "[" ++ descriptor_text within component

-- a class by its name, an array by its descriptor
abbrev pub type_text : Within → VerificationType → List ℕ
type_text within top = codes "top"
type_text within int = codes "int"
type_text within float = codes "float"
type_text within long = codes "long"
type_text within double = codes "double"
type_text within null = codes "null"
type_text within (class name) = codes "Class " ++ spelled_in within name
type_text within (array component) = codes "Class [" ++ descriptor_text within component
type_text within uninit_this = codes "uninitializedThis"
type_text within (uninit at) = codes "uninitialized(" ++ (decimal at ++ codes ")")

abbrev pub more_text : VerificationType → List ℕ
more_text t = codes ", " ++ type_text Words t

-- after a blank, with commas between them
abbrev pub types_text : List VerificationType → List ℕ
types_text [] = []
types_text (t ∷ ts) = codes " " ++ (type_text Words t ++ flat_map more_text ts)

-- a type in front of those that are in use after it
abbrev pub in_front : VerificationType → List VerificationType → List VerificationType
in_front top [] = []
in_front t ts = t ∷ ts

-- locals without the tops after the last that is none
abbrev pub in_use : List VerificationType → List VerificationType
in_use [] = []
in_use (t ∷ ts) = in_front t (in_use ts)

-- the first of two numbers where a type is top
abbrev pub if_top : VerificationType → ℕ → ℕ → ℕ
if_top top first second = first
if_top t first second = second

abbrev pub types_line : List ℕ → List ℕ → List VerificationType → List ℕ
types_line label word ts = codes "  " ++ (label ++ (word ++ (types_text ts ++ codes "\n")))

-- the own object is uninitialized
abbrev pub flags_line : List ℕ → Bool → List ℕ
flags_line label flag = if flag then codes "  " ++ (label ++ codes "flags flagThisUninit\n") else []

-- under a label: the locals, the stack from the bottom up, and the flag where it stands
abbrev pub frame_lines : List ℕ → FrameFact → List ℕ
frame_lines label f =
    types_line label (codes "locals") (in_use f.locals)
    ++ (types_line label (codes "stack") (reverse f.stack) ++ flags_line label f.flag)

-- ---- a frame as fields of an object of JSON, each type a string

abbrev pub type_strings : List VerificationType → List (List ℕ)
type_strings ts = map (type_text Json) ts

-- the own object is uninitialized
abbrev pub flag_fields : List ℕ → Bool → List Field
flag_fields name flag = if flag then (name, strings (codes "flagThisUninit" ∷ [])) ∷ [] else []

-- under these names: the locals, the stack from the bottom up, and the flag where it stands
abbrev pub frame_fields : List ℕ → List ℕ → List ℕ → FrameFact → List Field
frame_fields locals stack flags f =
    (locals, strings (type_strings (in_use f.locals))) ∷ (stack, strings (type_strings (reverse f.stack)))
    ∷ flag_fields flags f.flag
