-- A method with code as the program keeps it, and as instructions see it.
use Rattle.std.specs.Prelude.{◌≡◌, ℕ, Bool, true, false, List, [], Option}
use Rattle.std.specs.Option.{option_map}
use Rattle.names.specs.Descriptors.{MethodDescriptor}
use Rattle.names.specs.Types.{type_of}
use Rattle.classfile.specs.declared.code_method.CodeMethod.{CodeMethod}
use Rattle.classfile.specs.declared.form.Formed.{Formed}
use Rattle.classfile.specs.declared.profile.Profile.{Profile}
use Rattle.classfile.specs.declared.profile.Profile.TheVariants.{Default, Dynamic, Release}
use Rattle.classfile.specs.Values.{Class}
use Rattle.classfile.specs.Methods.{JudgedClass, Method, method_of}
use Rattle.classfile.specs.MethodParts.{params_at, method_by_parts}
use Rattle.classfile.specs.Views.{class_view, code_view}

-- the class, which is well formed, as its methods are judged
abbrev pub judged_class : Formed → JudgedClass
judged_class f = record { file = class_view f.class.now; dynamic = f.dynamic }

-- whether a profile judges `invokedynamic` and dynamic constants
abbrev pub judges_dynamic : Profile → Bool
judges_dynamic Default = false
judges_dynamic Dynamic = true
judges_dynamic (Release n) = true

-- a class by a profile
abbrev pub judged : Profile → Class → JudgedClass
judged profile c = record { file = c; dynamic = judges_dynamic profile }

-- the class of a method
abbrev pub class_of : CodeMethod → JudgedClass
class_of m = record { file = class_view m.class.now; dynamic = m.dynamic }

-- the method, whose code says this
abbrev pub code_method_view : {A : Type 0} → CodeMethod → List (ℕ × A) → Method A
code_method_view m code =
    method_by_parts (class_of m) m.number (code_view m.code.now) m.is_static m.is_init
    (option_map type_of m.result_type) code

-- the types that its descriptor names (4.3.3)
abbrev pub types_of : CodeMethod → MethodDescriptor
types_of m = record { params = params_at (class_view m.class.now) m.number; result = option_map type_of m.result_type }

-- it has this number in this class, and is judged as the class is
pub record IsAt (class : Formed) (number : ℕ) (m : CodeMethod) : Type 0 where
  pub class_is : m.class.now ≡ class.class.now
  pub number_is : m.number ≡ number
  pub dynamic_is : m.dynamic ≡ class.dynamic

-- The method of this number is kept as the class file has it, if it has code. What the code says is only handed on:
-- no instructions stand for all.
abbrev pub TellsMethod : JudgedClass → ℕ → Option CodeMethod → Type 0
TellsMethod c number kept = method_of {A = ℕ} c number [] ≡ option_map (λ m. code_method_view m []) kept
