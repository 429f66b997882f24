-- The typing rule of an instruction: what its rule asks of the frame before it and does to it, family by family (JVMS
-- 4.10.1.9).
use Rattle.std.specs.Prelude.{ℕ, zero, suc, ℤ, Bool, true, false, if◌then◌else◌, List, [], ◌∷◌, map, Option, Some, None, nat_eq, not}
use Rattle.names.specs.declared.base.Primitive.{Primitive}
use Rattle.names.specs.Descriptors.{FieldDescriptor, MethodDescriptor, primitive, class as class_descriptor, array as array_descriptor}
use Rattle.names.specs.ReferenceTypes.{ReferenceType, class_type, array_type}
use Rattle.insn.specs.declared.kinds.Kind.{Kind}
use Rattle.insn.specs.declared.kinds.Kind.TheVariants as kinds
use Rattle.insn.specs.Operators.{StackForm}
use Rattle.insn.specs.Kinds.{computed_as}
use Rattle.insn.specs.Offsets.{led_to}
use Rattle.frames.specs.VerificationType.{VerificationType}
use Rattle.frames.specs.Slots.{descriptor_type}
use Rattle.rules.specs.ReasonNumbers.{not_supported, wrong_constant, wrong_return, bad_bootstrap}

-- the expected type of an operand or a local variable
pub data ExpectedType : Type 0 where
  number : (kind : Kind) → ExpectedType
  assignable_to : (type : ReferenceType) → ExpectedType
  -- null, a class, an array or an object that is not initialized
  any_reference : ExpectedType
  any_array : ExpectedType
  -- an array whose elements an instruction for this type takes
  any_array_for : (element : Primitive) → ExpectedType
  -- the own object that is not initialized, or assignable to the class
  own_or_assignable_to : (class : List ℕ) → ExpectedType

pub data TypingRule : Type 0 where
  -- operands are popped and types pushed; it branches by offsets, and falls through or not
  pops : (expected_types : List ExpectedType) (gives : List VerificationType) (offsets : List ℤ) (falls : Bool)
      → TypingRule
  loads : (expected : ExpectedType) (local width : ℕ) → TypingRule
  stores : (expected : ExpectedType) (local width : ℕ) → TypingRule
  increments : (local : ℕ) → TypingRule
  rearranges : (forms : List StackForm) → TypingRule
  -- aaload
  loads_element : TypingRule
  -- new
  makes : (class : List ℕ) → TypingRule
  -- invokespecial of a constructor
  constructs : (class : List ℕ) (expected_types : List ExpectedType) → TypingRule
  -- invokespecial of another method
  calls_special : (class : ReferenceType) (expected_types : List ExpectedType) (gives : List VerificationType)
      → TypingRule
  -- return
  returns : TypingRule
  -- there is no rule: the reason of this number says why
  refuses : (number : ℕ) → TypingRule

-- ---- words for tables

abbrev pub takes : List ExpectedType → TypingRule
takes expected_types = pops expected_types [] [] true

abbrev pub gives : VerificationType → TypingRule
gives type = pops [] (type ∷ []) [] true

abbrev pub expected_class : List ℕ → ExpectedType
expected_class name = assignable_to (class_type name)

abbrev pub numbers : List Kind → List ExpectedType
numbers kinds = map number kinds

abbrev pub sizes : ℕ → List ExpectedType
sizes zero = []
sizes (suc n) = number kinds.Int ∷ sizes n

-- the expected type of a value for a field or a parameter
abbrev pub expected_of : FieldDescriptor → ExpectedType
expected_of (primitive p) = number (computed_as p)
expected_of (class_descriptor name) = assignable_to (class_type name)
expected_of (array_descriptor component) = assignable_to (array_type component)

-- the expected types of arguments, the last one first, and then those of the operands beneath them
abbrev pub arguments_on : List FieldDescriptor → List ExpectedType → List ExpectedType
arguments_on [] beneath = beneath
arguments_on (t ∷ ts) beneath = arguments_on ts (expected_of t ∷ beneath)

abbrev pub result_types : Option FieldDescriptor → List VerificationType
result_types None = []
result_types (Some t) = descriptor_type t ∷ []

-- a call without a receiver
abbrev pub call_of : MethodDescriptor → TypingRule
call_of type = pops (arguments_on type.params []) (result_types type.result) [] true

-- the typing rule where the instruction is judged; otherwise it is refused with 60
abbrev pub where_judged : Bool → TypingRule → TypingRule
where_judged judged typing_rule = if judged then typing_rule else refuses not_supported

-- the typing rule where a test holds; otherwise the constant is refused with 66
abbrev pub where_allowed : Bool → TypingRule → TypingRule
where_allowed allowed typing_rule = if allowed then typing_rule else refuses wrong_constant

-- the typing rule where the constant has a bootstrap method that may be used; otherwise it is refused with 90
abbrev pub where_bootstrapped : Bool → TypingRule → TypingRule
where_bootstrapped bootstrapped typing_rule = if bootstrapped then typing_rule else refuses bad_bootstrap

-- ---- where it goes

abbrev pub falls : TypingRule → Bool
falls (pops expected_types types offsets on) = on
falls returns = false
-- a return of another kind than the method's result is refused, and would not go on
falls (refuses n) = not (nat_eq n wrong_return)
falls _ = true

abbrev pub offsets_of : TypingRule → List ℤ
offsets_of (pops expected_types types offsets on) = offsets
offsets_of _ = []

-- the targets of an instruction that begins at an offset, the default of a switch first
abbrev pub targets : ℕ → TypingRule → List ℤ
targets at p = led_to at (offsets_of p)
