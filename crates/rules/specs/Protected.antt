-- Members that are protected (JVMS 4.10.1.8): one that a class above the current one declares in another package is
-- used on objects of the current class alone. A constructor is such a member too (4.10.1.9, invokespecial), where the
-- class is read as a release has it.
use Rattle.std.specs.Prelude.{ℕ, Bool, false, ◌&&◌, if◌then◌else◌, List, [], ◌∷◌, ◌++◌, Option, Some, None, option_map}
use Rattle.std.specs.Option.{option_and_then, option_map_or}
use Rattle.names.specs.Descriptors.{FieldDescriptor}
use Rattle.names.specs.ReferenceTypes.{ReferenceType, class_type}
use Rattle.pool.specs.ConstantMeanings.{FieldConstant, field_at, MethodConstant, method_at}
use Rattle.classfile.specs.Methods.{Method}
use Rattle.hierarchy.specs.declared.summary.Kind.TheVariants as kinds
use Rattle.hierarchy.specs.Class.{ClassFact}
use Rattle.hierarchy.specs.Answer.{Outcome, yes, no}
use Rattle.hierarchy.specs.Nearest.{MemberReference, is_guarded}
use Rattle.insn.specs.OperandStacks.{beneath}
use Rattle.insn.specs.Meanings as acts
use Rattle.insn.specs.Meanings.{Act}
use Rattle.frames.specs.VerificationType.{VerificationType, class, array, uninit_this}
use Rattle.frames.specs.FrameFact.{FrameFact}
use Rattle.frames.specs.Assignable.{type_answer}
use Rattle.frames.specs.Conditions.{reason, Conditions, is_no, missing_if}
use Rattle.rules.specs.Constants.{is_init_name}
use Rattle.rules.specs.ReasonNumbers.{protected_member}
use Rattle.rules.specs.After.{top_of}
use Rattle.rules.specs.Interfaces.{interface_conditions}

-- ---- the member that an instruction uses on an object

pub record Use : Type 0 where
  pub reference : MemberReference
  -- the types of the operands above the object
  pub above : List FieldDescriptor

abbrev pub field_reference : FieldConstant → MemberReference
field_reference f = record { class = f.class; kind = kinds.Field; name = f.name; descriptor = f.descriptor }

abbrev pub method_reference : List ℕ → MethodConstant → MemberReference
method_reference owner c = record { class = owner; kind = kinds.Method; name = c.name; descriptor = c.descriptor }

abbrev pub field_use : List FieldDescriptor → FieldConstant → Use
field_use above f = record { reference = field_reference f; above = above }

-- no condition is asked for a method of an interface, nor for one that is named by an array type
abbrev pub method_use : MethodConstant → (interface : Bool) → ReferenceType → Option Use
method_use c false (class_type name) = Some (record { reference = method_reference name c; above = c.type.params })
method_use c _ _ = None

abbrev pub constructor_use : (release : Bool) → MethodConstant → Option Use
constructor_use release c = if release && is_init_name c then method_use c c.interface c.class else None

abbrev pub used_by : Method Act → Act → Option Use
used_by m (acts.GetField i) = option_map (λ f. field_use [] f) (field_at m.constant_pool i)
used_by m (acts.PutField i) = option_map (λ f. field_use (f.type ∷ []) f) (field_at m.constant_pool i)
used_by m (acts.InvokeVirtual i) = option_and_then (λ c. method_use c c.interface c.class) (method_at m.constant_pool i)
used_by m (acts.InvokeSpecial i) = option_and_then (constructor_use m.release) (method_at m.constant_pool i)
used_by m _ = None

-- ---- the conditions on it

-- Whether an object may be one of a class. No array is one, even if arrays are assignable to the class. The own object,
-- which its constructor makes ready, is one; an object that `new` made is none before its constructor returned.
abbrev pub object_answer : List ClassFact → List ℕ → VerificationType → Outcome
object_answer classes name (array component) = no
object_answer classes name uninit_this = yes
object_answer classes name t = type_answer classes t (class name)

abbrev pub object_conditions : Outcome → Conditions
object_conditions answer = (reason protected_member, is_no answer) ∷ missing_if answer ∷ []

-- the object, beneath the operands above it
abbrev pub object_beneath : Use → FrameFact → VerificationType
object_beneath u f = top_of (beneath u.above f.stack)

abbrev pub use_conditions : List ClassFact → Method Act → FrameFact → Use → Conditions
use_conditions classes m f u =
    if is_guarded classes m.class u.reference
    then object_conditions (object_answer classes m.class (object_beneath u f)) else []

-- The reasons against an instruction for the member that it names, in no order, besides those of its typing rule.
abbrev pub member_conditions : List ClassFact → Method Act → Act → FrameFact → Conditions
member_conditions classes m act f =
    interface_conditions m act ++ option_map_or (use_conditions classes m f) (used_by m act) []
