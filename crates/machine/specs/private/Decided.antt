-- Words of the code's own steps: nothing that a reader must believe rests on them.
-- The machine's demands, as tests that compute.
use Rattle.std.specs.Prelude.{ℕ, Bool, true, false, not, ◌&&◌, ◌||◌, if◌then◌else◌, bytes_eq, List, [], ◌∷◌, Option, Some, None}
use Rattle.names.specs.declared.base.Primitive.{Primitive}
use Rattle.names.specs.declared.base.Primitive.TheVariants.{Byte, Char, Double as DoubleType, Float as FloatType, Int as IntType, Long as LongType, Short, Boolean}
use Rattle.names.specs.Descriptors.{FieldDescriptor, primitive, class, array}
use Rattle.names.specs.StandardNames.{object_name, cloneable_name, serializable_name}
use Rattle.hierarchy.specs.Class.{ClassFact, interface_of}
use Rattle.hierarchy.specs.Answer.{Outcome, yes, no, missing, subclass_answer}
use Rattle.insn.specs.declared.stack.StackPlace.{StackPlace}
use Rattle.insn.specs.declared.stack.StackPlace.TheVariants.{Narrow, Wide}
use Rattle.insn.specs.Operators.{StackForm}
use Rattle.machine.specs.Heap.{Status, ready, made, this, Object}
use Rattle.machine.specs.Values.{Value, Slot, empty, second, holds, is_wide_slot, place_of}

-- ---- forms

abbrev pub same_place : StackPlace → StackPlace → Bool
same_place Narrow Narrow = true
same_place Wide Wide = true
same_place _ _ = false

abbrev pub are_form : List StackPlace → List Value → Bool
are_form [] vs = true
are_form (p ∷ ps) [] = false
are_form (p ∷ ps) (v ∷ vs) = same_place p (place_of v) && are_form ps vs

-- the first form that the stack fits
abbrev pub form_for : List StackForm → List Value → Option StackForm
form_for [] vs = None
form_for (f ∷ fs) vs = if are_form f.takes vs then Some f else form_for fs vs

-- ---- local variables

abbrev pub is_second : Slot → Bool
is_second second = true
is_second empty = false
is_second (holds v) = false

-- what stands after a long or double, or after none
abbrev pub is_behind : Bool → Slot → Bool
is_behind true s = is_second s
is_behind false s = not (is_second s)

abbrev pub paired_behind : Bool → List Slot → Bool
paired_behind wide [] = not wide
paired_behind wide (s ∷ ss) = is_behind wide s && paired_behind (is_wide_slot s) ss

-- ---- types

abbrev pub is_yes : Outcome → Bool
is_yes yes = true
is_yes no = false
is_yes (missing name) = false

abbrev pub is_true : Option Bool → Bool
is_true (Some true) = true
is_true _ = false

-- Object and every interface
abbrev pub is_above_all : List ClassFact → List ℕ → Bool
is_above_all classes b = bytes_eq b object_name || is_true (interface_of classes b)

abbrev pub class_below : List ClassFact → List ℕ → List ℕ → Bool
class_below classes a b = is_above_all classes b || is_yes (subclass_answer classes a b)

abbrev pub is_above_arrays : List ClassFact → List ℕ → Bool
is_above_arrays classes b = is_above_all classes b || (bytes_eq b cloneable_name || bytes_eq b serializable_name)

abbrev pub same_primitive : Primitive → Primitive → Bool
same_primitive Byte Byte = true
same_primitive Char Char = true
same_primitive DoubleType DoubleType = true
same_primitive FloatType FloatType = true
same_primitive IntType IntType = true
same_primitive LongType LongType = true
same_primitive Short Short = true
same_primitive Boolean Boolean = true
same_primitive _ _ = false

abbrev pub type_below : List ClassFact → FieldDescriptor → FieldDescriptor → Bool
type_below classes (primitive p) (primitive q) = same_primitive p q
type_below classes (class a) (class b) = class_below classes a b
type_below classes (array x) (class b) = is_above_arrays classes b
type_below classes (array x) (array y) = type_below classes x y
type_below classes _ _ = false

-- ---- objects

abbrev pub is_own : Status → Bool
is_own this = true
is_own ready = false
is_own made = false

-- the own object, not initialized yet
abbrev pub is_this : Object → Bool
is_this o = is_own o.status
