-- The meaning of the program's values.
use Rattle.std.specs.Prelude.{ℕ, ◌-◌, List, map, reverse, option_map}
use Rattle.std.specs.BTreeMap.{BTreeMap, get}
use Rattle.std.specs.Ordering.{nat_cmp}
use Rattle.names.specs.Descriptors.{base_of, dimensioned}
use Rattle.names.specs.ReferenceTypes.{ReferenceType, class_type, array_type}
use Rattle.insn.specs.declared.kinds.Kind.TheVariants as kinds
use Rattle.machine.specs.declared.items.Value.{Value as RawValue}
use Rattle.machine.specs.declared.items.Value.TheVariants as values
use Rattle.machine.specs.declared.items.Slot.{Slot as RawSlot}
use Rattle.machine.specs.declared.items.Slot.TheVariants as slots
use Rattle.machine.specs.declared.objects.RunType.{RunType}
use Rattle.machine.specs.declared.objects.RunType.TheVariants as types
use Rattle.machine.specs.declared.objects.Status.{Status as RawStatus}
use Rattle.machine.specs.declared.objects.Status.TheVariants as statuses
use Rattle.machine.specs.declared.objects.Object.{Object as RawObject}
use Rattle.machine.specs.declared.snapshot.State.{State as RawState}
use Rattle.machine.specs.declared.choosing.Choice.{Choice as RawChoice}
use Rattle.machine.specs.declared.choosing.Choice.TheVariants as choices
use Rattle.machine.specs.declared.choosing.StepFault.{StepFault}
use Rattle.machine.specs.declared.choosing.StepFault.TheVariants.{OutOfMemory, NotAChoice, NotInitial}
use Rattle.machine.specs.Values.{Value, number, null, reference, Slot, empty, second, holds}
use Rattle.machine.specs.Heap.{Status, ready, made, this, Object, object, Heap}
use Rattle.machine.specs.Demands.{State}
use Rattle.machine.specs.Steps.{Choice, go, raise}
use Rattle.machine.specs.Walks.{Stop, more, returned, fault, no_choice}
use Rattle.machine.specs.declared.walks.Last.{Last as RawLast}
use Rattle.machine.specs.declared.walks.Last.TheVariants as lasts

abbrev pub value_view : RawValue → Value
value_view values.Int = number kinds.Int
value_view values.Float = number kinds.Float
value_view values.Long = number kinds.Long
value_view values.Double = number kinds.Double
value_view values.Null = null
value_view (values.Ref address) = reference address

abbrev pub slot_view : RawSlot → Slot
slot_view slots.Empty = empty
slot_view slots.Second = second
slot_view (slots.Value v) = holds (value_view v)

-- a stack with its top last, as the program keeps it, with its top first
abbrev pub stack_of : List RawValue → List Value
stack_of vs = reverse (map value_view vs)

abbrev pub locals_of : List RawSlot → List Slot
locals_of ss = map slot_view ss

abbrev pub run_type_view : RunType → ReferenceType
run_type_view (types.Class name) = class_type name.now
run_type_view (types.Array dims base) = array_type (dimensioned (dims - 1) (base_of base))

abbrev pub status_view : RawStatus → Status
status_view statuses.Ready = ready
status_view statuses.Made = made
status_view statuses.This = this

abbrev pub object_view : RawObject → Object
object_view o = object (run_type_view o.run_type) (status_view o.status)

abbrev pub heap_view : BTreeMap ℕ RawObject → Heap
heap_view objects = λ a. option_map object_view (get nat_cmp objects a)

abbrev pub state_view : RawState → State
state_view s = record {
  at = s.at;
  stack = stack_of s.stack.items;
  locals = locals_of s.locals.items;
  heap =
      heap_view s.heap;
}

abbrev pub fresh_view : List (ℕ × RunType) → List (ℕ × ReferenceType)
fresh_view xs = map (λ x. (x.0, run_type_view x.1)) xs

abbrev pub choice_view : RawChoice → Choice
choice_view (choices.Go branch answer fresh) = go branch (option_map value_view answer) (fresh_view fresh.items)
choice_view (choices.Raise address fresh entry) = raise address (fresh_view fresh.items) entry

abbrev pub stop_view : RawLast → Stop
stop_view (lasts.More s) = more (state_view s)
stop_view lasts.Ended = returned
stop_view lasts.Fault = fault
stop_view lasts.NotAChoice = no_choice

abbrev pub fault_number : StepFault → ℕ
fault_number OutOfMemory = 1
fault_number NotAChoice = 54
fault_number NotInitial = 55
