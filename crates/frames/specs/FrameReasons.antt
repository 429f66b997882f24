-- The reasons by which an entry of a stack map is refused (JVMS 4.7.4, 4.10.1): each name stands for the number by
-- which the reason is reported.
use Rattle.std.specs.Prelude.{ℕ}
use Rattle.frames.specs.declared.frame_fault.FrameFault.{FrameFault}
use Rattle.frames.specs.declared.frame_fault.FrameFault.TheVariants.{OutOfMemory, BadIndex, WrongKind, LocalsOver, StackOver, ChopTooMany, NotAStart, NotANew}

-- memory ran out
abbrev pub out_of_memory : ℕ
out_of_memory = 1

-- the index of a class names nothing
abbrev pub bad_index : ℕ
bad_index = 8

-- it names another constant than a class
abbrev pub wrong_kind : ℕ
wrong_kind = 9

-- the locals take more units than max_locals
abbrev pub locals_over : ℕ
locals_over = 49

-- the stack takes more units than max_stack
abbrev pub stack_over : ℕ
stack_over = 50

-- more locals are taken away than there are
abbrev pub chop_too_many : ℕ
chop_too_many = 51

-- no instruction begins at the offset of the frame
abbrev pub not_a_start : ℕ
not_a_start = 52

-- no `new` stands at the offset of an object that is not initialized
abbrev pub not_a_new : ℕ
not_a_new = 53

-- the number of each fault
abbrev pub frame_fault_number : FrameFault → ℕ
frame_fault_number OutOfMemory = out_of_memory
frame_fault_number BadIndex = bad_index
frame_fault_number WrongKind = wrong_kind
frame_fault_number LocalsOver = locals_over
frame_fault_number StackOver = stack_over
frame_fault_number ChopTooMany = chop_too_many
frame_fault_number NotAStart = not_a_start
frame_fault_number NotANew = not_a_new
