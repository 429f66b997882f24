-- The numbers with which an instruction, and with it its method, is refused (JVMS 4.10.1), by their names.
use Rattle.std.specs.Prelude.{ℕ}

-- memory ran out
abbrev pub out_of_memory : ℕ
out_of_memory = 1

-- there is no rule for the instruction
abbrev pub not_supported : ℕ
not_supported = 60

-- the stack has fewer items than the rule names
abbrev pub missing_operand : ℕ
missing_operand = 61

-- an operand does not meet the rule
abbrev pub wrong_operand : ℕ
wrong_operand = 62

-- the local variable that is read is of another type
abbrev pub wrong_local : ℕ
wrong_local = 63

-- the local variable, or its second half, is not below max_locals
abbrev pub local_out_of_range : ℕ
local_out_of_range = 64

-- the stack is then wider than max_stack
abbrev pub stack_over : ℕ
stack_over = 65

-- the constant, or an immediate byte, does not meet the rule
abbrev pub wrong_constant : ℕ
wrong_constant = 66

-- a target has no declared frame
abbrev pub no_frame_at_target : ℕ
no_frame_at_target = 67

-- the frame after is not assignable to that of a target
abbrev pub not_assignable_at_target : ℕ
not_assignable_at_target = 68

-- the frame that comes in is not assignable to the declared one
abbrev pub not_assignable : ℕ
not_assignable = 69

-- no frame comes in, and none is declared
abbrev pub no_frame : ℕ
no_frame = 70

-- the last instruction goes on
abbrev pub falls_off : ℕ
falls_off = 71

-- an entry of the exception table is wrong
abbrev pub bad_exception : ℕ
bad_exception = 72

-- the frame before is not assignable to that of a handler which covers the instruction
abbrev pub handler_not_assignable : ℕ
handler_not_assignable = 73

-- an instance initialization method returns before its own object is initialized
abbrev pub own_object_not_ready : ℕ
own_object_not_ready = 74

-- a handler covers an instance initialization method's call on the own object
abbrev pub constructor_covered : ℕ
constructor_covered = 75

-- the return is of another kind than the method's result
abbrev pub wrong_return : ℕ
wrong_return = 76

-- a comparison needs a class that is absent
abbrev pub absent_class : ℕ
absent_class = 77

-- the stack map is refused
abbrev pub bad_stack_map : ℕ
bad_stack_map = 78

-- the code is refused
abbrev pub bad_code : ℕ
bad_code = 79

-- a protected member of another package is used on an object that may not be of the current class
abbrev pub protected_member : ℕ
protected_member = 82

-- the interface whose method is called is not the class itself, its superclass or one of its direct superinterfaces
abbrev pub not_direct_interface : ℕ
not_direct_interface = 86

-- the class has no bootstrap method for the constant, or one that may not be used
abbrev pub bad_bootstrap : ℕ
bad_bootstrap = 90
