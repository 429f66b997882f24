-- The reasons of the program by their numbers.
use Rattle.std.specs.Prelude.{ℕ}
use Rattle.frames.specs.Conditions.{Reason as Refusing, reason, class_missing, with_fault}
use Rattle.rules.specs.declared.reason.Reason.{Reason}
use Rattle.rules.specs.declared.reason.Reason.TheVariants.{OutOfMemory, NotSupported, MissingOperand, WrongOperand, WrongLocal, LocalOutOfRange, StackOver, WrongConstant, NoFrameAtTarget, NotAssignableAtTarget, NotAssignable, NoFrame, FallsOff, BadException, HandlerNotAssignable, OwnObjectNotReady, ConstructorCovered, WrongReturn, ClassMissing, BadStackMap, BadCode, ProtectedMember, NotDirectInterface, BadBootstrap}
use Rattle.rules.specs.ReasonNumbers.{out_of_memory, not_supported, missing_operand, wrong_operand, wrong_local, local_out_of_range, stack_over, wrong_constant, no_frame_at_target, not_assignable_at_target, not_assignable, no_frame, falls_off, bad_exception, handler_not_assignable, own_object_not_ready, constructor_covered, wrong_return, absent_class, bad_stack_map, bad_code, protected_member, not_direct_interface, bad_bootstrap}

abbrev pub reason_number : Reason → ℕ
reason_number OutOfMemory = out_of_memory
reason_number NotSupported = not_supported
reason_number MissingOperand = missing_operand
reason_number WrongOperand = wrong_operand
reason_number WrongLocal = wrong_local
reason_number LocalOutOfRange = local_out_of_range
reason_number StackOver = stack_over
reason_number WrongConstant = wrong_constant
reason_number NoFrameAtTarget = no_frame_at_target
reason_number NotAssignableAtTarget = not_assignable_at_target
reason_number NotAssignable = not_assignable
reason_number NoFrame = no_frame
reason_number FallsOff = falls_off
reason_number BadException = bad_exception
reason_number HandlerNotAssignable = handler_not_assignable
reason_number OwnObjectNotReady = own_object_not_ready
reason_number ConstructorCovered = constructor_covered
reason_number WrongReturn = wrong_return
reason_number (ClassMissing name) = absent_class
reason_number (BadStackMap fault) = bad_stack_map
reason_number (BadCode fault) = bad_code
reason_number ProtectedMember = protected_member
reason_number NotDirectInterface = not_direct_interface
reason_number BadBootstrap = bad_bootstrap

-- the meaning of a reason: the missing class by its name, and the fault of a stack map or of code by its number
abbrev pub reason_view : Reason → Refusing
reason_view (ClassMissing name) = class_missing name.now
reason_view (BadStackMap fault) = with_fault 78 fault
reason_view (BadCode fault) = with_fault 79 fault
reason_view e = reason (reason_number e)
