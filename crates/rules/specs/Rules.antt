-- The rule of an instruction (JVMS 4.10.1.9): the conditions that refuse it, each with its reason.
use Rattle.std.specs.Prelude.{ℕ, ◌+◌, Bool, true, false, not, ◌&&◌, ◌||◌, nat_lt, bytes_eq, is_none, if◌then◌else◌, List, [], ◌∷◌}
use Rattle.names.specs.declared.base.Primitive.{Primitive}
use Rattle.names.specs.Descriptors.{primitive}
use Rattle.classfile.specs.Methods.{Method, is_name}
use Rattle.hierarchy.specs.Class.{ClassFact}
use Rattle.hierarchy.specs.Answer.{Outcome, yes, yes_if}
use Rattle.insn.specs.declared.kinds.Kind.TheVariants as kinds
use Rattle.insn.specs.Operators.{takes_array}
use Rattle.insn.specs.OperandStacks.{beneath, units_taken}
use Rattle.insn.specs.Meanings.{Act}
use Rattle.frames.specs.VerificationType.{VerificationType, top, int, float, long, double, null, class, array, uninit_this, uninit}
use Rattle.frames.specs.FrameFact.{FrameFact}
use Rattle.frames.specs.Assignable.{type_answer}
use Rattle.frames.specs.FrameAssignable.{both}
use Rattle.frames.specs.DeclaredFrames.{is_uninit_this}
use Rattle.frames.specs.Slots.{number_type, to_reference, units_of}
use Rattle.frames.specs.Conditions.{Reason, reason, class_missing, with_fault, Conditions, is_no, missing_if}
use Rattle.rules.specs.ReasonNumbers.{missing_operand, wrong_operand, wrong_local, local_out_of_range, stack_over, wrong_constant, own_object_not_ready}
use Rattle.rules.specs.TypingRules.{ExpectedType, number, assignable_to, any_reference, any_array, any_array_for, own_or_assignable_to, TypingRule, pops, loads, stores, increments, rearranges, loads_element, makes, constructs, calls_special, returns, refuses}
use Rattle.rules.specs.Table.{class_made_at, object_array}
use Rattle.frames.specs.Objects.{is_made_at}
use Rattle.rules.specs.After.{top_of, local_of, form_for, after}

-- ---- operands

abbrev pub is_reference : VerificationType → Bool
is_reference top = false
is_reference int = false
is_reference float = false
is_reference long = false
is_reference double = false
is_reference null = true
is_reference (class name) = true
is_reference (array component) = true
is_reference uninit_this = true
is_reference (uninit offset) = true

-- null stands for an array too
abbrev pub is_array : VerificationType → Bool
is_array null = true
is_array (array component) = true
is_array _ = false

abbrev pub is_array_for : Primitive → VerificationType → Bool
is_array_for p null = true
is_array_for p (array (primitive q)) = takes_array p q
is_array_for p _ = false

abbrev pub own_or_answer : List ClassFact → List ℕ → VerificationType → Outcome
own_or_answer classes name uninit_this = yes
own_or_answer classes name t = type_answer classes t (class name)

-- whether a type meets an expected type
abbrev pub accepts : List ClassFact → ExpectedType → VerificationType → Outcome
accepts classes (number kind) t = type_answer classes t (number_type kind)
accepts classes (assignable_to type) t = type_answer classes t (to_reference type)
accepts classes any_reference t = yes_if (is_reference t)
accepts classes any_array t = yes_if (is_array t)
accepts classes (any_array_for p) t = yes_if (is_array_for p t)
accepts classes (own_or_assignable_to name) t = own_or_answer classes name t

-- the stack has too few items for these operands
abbrev pub is_short : {A B : Type 0} → List A → List B → Bool
is_short [] ts = false
is_short (w ∷ ws) [] = true
is_short (w ∷ ws) (t ∷ ts) = is_short ws ts

-- the answers for all operands, the top one first
abbrev pub operands : List ClassFact → List ExpectedType → List VerificationType → Outcome
operands classes [] ts = yes
operands classes (w ∷ ws) [] = yes
operands classes (w ∷ ws) (t ∷ ts) = both (accepts classes w t) (operands classes ws ts)

abbrev pub operand_conditions : List ClassFact → List ExpectedType → List VerificationType → Conditions
operand_conditions classes expected_types ts =
    (reason missing_operand, is_short expected_types ts)
    ∷ (reason wrong_operand, is_no (operands classes expected_types ts))
    ∷ missing_if (operands classes expected_types ts) ∷ []

-- ---- local variables

-- the local, or its second half, is not below max_locals
abbrev pub is_outside : Method Act → ℕ → ℕ → Bool
is_outside m n width = nat_lt m.max_locals (n + width)

-- a local that is outside is not compared
abbrev pub local_answer : List ClassFact → Method Act → ExpectedType → ℕ → ℕ → FrameFact → Outcome
local_answer classes m expected n width f = if is_outside m n width then yes
    else accepts classes expected (local_of n f)

abbrev pub local_conditions : List ClassFact → Method Act → ExpectedType → ℕ → ℕ → FrameFact → Conditions
local_conditions classes m expected n width f =
    (reason wrong_local, is_no (local_answer classes m expected n width f))
    ∷ (reason local_out_of_range, is_outside m n width)
    ∷ missing_if (local_answer classes m expected n width f)
    ∷ []

-- ---- objects that are not initialized

abbrev pub is_on_stack : ℕ → List VerificationType → Bool
is_on_stack at [] = false
is_on_stack at (t ∷ ts) = is_made_at at t || is_on_stack at ts

-- a constructor of this class may be called on it: of the class that was made, or of the current class or its direct
-- superclass
abbrev pub may_construct : Method Act → List ℕ → VerificationType → Bool
may_construct m name uninit_this = bytes_eq m.class name || is_name m.superclass name
may_construct m name (uninit at) = is_name (class_made_at m at) name
may_construct m name _ = false

-- a constructor on the own object that is not initialized
abbrev pub constructs_own : TypingRule → FrameFact → Bool
constructs_own (constructs name expected_types) f = is_uninit_this (top_of (beneath expected_types f.stack))
constructs_own _ f = false

-- ---- invokespecial of another method: the current class is assignable to the method's, or the constant is refused

abbrev pub special_conditions : List ClassFact → Outcome → List ExpectedType → List VerificationType → Conditions
special_conditions classes own expected_types ts =
    if is_no own then (reason wrong_constant, true) ∷ []
    else (reason missing_operand, is_short expected_types ts)
    ∷ (reason wrong_operand, is_no (operands classes expected_types ts))
    ∷ missing_if (both (operands classes expected_types ts) own) ∷ []

-- ---- the conditions of each family, the depth of the stack aside

abbrev pub family : List ClassFact → Method Act → ℕ → TypingRule → FrameFact → Conditions
family classes m at (pops expected_types gives offsets on) f = operand_conditions classes expected_types f.stack
family classes m at (loads expected n width) f = local_conditions classes m expected n width f
family classes m at (stores expected n width) f =
    (reason local_out_of_range, is_outside m n width) ∷ operand_conditions classes (expected ∷ []) f.stack
family classes m at (increments n) f = local_conditions classes m (number kinds.Int) n 1 f
family classes m at (rearranges forms) f =
    (reason missing_operand, nat_lt (units_of f.stack) (units_taken forms))
    ∷ (reason wrong_operand, is_none (form_for forms f.stack)) ∷ []
family classes m at loads_element f = operand_conditions classes (number kinds.Int ∷ object_array ∷ []) f.stack
family classes m at (makes name) f = (reason wrong_operand, is_on_stack at f.stack) ∷ []
family classes m at (constructs name expected_types) f =
    (reason missing_operand, is_short (any_reference ∷ expected_types) f.stack)
    ∷ (reason wrong_operand, not (may_construct m name (top_of (beneath expected_types f.stack))))
    ∷ operand_conditions classes expected_types f.stack
family classes m at (calls_special type expected_types gives) f =
    special_conditions classes (type_answer classes (class m.class) (to_reference type)) expected_types f.stack
family classes m at returns f = (reason own_object_not_ready, m.is_init && f.flag) ∷ []
family classes m at (refuses n) f = (reason n, true) ∷ []

-- ---- all conditions

abbrev pub is_missing_class : Reason → Bool
is_missing_class (reason n) = false
is_missing_class (class_missing name) = true
is_missing_class (with_fault n fault) = false

-- the rule gives a frame, since nothing refuses it but a class that is missing
abbrev pub gives_frame : Conditions → Bool
gives_frame [] = true
gives_frame (c ∷ cs) = (is_missing_class c.0 || not c.1) && gives_frame cs

abbrev pub is_too_wide : Method Act → FrameFact → Bool
is_too_wide m f = nat_lt m.max_stack (units_of f.stack)

-- The reasons against an instruction, in no order. stack_over is that the stack afterwards is wider than max_stack.
abbrev pub conditions : List ClassFact → Method Act → ℕ → TypingRule → FrameFact → Conditions
conditions classes m at p f =
    (reason stack_over, gives_frame (family classes m at p f) && is_too_wide m (after m at p f))
    ∷ family classes m at p f
