-- The first of all that an instruction takes that the frame before it has not, or has of another type, or of a type
-- whose comparison asks for a class that is missing (JVMS 4.10.1.9).
use Rattle.std.specs.Prelude.{ℕ, suc, ◌+◌, Bool, nat_lt, List, [], ◌∷◌, length, Option, Some, None, option_map, if◌then◌else◌}
use Rattle.std.specs.Option.{option_or}
use Rattle.classfile.specs.Methods.{Method}
use Rattle.hierarchy.specs.Class.{ClassFact}
use Rattle.hierarchy.specs.Answer.{Outcome}
use Rattle.insn.specs.Meanings.{Act}
use Rattle.insn.specs.OperandStacks.{beneath}
use Rattle.frames.specs.VerificationType.{VerificationType, type_of}
use Rattle.frames.specs.FrameFact.{FrameFact}
use Rattle.frames.specs.Slots.{units_of}
use Rattle.frames.specs.Differences.{is_no, is_missing}
use Rattle.rules.specs.TypingRules.{ExpectedType}
use Rattle.rules.specs.After.{local_of}
use Rattle.rules.specs.Rules.{accepts, local_answer, may_construct}
use Rattle.rules.specs.Views.{expected_view}
use Rattle.rules.specs.ExpectedTypes.{ExpectedLocal, ExpectedTypes}
use Rattle.rules.specs.declared.unmet_expectations.UnmetOperand.{UnmetOperand}
use Rattle.rules.specs.declared.unmet_expectations.Unmet.{Unmet}
use Rattle.rules.specs.declared.unmet_expectations.Unmet.TheVariants.{Operand, Receiver, Local, Units}

-- an operand, by its place from the one that is pushed first, which is at 1; no type is found where the stack has no
-- such item
pub record OperandFact : Type 0 where
  pub place : ℕ
  pub expected : ExpectedType
  pub found : Option VerificationType

pub data UnmetFact : Type 0 where
  -- one of so many operands
  operand : (wrong : OperandFact) (count : ℕ) → UnmetFact
  -- the first of so many operands, which a constructor of the class is called on
  receiver : (class : List ℕ) (found : Option VerificationType) (count : ℕ) → UnmetFact
  local : (place : ℕ) (expected : ExpectedType) (found : VerificationType) → UnmetFact
  -- so many units of the stack are moved, and it has these
  units : (taken there : ℕ) → UnmetFact

-- ---- operands from the top of the stack down, which stand on so many others

-- the first one that the stack has not
abbrev pub absent_operand : ℕ → List ExpectedType → List VerificationType → Option OperandFact
absent_operand below [] ts = None
absent_operand below (w ∷ ws) [] = Some (record { place = below + suc (length ws); expected = w; found = None })
absent_operand below (w ∷ ws) (t ∷ ts) = absent_operand below ws ts

-- the first one whose answer is sought
abbrev pub sought_operand : (Outcome → Bool) → List ClassFact → ℕ → List ExpectedType → List VerificationType
    → Option OperandFact
sought_operand sought classes below [] ts = None
sought_operand sought classes below (w ∷ ws) [] = None
sought_operand sought classes below (w ∷ ws) (t ∷ ts) =
    if sought (accepts classes w t) then Some (record { place = below + suc (length ws); expected = w; found = Some t })
    else sought_operand sought classes below ws ts

abbrev pub operand_of : ℕ → Option OperandFact → Option UnmetFact
operand_of count o = option_map (λ x. operand x count) o

-- ---- the object beneath the operands that a constructor is called on

abbrev pub first_of : List VerificationType → Option VerificationType
first_of [] = None
first_of (t ∷ ts) = Some t

abbrev pub absent_receiver : Option (List ℕ) → ℕ → Option VerificationType → Option UnmetFact
absent_receiver None count found = None
absent_receiver (Some name) count None = Some (receiver name None count)
absent_receiver (Some name) count (Some t) = None

abbrev pub wrong_receiver : Method Act → Option (List ℕ) → ℕ → Option VerificationType → Option UnmetFact
wrong_receiver m None count found = None
wrong_receiver m (Some name) count None = None
wrong_receiver m (Some name) count (Some t) =
    if may_construct m name t then None else Some (receiver name (Some t) count)

-- ---- a local variable, if its answer is sought

abbrev pub sought_local : (Outcome → Bool) → List ClassFact → Method Act → Option ExpectedLocal → FrameFact
    → Option UnmetFact
sought_local sought classes m None f = None
sought_local sought classes m (Some l) f =
    if sought (local_answer classes m l.expected l.place l.width f) then Some (local l.place l.expected
    (local_of l.place f))
    else None

-- ---- units of the stack

abbrev pub absent_units : ℕ → FrameFact → Option UnmetFact
absent_units taken f = if nat_lt (units_of f.stack) taken then Some (units taken (units_of f.stack)) else None

-- ---- all that is expected: of the operands first one that the stack has not (61), and then one of another type (62)

-- how many operands the object is
abbrev pub receivers : Option (List ℕ) → ℕ
receivers None = 0
receivers (Some name) = 1

abbrev pub count_of : ExpectedTypes → ℕ
count_of x = receivers x.receiver + length x.operands

abbrev pub receiver_in : ExpectedTypes → FrameFact → Option VerificationType
receiver_in x f = first_of (beneath x.operands f.stack)

abbrev pub absent : ExpectedTypes → FrameFact → Option UnmetFact
absent x f =
    option_or (operand_of (count_of x) (absent_operand (receivers x.receiver) x.operands f.stack))
    (absent_receiver x.receiver (count_of x) (receiver_in x f))

abbrev pub wrong : List ClassFact → Method Act → ExpectedTypes → FrameFact → Option UnmetFact
wrong classes m x f =
    option_or (operand_of (count_of x) (sought_operand is_no classes (receivers x.receiver) x.operands f.stack))
    (wrong_receiver m x.receiver (count_of x) (receiver_in x f))

abbrev pub first_unmet : List ClassFact → Method Act → ExpectedTypes → FrameFact → Option UnmetFact
first_unmet classes m x f =
    option_or (sought_local is_no classes m x.local f)
    (option_or (absent_units x.units f) (option_or (absent x f) (wrong classes m x f)))

-- ---- the first of which it is not known whether the frame has it (77)

abbrev pub first_unknown : List ClassFact → Method Act → ExpectedTypes → FrameFact → Option UnmetFact
first_unknown classes m x f =
    option_or (sought_local is_missing classes m x.local f)
    (operand_of (count_of x) (sought_operand is_missing classes (receivers x.receiver) x.operands f.stack))

-- ---- what values of the program stand for

abbrev pub found_in : UnmetOperand → OperandFact
found_in o = record {
  place = o.place;
  expected = expected_view o.expected;
  found = option_map type_of o.found;
}

abbrev pub unmet_of : Unmet → UnmetFact
unmet_of (Operand wrong count) = operand (found_in wrong) count
unmet_of (Receiver class found count) = receiver class.now (option_map type_of found) count
unmet_of (Local place expected found) = local place (expected_view expected) (type_of found)
unmet_of (Units taken there) = units taken there
