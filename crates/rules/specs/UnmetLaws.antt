-- Where an instruction is refused for an operand or a local variable, the first of all that it takes that the frame
-- before it has not is found (JVMS 4.10.1.9).
use Rattle.std.specs.Prelude.{◌≡◌, ◌⊎◌, ℕ, true, List, Some, None}
use Rattle.classfile.specs.Methods.{Method}
use Rattle.hierarchy.specs.Class.{ClassFact}
use Rattle.insn.specs.Operators.{StackForm}
use Rattle.insn.specs.Meanings.{Act}
use Rattle.frames.specs.FrameFact.{FrameFact}
use Rattle.frames.specs.Conditions.{reason, least}
use Rattle.rules.specs.ReasonNumbers.{missing_operand, wrong_operand, wrong_local}
use Rattle.rules.specs.TypingRules.{TypingRule, rearranges, makes}
use Rattle.rules.specs.Table.{typing_rule}
use Rattle.rules.specs.After.{form_for}
use Rattle.rules.specs.Rules.{is_on_stack, conditions}
use Rattle.rules.specs.ExpectedTypes.{expected_types}
use Rattle.rules.specs.Unmet.{UnmetFact, first_unmet}

-- a wrong operand (62) that is none of the operands which the instruction takes
pub data HasNoForm (at : ℕ) (p : TypingRule) (f : FrameFact) : Type 0 where
  -- it moves items of the stack, and those on top are of none of its forms
  of_no_form : (forms : List StackForm) → p ≡ rearranges forms → form_for forms f.stack ≡ None → HasNoForm at p f
  -- it is a `new`, and an object that an earlier pass over it made is on the stack
  still_there : (name : List ℕ) → p ≡ makes name → is_on_stack at f.stack ≡ true → HasNoForm at p f

module _ (classes : List ClassFact) (m : Method Act) (at : ℕ) (p : TypingRule) (f : FrameFact) where
  -- the least of the reasons against the instruction has this number
  abbrev pub IsRefused : ℕ → Type 0
  IsRefused number = least (conditions classes m at p f) ≡ Some (reason number)

  abbrev pub IsFound : Type 0
  IsFound = (u : UnmetFact) × (first_unmet classes m (expected_types p) f ≡ Some u)

  pub record RefusedIsFound : Type 0 where
    pub missing : IsRefused missing_operand → IsFound
    pub wrong : IsRefused wrong_operand → IsFound ⊎ HasNoForm at p f
    pub local : IsRefused wrong_local → IsFound

-- for each instruction and each frame before it
abbrev pub UnmetIsFound : Type 0
UnmetIsFound = (classes : List ClassFact) (m : Method Act) (at : ℕ) (act : Act) (f : FrameFact)
    → RefusedIsFound classes m at (typing_rule m act) f
