-- The expected types of all that an instruction takes: of its operands, of the object that a constructor is called on,
-- and of a local variable; and how many units of the stack it moves (JVMS 4.10.1.9).
use Rattle.std.specs.Prelude.{ℕ, List, [], ◌∷◌, map, Option, Some, None, option_map}
use Rattle.insn.specs.declared.kinds.Kind.TheVariants as kinds
use Rattle.insn.specs.OperandStacks.{units_taken}
use Rattle.rules.specs.TypingRules.{ExpectedType, number, TypingRule, pops, loads, stores, increments, rearranges, loads_element, makes, constructs, calls_special, returns, refuses}
use Rattle.rules.specs.Table.{object_array}
use Rattle.rules.specs.Views.{expected_view}
use Rattle.rules.specs.declared.expected_types.ExpectedLocal.{ExpectedLocal as RawExpectedLocal}
use Rattle.rules.specs.declared.expected_types.ExpectedTypes.{ExpectedTypes as RawExpectedTypes}

-- a local variable, of so many units
pub record ExpectedLocal : Type 0 where
  pub place : ℕ
  pub width : ℕ
  pub expected : ExpectedType

pub record ExpectedTypes : Type 0 where
  -- that of the top of the stack first
  pub operands : List ExpectedType
  -- beneath them stands the object that a constructor of this class is called on
  pub receiver : Option (List ℕ)
  pub local : Option ExpectedLocal
  -- so many units of the stack are moved, whatever their types
  pub units : ℕ

abbrev pub of_operands : List ExpectedType → ExpectedTypes
of_operands types = record { operands = types; receiver = None; local = None; units = 0 }

abbrev pub of_nothing : ExpectedTypes
of_nothing = of_operands []

abbrev pub of_local : ℕ → ℕ → ExpectedType → ExpectedTypes
of_local n width expected = record {
  operands = [];
  receiver = None;
  local = Some (record { place = n; width = width; expected = expected });
  units = 0;
}

abbrev pub of_units : ℕ → ExpectedTypes
of_units units = record { operands = []; receiver = None; local = None; units = units }

-- ---- by the typing rule

abbrev pub expected_types : TypingRule → ExpectedTypes
expected_types (pops types gives offsets on) = of_operands types
expected_types (loads expected n width) = of_local n width expected
expected_types (stores expected n width) = of_operands (expected ∷ [])
expected_types (increments n) = of_local n 1 (number kinds.Int)
expected_types (rearranges forms) = of_units (units_taken forms)
expected_types loads_element = of_operands (number kinds.Int ∷ object_array ∷ [])
expected_types (makes name) = of_nothing
expected_types (constructs name types) = record { operands = types; receiver = Some name; local = None; units = 0 }
expected_types (calls_special type types gives) = of_operands types
expected_types returns = of_nothing
expected_types (refuses n) = of_nothing

-- ---- what values of the program stand for

abbrev pub local_view : RawExpectedLocal → ExpectedLocal
local_view l = record { place = l.place; width = l.width; expected = expected_view l.expected }

abbrev pub types_view : RawExpectedTypes → ExpectedTypes
types_view x = record {
  operands = map expected_view x.operands.items;
  receiver = option_map (λ n. n.now) x.receiver;
  local = option_map local_view x.local;
  units = x.units;
}
