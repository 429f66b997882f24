-- The program's tables: of opcodes, of numeric operators, and of the operators that move what is on the stack.
use Rattle.std.specs.Prelude.{◌≡◌, ℕ, List, map, Option, Some, None, option_map}
use denote.Ref.{Bor}
use Rattle.insn.specs.declared.opcode.Opcode.{Opcode}
use Rattle.insn.specs.declared.acts.Act.{Act}
use Rattle.insn.specs.declared.kinds.Kind.{Kind}
use Rattle.insn.specs.declared.acts.Meaning.{Meaning}
use Rattle.insn.specs.declared.operators.NumericOperator.{NumericOperator}
use Rattle.insn.specs.declared.stack.StackForm as stacks
use Rattle.insn.specs.declared.stack.StackOperator.{StackOperator}
use Rattle.insn.specs.declared.table.Form.{Form}
use Rattle.insn.specs.declared.table.Form.TheVariants as forms
use Rattle.insn.specs.Operators.{NumericRow, StackForm}
use Rattle.insn.specs.Instructions.{nothing}
use Rattle.insn.specs.Meanings as means
use Rattle.insn.specs.Meanings.{act}
use Rattle.insn.specs.Opcodes.{Row, row, number, form, opcode_of}
use Rattle.insn.specs.Views.{act_view, stack_form_view}

-- a row of the table of opcodes
abbrev pub TableRow : Type 0
TableRow = Opcode × Bor (List ℕ) × Form × Meaning × Option Act

abbrev pub table_row : TableRow → Row
table_row r = record { number = number r.0; mnemonic = r.1.now; form = r.2; meaning = r.3 }

abbrev pub table_opcode : TableRow → Opcode
table_opcode r = r.0

abbrev pub table_act : TableRow → Option means.Act
table_act r = option_map act_view r.4

-- the act of an opcode after which nothing stands
abbrev pub act_where : Form → Opcode → Option means.Act
act_where forms.Nothing o = Some (act (record { opcode = o; operands = nothing }))
act_where form o = None

abbrev pub act_alone : Opcode → Option means.Act
act_alone o = act_where (form o) o

-- the table's row of an opcode that has this number
pub record IsRowOf (n : ℕ) (r : TableRow) : Type 0 where
  pub opcode : opcode_of n ≡ Some (table_opcode r)
  pub row : table_row r ≡ row (table_opcode r)
  pub act : table_act r ≡ act_alone (table_opcode r)

-- a row of the numeric operators
abbrev pub NumericTableRow : Type 0
NumericTableRow = NumericOperator × Bor (List Kind) × Kind

abbrev pub numeric_table_row : NumericTableRow → NumericRow
numeric_table_row r = record { taken = r.1.now; given = r.2 }

abbrev pub numeric_table_operator : NumericTableRow → NumericOperator
numeric_table_operator r = r.0

-- a row of the operators that move what is on the stack
abbrev pub StackTableRow : Type 0
StackTableRow = StackOperator × Bor (List stacks.StackForm)

abbrev pub stack_table_row : StackTableRow → List StackForm
stack_table_row r = map stack_form_view r.1.now

abbrev pub stack_table_operator : StackTableRow → StackOperator
stack_table_operator r = r.0
