-- Instructions whose operands are unconstrained: any bytes after the opcode, as many as its form has, are its operands
-- (JVMS 6.5).
use Rattle.std.specs.Prelude.{ℕ, ◌<◌, ◌≤◌, List, [], ◌∷◌, length, Option, Some, None}
use Rattle.insn.specs.declared.opcode.Opcode.{Opcode}
use Rattle.insn.specs.declared.opcode.Opcode.TheVariants.{New}
use Rattle.insn.specs.declared.table.Form.{Form}
use Rattle.insn.specs.declared.table.Form.TheVariants as forms
use Rattle.insn.specs.Opcodes.{form, opcode_of}

-- how many bytes an instruction of this form has, if any bytes are its operands; otherwise 0
abbrev pub form_length : Form → ℕ
form_length forms.Nothing = 1
form_length forms.Byte = 2
form_length forms.Short = 3
form_length forms.Constant = 2
form_length forms.Index = 3
form_length forms.Local = 2
form_length forms.Increment = 3
form_length forms.Branch = 3
form_length forms.WideBranch = 5
form_length forms.NewArray = 2
form_length forms.MultiNewArray = 4
form_length forms.InvokeInterface = 0
form_length forms.InvokeDynamic = 0
form_length forms.TableSwitch = 0
form_length forms.LookupSwitch = 0
form_length forms.Wide = 0

-- how many bytes an instruction of this opcode has, if its operands are unconstrained and it is no `new`; otherwise 0
abbrev pub unconstrained_length : Option Opcode → ℕ
unconstrained_length None = 0
unconstrained_length (Some New) = 0
unconstrained_length (Some o) = form_length (form o)

-- an instruction with unconstrained operands, and no `new`, stands in front
abbrev pub HasUnconstrained : List ℕ → Type 0
HasUnconstrained [] = ⊥
HasUnconstrained (b ∷ bytes) =
    let n = unconstrained_length (opcode_of b) in (0 < n) × (n ≤ length (b ∷ bytes))
