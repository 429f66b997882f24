-- The program's instructions, without where their bytes lie in memory.
use Rattle.std.specs.Prelude.{ℕ, ℤ, List, map}
use Rattle.insn.specs.declared.acts.Act.{Act}
use Rattle.insn.specs.declared.acts.Act.TheVariants as acts
use Rattle.insn.specs.declared.switch.Targets.{Targets}
use Rattle.insn.specs.declared.switch.Targets.TheVariants as targets
use Rattle.insn.specs.declared.switch.Offsets.{Offsets}
use Rattle.insn.specs.declared.switch.Pairs.{Pairs}
use Rattle.insn.specs.declared.switch.TableSwitch.{TableSwitch}
use Rattle.insn.specs.declared.switch.LookupSwitch.{LookupSwitch}
use Rattle.insn.specs.declared.stack.StackForm as forms
use Rattle.insn.specs.Operators.{StackForm}
use Rattle.insn.specs.Meanings as means
use Rattle.insn.specs.declared.instruction.Operands.{Operands}
use Rattle.insn.specs.declared.instruction.Operands.TheVariants as operands
use Rattle.insn.specs.declared.instruction.Insn as insns
use Rattle.insn.specs.Instructions as is
use Rattle.insn.specs.Instructions.{Instruction}
use Rattle.insn.specs.SwitchParts.{table_switch_of, lookup_switch_of}

abbrev pub operands_view : Operands → is.Operands
operands_view operands.Nothing = is.nothing
operands_view (operands.Byte value) = is.byte value
operands_view (operands.Short value) = is.short value
operands_view (operands.Constant index) = is.constant index
operands_view (operands.Index index) = is.index index
operands_view (operands.Local local) = is.local local
operands_view (operands.Increment local by) = is.increment local by
operands_view (operands.Branch offset) = is.branch offset
operands_view (operands.WideBranch offset) = is.wide_branch offset
operands_view (operands.InvokeInterface index count) = is.invoke_interface index count
operands_view (operands.InvokeDynamic index) = is.invoke_dynamic index
operands_view (operands.NewArray element) = is.new_array element
operands_view (operands.MultiNewArray index dimensions) = is.multi_new_array index dimensions
operands_view (operands.TableSwitch bytes) = table_switch_of bytes.now
operands_view (operands.LookupSwitch bytes) = lookup_switch_of bytes.now
operands_view (operands.WideLocal opcode local) = is.wide_local opcode local
operands_view (operands.WideIncrement opcode local by) = is.wide_increment opcode local by

abbrev pub view : insns.Insn → Instruction
view i = record { opcode = i.opcode; operands = operands_view i.operands }

-- an instruction with the offset where it begins
abbrev pub located : ℕ × insns.Insn → ℕ × Instruction
located x = (x.0, view x.1)

-- instructions with the offsets where they begin
abbrev pub views : List (ℕ × insns.Insn) → List (ℕ × Instruction)
views xs = map located xs

-- a switch of these parts
abbrev pub table_switch_view : TableSwitch → is.Operands
table_switch_view s = is.table_switch s.padding.now s.default s.low s.high s.offsets.now

abbrev pub lookup_switch_view : LookupSwitch → is.Operands
lookup_switch_view s = is.lookup_switch s.padding.now s.default s.count s.pairs.now

-- where a switch goes, by its bytes
abbrev pub targets_view : Targets → List ℤ
targets_view (targets.Offsets bytes) = means.offsets bytes.now
targets_view (targets.Pairs bytes) = means.pair_offsets bytes.now

-- what is left of a switch's offsets, and of its pairs
abbrev pub offsets_left : Offsets → List ℤ
offsets_left s = targets_view s.targets

abbrev pub pairs_left : Pairs → List (ℤ × ℤ)
pairs_left s = is.pairs s.bytes.now

abbrev pub stack_form_view : forms.StackForm → StackForm
stack_form_view f = record { takes = f.takes.now; leaves = f.leaves.now }

abbrev pub act_view : Act → means.Act
act_view acts.Nothing = means.Nothing
act_view (acts.Constant kind) = means.Constant kind
act_view acts.ConstantNull = means.ConstantNull
act_view (acts.LoadConstant index) = means.LoadConstant index
act_view (acts.LoadWideConstant index) = means.LoadWideConstant index
act_view (acts.Load kind local) = means.Load kind local
act_view (acts.LoadReference local) = means.LoadReference local
act_view (acts.Store kind local) = means.Store kind local
act_view (acts.StoreReference local) = means.StoreReference local
act_view (acts.Increment local) = means.Increment local
act_view (acts.Numeric operator) = means.Numeric operator
act_view (acts.Stack operator) = means.Stack operator
act_view (acts.IfInt offset) = means.IfInt offset
act_view (acts.IfInts offset) = means.IfInts offset
act_view (acts.IfReferences offset) = means.IfReferences offset
act_view (acts.IfNull offset) = means.IfNull offset
act_view (acts.Goto offset) = means.Goto offset
act_view (acts.Switch default where_to) = means.Switch default (targets_view where_to)
act_view (acts.Return kind) = means.Return kind
act_view acts.ReturnReference = means.ReturnReference
act_view acts.ReturnVoid = means.ReturnVoid
act_view (acts.GetStatic index) = means.GetStatic index
act_view (acts.PutStatic index) = means.PutStatic index
act_view (acts.GetField index) = means.GetField index
act_view (acts.PutField index) = means.PutField index
act_view (acts.InvokeVirtual index) = means.InvokeVirtual index
act_view (acts.InvokeSpecial index) = means.InvokeSpecial index
act_view (acts.InvokeStatic index) = means.InvokeStatic index
act_view (acts.InvokeInterface index count) = means.InvokeInterface index count
act_view (acts.InvokeDynamic index) = means.InvokeDynamic index
act_view (acts.New index) = means.New index
act_view (acts.LoadElement element) = means.LoadElement element
act_view (acts.StoreElement element) = means.StoreElement element
act_view acts.LoadReferenceElement = means.LoadReferenceElement
act_view acts.StoreReferenceElement = means.StoreReferenceElement
act_view acts.ArrayLength = means.ArrayLength
act_view (acts.NewArray element) = means.NewArray element
act_view (acts.NewReferenceArray index) = means.NewReferenceArray index
act_view (acts.NewMultiArray index dimensions) = means.NewMultiArray index dimensions
act_view (acts.CheckCast index) = means.CheckCast index
act_view (acts.InstanceOf index) = means.InstanceOf index
act_view acts.Throw = means.Throw
act_view acts.Monitor = means.Monitor
act_view acts.Unsupported = means.Unsupported

-- an act with the offset where its instruction begins
abbrev pub act_located : ℕ × Act → ℕ × means.Act
act_located x = (x.0, act_view x.1)
