-- Instructions that are taken by one look at the bytes in front.
use Rattle.std.specs.Prelude.{◌≡◌, ℕ, ◌<◌, ◌≤◌, Bool, true, false, List, length, take, drop, Option, Some, None, Ok}
use Rattle.layout.specs.Format.{Spells}
use Rattle.layout.specs.Place.{Place, Took}
use Rattle.insn.specs.declared.opcode.Opcode.{Opcode}
use Rattle.insn.specs.declared.opcode.Opcode.TheVariants.{New}
use Rattle.insn.specs.declared.acts.Act.{Act}
use Rattle.insn.specs.declared.acts.Meaning.{Meaning}
use Rattle.insn.specs.declared.table.Form.{Form}
use Rattle.insn.specs.declared.table.Form.TheVariants as forms
use Rattle.insn.specs.Code.{SpellsInstruction, modified}
use Rattle.insn.specs.Instructions.{Instruction, Operands, index, nothing, operands_at}
use Rattle.insn.specs.Meanings.{act, act_of, made_index}
use Rattle.insn.specs.Opcodes.{form}
use Rattle.insn.specs.Views.{act_view}

-- An instruction without operands was taken, and the place is after it; or nothing was, and the place is where it was.
abbrev pub TakesAlone : Place → Place → Option Opcode → Type 0
TakesAlone old new (Some o) = (form o ≡ forms.Nothing) × (first : List ℕ)
    × SpellsInstruction old.at first (record { opcode = o; operands = nothing }) × Took first old new
TakesAlone old new None = new ≡ old

-- An instruction that makes no object was taken, and the place is after it; or nothing was, and the place is where it
-- was.
abbrev pub SkipsUnconstrained : Place → Place → Bool → Type 0
SkipsUnconstrained old new true = (i : Instruction) × (made_index (act i) ≡ None) × (first : List ℕ)
    × SpellsInstruction old.at first i × Took first old new
SkipsUnconstrained old new false = new ≡ old

-- The `new` of a class of this index was taken, and the place is after it; or nothing was, and the place is where it
-- was.
abbrev pub TakesNew : Place → Place → Option ℕ → Type 0
TakesNew old new (Some k) = (first : List ℕ)
    × SpellsInstruction old.at first (record { opcode = New; operands = index k }) × Took first old new
TakesNew old new None = new ≡ old

-- An instruction of this act was taken, and the place is after it; or nothing was, and the place is where it was.
abbrev pub TakesAct : Place → Place → Option Act → Type 0
TakesAct old new (Some a) = (i : Instruction) × (act_view a ≡ act i) × (first : List ℕ)
    × SpellsInstruction old.at first i × Took first old new
TakesAct old new None = new ≡ old

-- Operands of this form stand after the first of these bytes, with which an instruction of this meaning has this act
-- and so many bytes.
pub record HasAct (bytes : List ℕ) (f : Form) (m : Meaning) (a : Act) (n : ℕ) : Type 0 where
  pub operands : Operands
  pub some : 0 < n
  pub within : n ≤ length bytes
  pub spelled : (at : ℕ) → Spells (operands_at at f) (drop 1 (take n bytes)) (Ok operands)
  pub plain : (o : Opcode) → modified o operands ≡ o
  pub act : act_view a ≡ act_of m operands
