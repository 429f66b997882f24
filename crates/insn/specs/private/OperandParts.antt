-- The parts of operands that acts take.
use Rattle.std.specs.Prelude.{◌≡◌, ℕ, Option, Some, None}
use Rattle.insn.specs.declared.instruction_acts.Parts.{Parts}
use Rattle.insn.specs.Instructions.{Operands}
use Rattle.insn.specs.declared.acts.Meaning.{Meaning}
use Rattle.insn.specs.Meanings.{Act, act_of, local_of, index_of, byte_of, offset_of, offsets_of}
use Rattle.insn.specs.declared.acts.Act as acts
use Rattle.insn.specs.Views.{act_view, targets_view}

-- these parts are those of the operands
pub record AreParts (p : Parts) (x : Operands) : Type 0 where
  pub local : p.local ≡ local_of x
  pub index : p.index ≡ index_of x
  pub byte : p.byte ≡ byte_of x
  pub offset : p.offset ≡ offset_of x
  pub targets : targets_view p.targets ≡ offsets_of x

-- The act of this meaning with any operands of which one part is this. Nothing is said where there is no act.
abbrev pub IsActBy : {P : Type 0} → (Operands → P) → Meaning → P → Option acts.Act → Type 0
IsActBy part m p (Some a) = (x : Operands) → p ≡ part x → act_view a ≡ act_of m x
IsActBy part m p None = Unit {0}

abbrev pub index_and_byte : Operands → ℕ × ℕ
index_and_byte x = (index_of x, byte_of x)

-- The act of this meaning with any operands. Nothing is said where there is no act.
abbrev pub IsActAlways : Meaning → Option acts.Act → Type 0
IsActAlways m (Some a) = (x : Operands) → act_view a ≡ act_of m x
IsActAlways m None = Unit {0}

-- the act of this meaning with operands of these parts
abbrev pub IsActOf : Meaning → Parts → Act → Type 0
IsActOf m p a = (x : Operands) → AreParts p x → a ≡ act_of m x
