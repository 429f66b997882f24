-- Where each instruction goes, and whether it leaves the locals as they are.
use Rattle.std.specs.Prelude.{ℕ, ℤ, Bool, true, false, ◌&&◌, List, [], ◌∷◌, length, Option, Some, None, is_none, nat_eq}
use Rattle.insn.specs.Meanings as acts
use Rattle.insn.specs.Meanings.{Act, made_index}
use Rattle.rules.specs.Naming.{names_nothing}

-- an instruction goes on to the next one, where it is not refused
abbrev pub goes_on : Act → Bool
goes_on (acts.Goto offset) = false
goes_on (acts.Switch default offsets) = false
goes_on (acts.Return kind) = false
goes_on acts.ReturnReference = false
goes_on acts.ReturnVoid = false
goes_on acts.Throw = false
goes_on _ = true

-- where an instruction branches to, by offsets from its own start, the default of a switch first
abbrev pub branch_offsets : Act → List ℤ
branch_offsets (acts.IfInt offset) = offset ∷ []
branch_offsets (acts.IfInts offset) = offset ∷ []
branch_offsets (acts.IfReferences offset) = offset ∷ []
branch_offsets (acts.IfNull offset) = offset ∷ []
branch_offsets (acts.Goto offset) = offset ∷ []
branch_offsets (acts.Switch default offsets) = default ∷ offsets
branch_offsets _ = []

-- an instruction leaves all locals as they are
abbrev pub keeps_locals : Act → Bool
keeps_locals (acts.Store kind n) = false
keeps_locals (acts.StoreReference n) = false
keeps_locals (acts.InvokeSpecial i) = false
keeps_locals (acts.New i) = false
keeps_locals _ = true

-- it goes on to the next one and nowhere else, makes no object of a class, and names no constant of the pool
abbrev pub is_plain : Act → Bool
is_plain a = goes_on a && nat_eq (length (branch_offsets a)) 0 && is_none (made_index a) && names_nothing a

-- the method that `invokespecial` names, by its index
abbrev pub special_index : Act → Option ℕ
special_index (acts.InvokeSpecial i) = Some i
special_index _ = None
