-- The program's values for the offsets to which an instruction branches, as lists of offsets.
use Rattle.std.specs.Prelude.{ℤ, List, [], ◌∷◌, ◌++◌, option_to_list}
use Rattle.insn.specs.declared.branching.Branches.{Branches}
use Rattle.insn.specs.declared.branching.Branches.TheVariants.{Nowhere, One, Switch}
use Rattle.insn.specs.declared.branching.BranchTargets.{BranchTargets}
use Rattle.insn.specs.Offsets.{led_to}
use Rattle.insn.specs.Views.{targets_view, offsets_left}

-- the offsets from the instruction's start
abbrev pub branches_view : Branches → List ℤ
branches_view Nowhere = []
branches_view (One offset) = offset ∷ []
branches_view (Switch default where_to) = default ∷ targets_view where_to

-- the offsets in the code that an iterator of branch targets has yet to return
abbrev pub targets_of : BranchTargets → List ℤ
targets_of t = led_to t.at (option_to_list t.first ++ offsets_left t.others)
