-- The code whose instructions are marked.
use Rattle.std.specs.Prelude.{ℕ, List}
use Rattle.insn.specs.Instructions.{Instruction}
use Rattle.insn.specs.Views.{views}
use Rattle.frames.specs.declared.code_starts.CodeStarts.{CodeStarts}
use Rattle.frames.specs.declared.code_starts.ListStarts.{ListStarts}

abbrev pub code_in : CodeStarts → List ℕ
code_in s = s.code.now

abbrev pub list_in : ListStarts → List (ℕ × Instruction)
list_in s = views s.list.now
