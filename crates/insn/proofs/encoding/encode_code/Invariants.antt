use Rattle.std.proofs.Common.{map, drop}
use Rattle.insn.specs.Views.{view}
use Rattle.insn.proofs.CodeSpellings.{SoFarWritten}
use Rattle.insn.proofs.encoding.encode_code.Given as goal

abbrev pub invariant-loop-insn : goal.invariant-loop-insn
invariant-loop-insn l = SoFarWritten (map view l.list) (map view (drop l.insn-index l.list)) l.out.items
