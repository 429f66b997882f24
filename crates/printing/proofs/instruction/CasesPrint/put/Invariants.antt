-- The pairs that are gone were written.
use Rattle.std.specs.List.{flat_map}
use Rattle.insn.specs.Instructions.{pairs}
use Rattle.insn.specs.Views.{pairs_left}
use Rattle.printing.specs.InstructionLines.{pair_text}
use Rattle.printing.proofs.Writings.{SoFar}
use Rattle.printing.proofs.instruction.CasesPrint.put.Given as goal

abbrev pub invariant-loop-key : goal.invariant-loop-key
invariant-loop-key g l =
    SoFar (g.W.Write.contents l.initial.out) (g.W.Write.contents l.out) (flat_map (pair_text l.self.at) (pairs l.self.pairs.now)) (flat_map (pair_text l.self.at) (pairs_left l.key-iterator))
