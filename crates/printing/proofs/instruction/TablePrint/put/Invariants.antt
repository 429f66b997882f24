-- The offsets that are gone were written.
use Rattle.std.specs.List.{flat_map}
use Rattle.insn.specs.Meanings.{offsets}
use Rattle.insn.specs.Views.{offsets_left}
use Rattle.printing.specs.InstructionLines.{target_text}
use Rattle.printing.proofs.Writings.{SoFar}
use Rattle.printing.proofs.instruction.TablePrint.put.Given as goal

abbrev pub invariant-loop-offset : goal.invariant-loop-offset
invariant-loop-offset g l =
    SoFar (g.W.Write.contents l.initial.out) (g.W.Write.contents l.out) (flat_map (target_text l.self.at) (offsets l.self.offsets.now)) (flat_map (target_text l.self.at) (offsets_left l.offset-iterator))
