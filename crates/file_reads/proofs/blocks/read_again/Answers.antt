use Rattle.std.proofs.Common.{List, ℕ, [], subst, sym}
use Rattle.layout.specs.declared.fault.ReadFault.TheVariants.{OutOfMemory}
use Rattle.file_reads.specs.private.BlockReads.{IsCutOf}
use Rattle.file_reads.proofs.Consumed.{none_is_front}
use Rattle.file_reads.proofs.blocks.read_again.Goals as goal

-- src/blocks.rt:55:1
pub returns-in-Err : goal.returns-in-Err
returns-in-Err g c before consumed =
    subst (λ (given : List ℕ). IsCutOf before given OutOfMemory) (sym c.new.ensures.items) (none_is_front before)
