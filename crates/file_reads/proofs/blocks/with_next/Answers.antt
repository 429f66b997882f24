use Rattle.std.proofs.Common.{List, ℕ, sym, subst, arith}
use Rattle.file_reads.specs.private.BlockReads.{IsReadOf}
use Rattle.file_reads.proofs.Consumed.{longer_is_cut}
use Rattle.file_reads.proofs.blocks.with_next.Goals as goal

-- src/blocks.rt:37:1
pub returns : goal.returns
returns g c before consumed =
    subst (IsReadOf before) (sym c.truncate.ensures.items)
    (longer_is_cut before (g.R.Read.remaining c.args.reader.now) c.args.bytes.items c.args.count consumed c.requires.outline
    (omega (arith, c.requires.within, c.if-count-len.false)))
