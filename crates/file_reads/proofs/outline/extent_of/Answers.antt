use Rattle.file_reads.proofs.Extents.{rare_found}
use Rattle.file_reads.proofs.outline.extent_of.Goals as goal

pub returns-in_default : goal.returns-in_default
returns-in_default c =
    let split = c.in_ok-front.ensures.cases in
    rare_found c.args.last c.args.bytes.now c.in_ok-front.front.now c.rare_extent.result split.0 split.1 c.rare_extent.ensures
