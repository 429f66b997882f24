use Rattle.names.proofs.TypeEndLaws.{base_to_end}
use Rattle.names.proofs.type_end.type_end.Goals as goal

pub returns-else-bytes-at-eq91-clause-read : goal.returns-else-bytes-at-eq91-clause-read
returns-else-bytes-at-eq91-clause-read c = λ h. base_to_end c.args.bytes.now c.args.at c.base_end.result c.requires.there c.if-bytes-at-eq91.false (c.base_end.ensures.read h)
