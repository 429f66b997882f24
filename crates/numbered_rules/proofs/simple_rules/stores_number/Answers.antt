use Rattle.numbered_rules.proofs.simple_rules.stores_number.Goals as goal

pub stores-requires-clause-asked : goal.stores-requires-clause-asked
stores-requires-clause-asked g c = c.number.ensures.given c.args.frames.now.types
