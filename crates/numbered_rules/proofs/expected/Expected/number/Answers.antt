use Rattle.frames.specs.Slots.{number_type}
use Rattle.numbered_rules.proofs.Standing.{kind_stands}
use Rattle.numbered_rules.proofs.expected.Expected.number.Goals as goal

pub returns-clause-stands : goal.returns-clause-stands
returns-clause-stands c = λ s. kind_stands s c.number_of.result c.args.kind (c.number_of.ensures.given s)

pub returns-clause-given : goal.returns-clause-given
returns-clause-given c = λ s. (number_type c.args.kind, c.number_of.ensures.given s)
