use Rattle.std.proofs.Common.{sym}
use Rattle.hierarchy.specs.Summary.{fact_of}
use Rattle.hierarchy.proofs.Doubling.{stay, step}
use Rattle.hierarchy.proofs.skips.first_skip.Goals as goal

pub returns-in-None : goal.returns-in-None
returns-in-None g c = stay c.args.index.now c.requires.formed c.args.place (fact_of c.args.class.now) c.requires.there (sym c.in-None.ensures)

pub returns-in-Some : goal.returns-in-Some
returns-in-Some g c = step c.args.index.now c.requires.formed c.args.place c.in-Some.above (fact_of c.args.class.now) c.requires.there (sym c.in-Some.ensures)
