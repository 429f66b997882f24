use Rattle.type_numbers.proofs.Given.{plain_given}
use Rattle.type_numbers.proofs.type_numbers.TypeNumbers.number.Goals as goal

pub returns-in_default-clause-given : goal.returns-in_default-clause-given
returns-in_default-clause-given g c = plain_given c.args.self.now (g.C.Classes.content c.self.inside.classes.now) c.args.vtype.now c.pack.result c.in_default.not-Class c.in_default.not-Array c.in_default.not-Uninit c.pack.ensures
