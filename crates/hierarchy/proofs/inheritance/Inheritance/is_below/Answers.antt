use Rattle.hierarchy.specs.Class.{IsSubclass}
use Rattle.hierarchy.specs.private.Versions.{value_at}
use Rattle.hierarchy.proofs.Lookups.{inherits_at, inherits_of, tells_is}
use Rattle.hierarchy.proofs.inheritance.Inheritance.is_below.Goals as goal

pub get-requires-clause-there : goal.get-requires-clause-there
get-requires-clause-there c =
    (inherits_at c.requires.good.0 c.args.self.now c.requires.good.1 c.args.class c.index.result.now c.requires.there c.index.ensures).2.is_chain

pub returns : goal.returns
returns c classes a b is at other =
    tells_is (IsSubclass classes a.name b.name) (value_at c.args.self.now.table.versions c.index.result.now.ancestors c.args.other) c.get.result c.get.ensures
    ((inherits_of classes c.args.self.now is c.args.class c.index.result.now a c.requires.there c.index.ensures at).chain c.args.other b other)
