use Rattle.std.proofs.Common.{get_or, refl}
use Rattle.hierarchy.specs.Summary.{fact_of}
use Rattle.hierarchy.proofs.Names.{at_map}
use Rattle.hierarchy.proofs.places.name_at.Goals as goal

pub returns : goal.returns
returns c =
    let xs = c.args.classes.now in
    let d = c.index-classes-place.result in
    (fact_of (get_or xs c.args.place d), at_map fact_of xs c.args.place d c.requires, refl)
