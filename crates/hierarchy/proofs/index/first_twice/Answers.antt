use Rattle.std.proofs.Common.{subst}
use Rattle.hierarchy.specs.Ancestors.{HasNone, IsLowest}
use Rattle.hierarchy.proofs.Table.{lowest_within, lowest_twice, not_none, summary_within}
use Rattle.hierarchy.proofs.index.first_twice.Goals as goal

pub name_at-requires : goal.name_at-requires
name_at-requires g c =
    let xs = c.args.classes.now in
    let w = c.requires.repeated in
    lowest_within xs c.args.names.now.keys c.args.place c.requires.named (summary_within xs c.args.place w.0 w.1) c.in_ok-places.places.items c.in_ok-places.ensures c.in-Some.i
    (subst (λ ps. IsLowest ps c.in-Some.i) c.deref.ensures.value c.in-Some.ensures)

pub unreachable-requires : goal.unreachable-requires
unreachable-requires g c =
    let xs = c.args.classes.now in
    let w = c.requires.repeated in
    not_none xs c.args.names.now.keys c.args.place c.requires.named (summary_within xs c.args.place w.0 w.1) c.in_ok-places.places.items c.in_ok-places.ensures w.0 w.1 w.2
    (subst HasNone c.deref.ensures.value c.in-None.ensures)

pub returns : goal.returns
returns g c =
    let xs = c.args.classes.now in
    let w = c.requires.repeated in
    lowest_twice xs c.args.names.now.keys c.args.place c.requires.named (summary_within xs c.args.place w.0 w.1) c.in_ok-places.places.items c.in_ok-places.ensures c.in-Some.i
    (subst (λ ps. IsLowest ps c.in-Some.i) c.deref.ensures.value c.in-Some.ensures)
    c.name_at.result.now c.requires.distinct c.name_at.ensures
