use Rattle.std.proofs.Common.{◌∙◌, refl, sym, subst}
use Rattle.hierarchy.specs.declared.spot.Spot.{Spot}
use Rattle.hierarchy.specs.private.Flags.{GetsNumber}
use Rattle.hierarchy.specs.Summary.{asked, text_among}
use Rattle.hierarchy.proofs.Guarding.{none_above, one_above}
use Rattle.hierarchy.proofs.starts.start_of.Goals as goal

pub returns-in_default-clause-start : goal.returns-in_default-clause-start
returns-in_default-clause-start c places class name is =
    none_above places c.args.numbers.now class (asked c.args.numbering.now.texts.now name c.args.member) (sym c.in_default.is ∙ is)

pub returns-clause-start : goal.returns-clause-start
returns-clause-start c places class name is =
    let first = c.in_ok-name.ensures.number in
    let second = subst (λ ts. GetsNumber c.number.new.numbers c.number-2.new.numbers (text_among ts c.args.member.descriptor) c.in_ok-descriptor.descriptor) c.in_ok-name.ensures.same c.in_ok-descriptor.ensures.number in
    let start : Spot = record { name = c.in_ok-name.name; descriptor = c.in_ok-descriptor.descriptor; kind = c.args.member.kind; place = c.in-Some.place } in
    one_above places c.number-2.new.numbers class (asked c.args.numbering.now.texts.now name c.args.member) start (sym c.in-Some.is ∙ is)
    (record { name = second.kept _ _ first.here; descriptor = second.here; kind = refl })
