use Rattle.std.proofs.Common.{◌∙◌, sym}
use Rattle.hierarchy.specs.private.Flags.{spot_with}
use Rattle.hierarchy.proofs.flags.spot_of.Goals as goal

pub get-name-requires : goal.get-name-requires
get-name-requires c = c.requires

pub get-descriptor-requires : goal.get-descriptor-requires
get-descriptor-requires c = let first = c.get-name.ensures c.requires.0 c.requires.1 c.requires.2 in (c.requires.0, c.requires.1, first.0)

pub returns-in_err-name : goal.returns-in_err-name
returns-in_err-name c numbers texts found =
    let first = c.get-name.ensures numbers texts found in
    let second = c.get-descriptor.ensures numbers texts first.0 in
    (second.0, c.from_residual.ensures ∙ λ i. spot_with ((sym c.in_err-name.was ∙ first.1) i) (second.1 i) c.args.member.kind c.args.place)

pub returns-in_err-descriptor : goal.returns-in_err-descriptor
returns-in_err-descriptor c numbers texts found =
    let first = c.get-name.ensures numbers texts found in
    let second = c.get-descriptor.ensures numbers texts first.0 in
    (second.0, c.from_residual-in_err-descriptor.ensures ∙ λ i. spot_with ((sym c.in_ok-name.was ∙ first.1) i) ((sym c.in_err-descriptor.was ∙ second.1) i) c.args.member.kind c.args.place)

pub returns : goal.returns
returns c numbers texts found =
    let first = c.get-name.ensures numbers texts found in
    let second = c.get-descriptor.ensures numbers texts first.0 in
    (second.0, λ i. spot_with ((sym c.in_ok-name.was ∙ first.1) i) ((sym c.in_ok-descriptor.was ∙ second.1) i) c.args.member.kind c.args.place)
