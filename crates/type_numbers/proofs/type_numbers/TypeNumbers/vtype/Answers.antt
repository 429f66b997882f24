use Rattle.std.proofs.Common.{◌∙◌, ap, subst, sym}
use Rattle.frames.specs.VerificationType.{type_of}
use Rattle.hierarchy.proofs.Names.{none_some, some_same}
use Rattle.type_numbers.specs.Numbers.{IsNumber}
use Rattle.type_numbers.specs.Decoding.{type_at}
use Rattle.std.specs.Option.{option_map}
use Rattle.type_numbers.proofs.Decoded.{read_back}
use Rattle.type_numbers.proofs.type_numbers.TypeNumbers.vtype.Goals as goal

pub unreachable-requires : goal.unreachable-requires
unreachable-requires g c =
    let s = c.args.self.now in
    let e = c.of.ensures in
    none_some (ap (option_map type_of) (sym c.in-None.is) ∙ c.type_at.ensures ∙ (λ i. type_at s (e.tag i) (e.dims i) (e.rest i)) ∙ read_back s c.args.number c.requires.0 c.requires.1)

pub returns : goal.returns
returns g c =
    let s = c.args.self.now in
    let e = c.of.ensures in
    let t = c.requires.0 in
    let same = some_same (ap (option_map type_of) (sym c.in-Some.is) ∙ c.type_at.ensures ∙ (λ i. type_at s (e.tag i) (e.dims i) (e.rest i)) ∙ read_back s c.args.number t c.requires.1) in
    subst (IsNumber s c.args.number) (sym same) c.requires.1
