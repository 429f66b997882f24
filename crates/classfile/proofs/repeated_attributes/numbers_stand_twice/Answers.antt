use Rattle.std.proofs.Common.{◌∙◌, map, sym}
use Rattle.classfile.proofs.FewAttributes.{stand_once}
use Rattle.classfile.proofs.repeated_attributes.numbers_stand_twice.Goals as goal

pub returns-else-two_have_numbers : goal.returns-else-two_have_numbers
returns-else-two_have_numbers g c =
    c.if-two_have_numbers.false ∙ sym (stand_once c.args.location (map g.A.Tabled.attribute c.args.attributes.now) (sym c.two_have_numbers.ensures ∙ c.if-two_have_numbers.false))
