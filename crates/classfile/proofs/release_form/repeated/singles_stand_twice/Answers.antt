use Rattle.std.proofs.Common.{◌∙◌, map, sym}
use Rattle.classfile.proofs.FewAttributes.{singles_once}
use Rattle.classfile.proofs.release_form.repeated.singles_stand_twice.Goals as goal

pub returns-else-two_are_long : goal.returns-else-two_are_long
returns-else-two_are_long g c =
    c.if-two_are_long.false
    ∙ sym (singles_once c.args.major c.args.pool.now c.args.location c.least_length.result (map g.A.Tabled.attribute c.args.attributes.now) c.least_length.ensures
    (sym c.two_are_long.ensures ∙ c.if-two_are_long.false))
