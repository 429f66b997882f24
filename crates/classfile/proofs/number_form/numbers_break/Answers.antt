use Rattle.std.proofs.Common.{◌∙◌, not, sym, ap}
use Rattle.classfile.specs.LayoutViews.{numbers_view}
use Rattle.classfile.proofs.Rows.{plain_numbers}
use Rattle.classfile.proofs.number_form.numbers_break.Goals as goal

pub returns-else-not-are_plain : goal.returns-else-not-are_plain
returns-else-not-are_plain c =
    ap not c.if-not-are_plain.false ∙ sym (plain_numbers c.args.pool.now c.args.rule (numbers_view c.args.numbers.now) (sym c.are_plain.ensures ∙ c.if-not-are_plain.false))
