use Rattle.std.proofs.Common.{◌∙◌, sym}
use Rattle.classfile.specs.LayoutViews.{numbers_view}
use Rattle.classfile.proofs.Rows.{either_numbers, variables_break}
use Rattle.classfile.proofs.number_form.numbers_have_fault.Goals as goal

pub returns-then-are_variable : goal.returns-then-are_variable
returns-then-are_variable c =
    c.variables_have_fault.ensures
    ∙ variables_break c.args.pool.now (numbers_view c.args.numbers.now) c.if-numbers.true (sym c.are_variable.ensures ∙ c.if-are_variable.true)

pub returns : goal.returns
returns c = c.numbers_break.ensures ∙ either_numbers c.args.pool.now (numbers_view c.args.numbers.now)
