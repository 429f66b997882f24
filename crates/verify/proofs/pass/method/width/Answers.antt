use Rattle.std.proofs.Common.{◌∙◌, cond, sym, ap}
use Rattle.frames.proofs.Walks.{width_is}
use Rattle.type_numbers.specs.Decoding.{type_by}
use Rattle.verify.proofs.pass.method.width.Goals as goal

pub returns-then-is_wide-clause-units : goal.returns-then-is_wide-clause-units
returns-then-is_wide-clause-units c = λ s. sym (width_is (type_by s c.args.number) ∙ ap (λ b. cond b 2 1) (sym (c.is_wide.ensures s) ∙ c.if-is_wide.true))

pub returns-else-is_wide-clause-units : goal.returns-else-is_wide-clause-units
returns-else-is_wide-clause-units c = λ s. sym (width_is (type_by s c.args.number) ∙ ap (λ b. cond b 2 1) (sym (c.is_wide.ensures s) ∙ c.if-is_wide.false))
