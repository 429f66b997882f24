use Rattle.std.proofs.Common.{refl, ◌∙◌, sym, arith}
use Rattle.classfile.specs.Views.{class_view}
use Rattle.classfile.proofs.Places.{class_is}
use Rattle.classfile.proofs.form.class_form.Goals as goal

pub returns-in-Some : goal.returns-in-Some
returns-in-Some c = (0, refl, class_is (class_view c.args.class.now) ∙ sym (c.in_ok-rule.ensures) ∙ c.in-Some.is, λ k lt. absurd (omega arith))

pub returns-in-None : goal.returns-in-None
returns-in-None c = λ n. class_is (class_view c.args.class.now) ∙ sym (c.in_ok-rule.ensures) ∙ c.in-None.is
