use Rattle.std.proofs.lemmas.Result.{err_from_is_err_and}
use Rattle.layout.specs.Format.{number, andthen, done}
use Rattle.layout.specs.StreamLaws.{then_led, led_nothing}
use Rattle.classfile.specs.Outline.{constant, is_wide, tagged}
use Rattle.classfile.proofs.Outlines.{streams_on, behind_streams}
use Rattle.classfile.proofs.outline.tagged.Goals as goal

pub returns-in_err-constant : goal.returns-in_err-constant
unfolding tagged
returns-in_err-constant g c =
    let p = err_from_is_err_and c.from_residual-in_err-constant.result c.from_residual-in_err-constant.ensures.1 in
    rw (p.1, p.2) (behind_streams (number 1) (λ tag. andthen (constant c.args.last tag) (λ skipped. done (is_wide tag))) _ _ _ _ _ _ _ _ c.in_ok-tag.ensures
    (streams_on (constant c.args.last c.in_ok-tag.tag) (λ skipped. done (is_wide c.in_ok-tag.tag)) (λ x. x) (λ x. x) _ _ _ _ _ c.in_err-constant.ensures))

pub returns : goal.returns
unfolding tagged
returns g c = rw c.is_wide.ensures (then_led (number 1) (λ tag. andthen (constant c.args.last tag) (λ skipped. done (is_wide tag))) _ _ _ _ _ _ _ _ c.in_ok-tag.ensures
    (then_led (constant c.args.last c.in_ok-tag.tag) (λ skipped. done (is_wide c.in_ok-tag.tag)) _ _ _ _ _ _ _ _ c.in_ok-constant.ensures (led_nothing _ _ _)))
