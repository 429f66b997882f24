use Rattle.std.proofs.Common.{ℕ}
use Rattle.std.proofs.lemmas.Result.{err_from_is_err_and}
use Rattle.layout.specs.Format.{number, andthen}
use Rattle.layout.specs.StreamLaws.{then_streams}
use Rattle.classfile.specs.Outline.{attribute, bytes}
use Rattle.classfile.proofs.Outlines.{streams_on, behind_streams}
use Rattle.classfile.proofs.outline.AttributeOutlined.read.Goals as goal

pub returns-in_err-length : goal.returns-in_err-length
unfolding attribute
returns-in_err-length g c =
    let p = err_from_is_err_and c.from_residual-in_err-length.result c.from_residual-in_err-length.ensures.1 in
    rw (p.1, p.2) (behind_streams (number 2) (λ name. andthen (number 4) bytes) _ _ _ _ _ _ _ _ c.in_ok-u2.ensures
    (streams_on (number 4) bytes (λ (n : ℕ). n) (λ x. x) _ _ _ _ _ c.in_err-length.ensures))

pub returns : goal.returns
unfolding attribute
returns g c = then_streams (number 2) (λ name. andthen (number 4) bytes) (λ x. x) _ _ _ _ _ _ _ _ c.in_ok-u2.ensures
    (then_streams (number 4) bytes (λ x. x) _ _ _ _ _ _ _ _ c.in_ok-length.ensures c.bytes.ensures)
