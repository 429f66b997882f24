use Rattle.std.proofs.lemmas.Result.{err_from_is_err_and}
use Rattle.layout.specs.Format.{andthen}
use Rattle.layout.specs.StreamLaws.{then_streams}
use Rattle.classfile.specs.Outline.{attributes, numbers, members, interfaces, behind_pool}
use Rattle.classfile.proofs.Outlines.{streams_on, behind_streams}
use Rattle.classfile.proofs.outline.behind_pool.Goals as goal

pub returns-in_err-interfaces : goal.returns-in_err-interfaces
unfolding behind_pool
returns-in_err-interfaces g c =
    let p = err_from_is_err_and c.from_residual-in_err-interfaces.result c.from_residual-in_err-interfaces.ensures.1 in
    rw (p.1, p.2) (behind_streams (numbers 3) (λ skipped. andthen interfaces (λ skipped. andthen members (λ skipped. andthen members (λ skipped. attributes)))) _ _ _ _ _ _ _ _ c.in_ok-numbers.ensures
    (streams_on interfaces (λ skipped. andthen members (λ skipped. andthen members (λ skipped. attributes))) (λ x. x) (λ x. x) _ _ _ _ _ c.in_err-interfaces.ensures))

pub returns-in_err-members : goal.returns-in_err-members
unfolding behind_pool
returns-in_err-members g c =
    let p = err_from_is_err_and c.from_residual-in_err-members.result c.from_residual-in_err-members.ensures.1 in
    rw (p.1, p.2) (behind_streams (numbers 3) (λ skipped. andthen interfaces (λ skipped. andthen members (λ skipped. andthen members (λ skipped. attributes)))) _ _ _ _ _ _ _ _ c.in_ok-numbers.ensures
    (behind_streams interfaces (λ skipped. andthen members (λ skipped. andthen members (λ skipped. attributes))) _ _ _ _ _ _ _ _ c.in_ok-interfaces.ensures
    (streams_on members (λ skipped. andthen members (λ skipped. attributes)) (λ x. x) (λ x. x) _ _ _ _ _ c.in_err-members.ensures)))

pub returns-in_err-members-2 : goal.returns-in_err-members-2
unfolding behind_pool
returns-in_err-members-2 g c =
    let p = err_from_is_err_and c.from_residual-in_err-members-2.result c.from_residual-in_err-members-2.ensures.1 in
    rw (p.1, p.2) (behind_streams (numbers 3) (λ skipped. andthen interfaces (λ skipped. andthen members (λ skipped. andthen members (λ skipped. attributes)))) _ _ _ _ _ _ _ _ c.in_ok-numbers.ensures
    (behind_streams interfaces (λ skipped. andthen members (λ skipped. andthen members (λ skipped. attributes))) _ _ _ _ _ _ _ _ c.in_ok-interfaces.ensures
    (behind_streams members (λ skipped. andthen members (λ skipped. attributes)) _ _ _ _ _ _ _ _ c.in_ok-members.ensures
    (streams_on members (λ skipped. attributes) (λ x. x) (λ x. x) _ _ _ _ _ c.in_err-members-2.ensures))))

pub returns : goal.returns
unfolding behind_pool
returns g c = then_streams (numbers 3) (λ skipped. andthen interfaces (λ skipped. andthen members (λ skipped. andthen members (λ skipped. attributes)))) (λ x. x) _ _ _ _ _ _ _ _ c.in_ok-numbers.ensures
    (then_streams interfaces (λ skipped. andthen members (λ skipped. andthen members (λ skipped. attributes))) (λ x. x) _ _ _ _ _ _ _ _ c.in_ok-interfaces.ensures
    (then_streams members (λ skipped. andthen members (λ skipped. attributes)) (λ x. x) _ _ _ _ _ _ _ _ c.in_ok-members.ensures
    (then_streams members (λ skipped. attributes) (λ x. x) _ _ _ _ _ _ _ _ c.in_ok-members-2.ensures
    (c.attributes.ensures))))
