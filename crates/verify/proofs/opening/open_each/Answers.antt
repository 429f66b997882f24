use Rattle.std.proofs.Common.{◌++◌, ◌∷◌, [], sym, subst}
use Rattle.verify.specs.private.OpeningSteps.{AreOpened, IsDecodedOr, IsOpened}
use Rattle.verify.proofs.Openings.{each_more, none_each, taken_last}
use Rattle.verify.proofs.opening.open_each.Goals as goal

pub loop-class-init : goal.loop-class-init
loop-class-init c = λ reads none. subst (AreOpened reads) (sym c.in_ok-files.ensures.items) (none_each IsDecodedOr IsOpened reads none)

pub loop-class-preserved : goal.loop-class-preserved
loop-class-preserved c = λ reads all.
    let old = c.loop-class.files.items in
    let x = c.open.result in
    let l = taken_last IsDecodedOr reads c.args.classes.now c.loop-class.class-index c.class-item.result c.loop-class-test.true c.class-item.is all in
    subst (AreOpened reads) (sym c.in_ok-push.ensures.items)
    (subst (λ rs. AreOpened rs (old ++ x ∷ [])) (sym l.same)
    (each_more IsOpened l.front old l.last x (c.loop-class.invariant l.front l.before) (c.open.ensures l.last l.here)))
