use Rattle.std.proofs.Common.{◌≡◌, ◌∙◌, ◌+◌, ◌≤◌, Some, get_or, map, take, ap, sym, subst, arith}
use Rattle.std.specs.Prelude.{ℕ, slice_get}
use Rattle.std.proofs.lemmas.Option.{slice_get-get_or}
use Rattle.frames.specs.declared.vtype.VType.TheVariants.{Top}
use Rattle.frames.specs.VerificationType.{type_of}
use Rattle.printing.proofs.Frames.{one_more_in_use, if_top_within}
use Rattle.printing.proofs.frame.count_in_use.Goals as goal

pub loop-i-preserved : goal.loop-i-preserved
loop-i-preserved c =
    let locals = c.args.locals.now in
    let i = c.loop-i.i in
    let count = c.loop-i.count in
    let x = get_or locals i Top in
    let here : slice_get locals i ≡ Some x = slice_get-get_or locals i Top c.loop-i-test.true in
    let few : count ≤ i + 1 = omega (arith, c.loop-i.invariant.0) in (
      subst (λ (n : ℕ). n ≤ i + 1) (sym c.if_top-count.ensures) (if_top_within (type_of x) count (i + 1) few),
      one_more_in_use locals i count x here c.loop-i.invariant.1 ∙ ap (λ (n : ℕ). map type_of (take n locals)) (sym c.if_top-count.ensures),
    )
