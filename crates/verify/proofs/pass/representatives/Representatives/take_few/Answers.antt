use Rattle.std.proofs.Common.{◌∙◌, ◌<◌, ◌≡◌, ℕ, refl, sym, ap, subst, arith}
use Rattle.std.specs.Prelude.{slice_index}
use Rattle.verify.specs.private.pass.Representatives.{TakesLocal}
use Rattle.verify.proofs.numbered.Representing.{changes_more, changes_all}
use Rattle.verify.proofs.pass.representatives.Representatives.take_few.Goals as goal

pub loop-place-preserved : goal.loop-place-preserved
loop-place-preserved g c =
    let x = c.args.frames.now in
    let until = c.args.self.now.until.items in
    let inv = c.loop-place.invariant in
    let place = c.in-Some.place in
    let first = c.in-Some.ensures.first in
    let inside = first.1 in
    record {
      within = omega (arith, inside);
      are = c.in_ok-all_take.ensures.representatives;
      until = c.all_take.ensures.until ∙ inv.until;
      taken =
          changes_more x until c.loop-place.from inv.taken place first.3
          (λ f lt. subst (λ n. TakesLocal x.types x.declared f place n) c.local.ensures.number
          (c.in_ok-all_take.ensures.taken c.if-not-branch.false f (subst (λ u. 0 < slice_index u.items f) (sym inv.until) lt)));
    }

pub returns-clause-taken : goal.returns-clause-taken
returns-clause-taken g c = λ t f lt. changes_all c.args.frames.now c.args.self.now.until.items c.loop-place.from c.loop-place.invariant.taken c.in_default.ensures.first f lt
