use Rattle.std.proofs.Common.{◌∙◌, ℕ, List, get_or, length, sym, ap, subst, arith}
use Rattle.std.specs.Prelude.{slice_set}
use Rattle.std.proofs.lemmas.List.{length-set}
use Rattle.method_frames.specs.NumberedFrames.{NumberedFrames}
use Rattle.type_numbers.specs.Numbers.{IsGiven}
use Rattle.verify.proofs.Applied.{one_set, all_set}
use Rattle.verify.proofs.applying.set_locals.Goals as goal

pub set_local-requires-clause-place : goal.set_local-requires-clause-place
set_local-requires-clause-place g c = omega (arith, c.loop-place.invariant.size, c.loop-place-test.true)

pub set_local-requires-clause-given : goal.set_local-requires-clause-given
set_local-requires-clause-given g c =
    let i = c.loop-place.place in
    subst (λ s. IsGiven s (get_or c.args.numbers.now i 0)) (sym (ap (λ (y : NumberedFrames). y.types) c.loop-place.invariant.set)) (c.requires.given i (omega (arith, c.loop-place-test.true)))

pub loop-place-preserved : goal.loop-place-preserved
loop-place-preserved g c =
    let start = c.args.frames.now in
    let xs = c.args.numbers.now in
    let i = c.loop-place.place in
    let n = get_or xs i 0 in
    record {
      set =
          c.in_ok-set_local.ensures.ok ∙ ap (λ (y : NumberedFrames). record y { running = record y.running { locals = slice_set y.running.locals i n } }) c.loop-place.invariant.set
          ∙ ap (λ (ns : List ℕ). record start { running = record start.running { locals = ns } }) (one_set xs start.running.locals i (omega (arith, c.loop-place-test.true)) c.requires.size);
      size = ap (λ (y : NumberedFrames). length y.running.locals) c.in_ok-set_local.ensures.ok ∙ length-set c.loop-place.frames.running.locals i n ∙ c.loop-place.invariant.size;
    }

pub returns : goal.returns
returns g c =
    let start = c.args.frames.now in
    let xs = c.args.numbers.now in
    c.loop-place.invariant.set
    ∙ ap (λ (ns : List ℕ). record start { running = record start.running { locals = ns } }) (all_set xs start.running.locals c.loop-place.place (omega arith) c.requires.size)
