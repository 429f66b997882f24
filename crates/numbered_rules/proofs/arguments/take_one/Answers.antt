use Rattle.std.proofs.Common.{◌≡◌, ◌∙◌, sym, ap, arith}
use Rattle.std.proofs.lemmas.Bool.Decides.{nat_tests}
use Rattle.hierarchy.specs.Answer.{outcome_of}
use Rattle.frames.specs.Assignable.{type_answer}
use Rattle.frames.specs.FrameAssignable.{both}
use Rattle.frames.proofs.Slots.{both_yes}
use Rattle.frames.proofs.Types.{type_itself}
use Rattle.type_numbers.specs.Decoding.{type_by}
use Rattle.method_frames.specs.NumberedFrames.{NumberedFrames}
use Rattle.numbered_rules.proofs.Taking.{under_held}
use Rattle.numbered_rules.proofs.arguments.take_one.Goals as goal

pub returns-clause-taken : goal.returns-clause-taken
returns-clause-taken g c =
    let x = c.args.frames.now in
    let y = c.pop.new.self in
    let n = c.in_ok-top.top in
    let same : c.types.result.now ≡ x.types = c.types.ensures ∙ ap (λ (f : NumberedFrames). f.types) (sym c.in_ok-top.ensures.taken) in
    record {
      type = type_by x.types n;
      was = under_held x y n c.in_ok-top.ensures.taken;
      told = c.both.ensures ∙ ap (both (outcome_of c.args.so_far)) (c.meets-answer.ensures ∙ (λ i. type_answer (same i).classes (type_by (same i) n) (type_by (same i) c.args.number)));
    }

pub returns-then-number-top-clause-taken : goal.returns-then-number-top-clause-taken
returns-then-number-top-clause-taken g c =
    let x = c.args.frames.now in
    let n = c.in_ok-top.top in
    let t = type_by x.types n in
    let a = outcome_of c.args.so_far in
    let same : c.args.number ≡ n = grind (arith, nat_tests, c.if-number-top.true) in
    record {
      type = t;
      was = under_held x c.pop.new.self n c.in_ok-top.ensures.taken;
      told = sym (ap (both a) (ap (λ k. type_answer x.types.classes t (type_by x.types k)) same ∙ type_itself x.types.classes t) ∙ both_yes a);
    }
