use Rattle.std.proofs.Common.{◌≡◌, ◌∙◌, ◌<◌, ◌≤◌, length, get_or, map, sym, ap, subst, arith}
use Rattle.std.proofs.Math.ListN.{get_or-map}
use Rattle.std.proofs.lemmas.List.{length-map}
use Rattle.hierarchy.specs.Answer.{outcome_of}
use Rattle.frames.specs.FrameAssignable.{both}
use Rattle.type_numbers.specs.Decoding.{type_by}
use Rattle.method_frames.specs.NumberedFrames.{NumberedFrames}
use Rattle.numbered_rules.specs.Expected.{accepts_by, IsExpected}
use Rattle.numbered_rules.proofs.Taking.{taking_first, taking_more, taking_none, taking_end, types_stay}
use Rattle.numbered_rules.proofs.operands.take.Goals as goal

pub loop-ask-init : goal.loop-ask-init
loop-ask-init g c = taking_first (map g.A.Asked.asked c.args.asked.now) c.args.frames.now

pub meets-requires-clause-expected : goal.meets-requires-clause-expected
meets-requires-clause-expected g c =
    let asked = g.A.Asked.asked in
    let all = c.args.asked.now in
    let i = c.loop-ask.ask-index in
    let d = c.ask-item.result in
    let long = length-map all asked in
    let within : i < length (map asked all) = omega (arith, long, c.loop-ask-test.true) in
    let same : c.types.result.now ≡ c.args.frames.now.types = c.types.ensures ∙ ap (λ (x : NumberedFrames). x.types) (sym c.in-Some.ensures.taken) ∙ types_stay c.args.frames.now c.loop-ask.frames c.loop-ask.invariant.running in
    let is : c.expected.result ≡ get_or (map asked all) i (asked d) = c.expected.ensures ∙ ap asked c.ask-item.is ∙ sym (get_or-map asked all i d) in
    subst (λ s. IsExpected s c.expected.result) (sym same) (subst (IsExpected c.args.frames.now.types) (sym is) (c.requires i (asked d) within))

pub loop-ask-preserved : goal.loop-ask-preserved
loop-ask-preserved g c =
    let asked = g.A.Asked.asked in
    let all = c.args.asked.now in
    let i = c.loop-ask.ask-index in
    let d = c.ask-item.result in
    let long = length-map all asked in
    let within : i < length (map asked all) = omega (arith, long, c.loop-ask-test.true) in
    taking_more (map asked all) c.args.frames.now c.loop-ask.frames i (outcome_of c.loop-ask.so_far) (asked d) within c.loop-ask.invariant
    c.pop.new.self c.in-Some.number (outcome_of c.both-so_far.result) c.types.result.now c.in-Some.ensures.taken c.types.ensures
    (c.both-so_far.ensures
    ∙ ap (both (outcome_of c.loop-ask.so_far)) (c.meets.ensures
    ∙ ap (λ e. accepts_by c.types.result.now e (type_by c.types.result.now c.in-Some.number)) (c.expected.ensures ∙ ap asked c.ask-item.is ∙ sym (get_or-map asked all i d))))

pub returns-in-None-clause-taken : goal.returns-in-None-clause-taken
returns-in-None-clause-taken g c =
    let asked = g.A.Asked.asked in
    let all = c.args.asked.now in
    let long = length-map all asked in
    let within : c.loop-ask.ask-index < length (map asked all) = omega (arith, long, c.loop-ask-test.true) in
    taking_none (map asked all) c.args.frames.now c.loop-ask.frames c.loop-ask.ask-index (outcome_of c.loop-ask.so_far) (asked c.ask-item.result) within c.loop-ask.invariant c.in-None.ensures.taken.0

pub returns-clause-taken : goal.returns-clause-taken
returns-clause-taken g c =
    let asked = g.A.Asked.asked in
    let all = c.args.asked.now in
    let long = length-map all asked in
    let past : length (map asked all) ≤ c.loop-ask.ask-index = omega (arith, long, c.loop-ask-test.false) in
    taking_end (map asked all) c.args.frames.now c.loop-ask.frames c.loop-ask.ask-index (outcome_of c.loop-ask.so_far) past c.loop-ask.invariant
