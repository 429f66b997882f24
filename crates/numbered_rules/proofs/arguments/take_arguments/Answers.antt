use Rattle.std.proofs.Common.{◌≡◌, ◌<◌, ◌-◌, option_map, refl, sym, subst, arith, length, get_or}
use Rattle.hierarchy.specs.Answer.{outcome_of}
use Rattle.frames.specs.Slots.{to_reference}
use Rattle.type_numbers.specs.Numbers.{IsNumberOf, IsGiven}
use Rattle.numbered_rules.proofs.Calling.{left_first, left_more, left_none, receiver_off, receiver_none, IsLeft, match_on}
use Rattle.numbered_rules.proofs.Taking.{types_stay}
use Rattle.numbered_rules.proofs.arguments.take_arguments.Goals as goal

pub loop-place-init : goal.loop-place-init
loop-place-init g c = left_first c.args.parameters.now c.args.receiver c.args.frames.now (length c.args.parameters.now) refl

pub take_one-requires : goal.take_one-requires
take_one-requires g c =
    let i = c.loop-place.place - 1 in
    let within : i < length c.args.parameters.now = omega arith in
    subst (λ s. IsGiven s (get_or c.args.parameters.now i 0)) (sym (types_stay c.args.frames.now c.loop-place.frames c.loop-place.invariant.running)) (c.requires.parameters i 0 within)

pub returns-in-None-clause-taken : goal.returns-in-None-clause-taken
returns-in-None-clause-taken g c =
    left_none c.args.parameters.now c.args.receiver c.args.frames.now c.loop-place.frames c.loop-place.place (outcome_of c.loop-place.so_far) (omega arith) (omega arith) c.loop-place.invariant c.in-None.ensures.taken

pub loop-place-preserved : goal.loop-place-preserved
loop-place-preserved g c =
    left_more c.args.parameters.now c.args.receiver c.args.frames.now c.loop-place.frames c.loop-place.place (outcome_of c.loop-place.so_far) (omega arith) (omega arith) c.loop-place.invariant
    c.take_one.new.frames (get_or c.args.parameters.now (c.loop-place.place - 1) 0) (outcome_of c.in-Some.answer) c.in-Some.ensures.rest c.in-Some.ensures.taken 0 refl

pub returns-in-Some-receiver-clause-taken : goal.returns-in-Some-receiver-clause-taken
returns-in-Some-receiver-clause-taken g c = λ ts r h k.
    let ns = c.args.parameters.now in
    let old = c.args.frames.now in
    let was = c.loop-place.frames in
    let a = outcome_of c.loop-place.so_far in
    let n = c.in-Some-receiver.class in
    let i = c.loop-place.place in
    let none : i ≡ 0 = omega (arith, c.loop-place-test.false) in
    let left = subst (λ o. IsLeft ns o old was i a) c.in-Some-receiver.is c.loop-place.invariant in
    let named = subst (λ o. IsNumberOf old.types o (option_map to_reference r)) c.in-Some-receiver.is k in
    match_on (λ e. receiver_none ns old was i a none n left e ts r h named)
    (λ b one. receiver_off ns old was i a none n left c.take_one-in-Some-receiver.new.frames (outcome_of b) one ts r h named)
    c.take_one-in-Some-receiver.result c.take_one-in-Some-receiver.ensures.taken
