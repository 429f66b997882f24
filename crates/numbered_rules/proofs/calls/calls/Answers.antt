use Rattle.std.specs.Prelude.{IfSome}
use Rattle.std.proofs.Common.{◌≡◌, ◌∙◌, map, option_map, sym, ap, subst}
use Rattle.hierarchy.specs.Answer.{outcome_of}
use Rattle.frames.specs.Slots.{descriptor_type}
use Rattle.type_numbers.specs.MethodNumbers.{AreNumbers}
use Rattle.type_numbers.specs.Numbers.{IsGiven}
use Rattle.rules.specs.Bodies.{method_view}
use Rattle.rules.specs.Outcomes.{Done, pushed, settled}
use Rattle.rules.specs.TypingRules.{arguments_on, result_types}
use Rattle.rules.proofs.Settling.{off_done, not_no}
use Rattle.numbered_rules.specs.Expected.{types_given}
use Rattle.numbered_rules.specs.RunningFrame.{held}
use Rattle.numbered_rules.specs.private.Calls.{receivers}
use Rattle.numbered_rules.proofs.Calling.{numbers_given}
use Rattle.numbered_rules.proofs.Naming.{result_given, if_number_given}
use Rattle.numbered_rules.proofs.Taking.{running_then, types_stay}
use Rattle.numbered_rules.proofs.calls.calls.Goals as goal

pub take_arguments-requires-clause-parameters : goal.take_arguments-requires-clause-parameters
take_arguments-requires-clause-parameters g c =
    let s = c.args.frames.now.types in
    let t = c.requires.types.0 in
    numbers_given s c.arguments.result.now (map descriptor_type t.params) (subst (λ ns. AreNumbers s ns (map descriptor_type t.params)) (sym c.arguments.ensures) c.requires.types.1.arguments)

pub push_result_if_any-requires : goal.push_result_if_any-requires
push_result_if_any-requires g c =
    let s = c.args.frames.now.types in
    let t = c.requires.types.0 in
    subst (λ z. IfSome c.args.called.result (IsGiven z)) (sym (types_stay c.args.frames.now c.take_arguments.new.frames c.in-Some.ensures.rest))
    (if_number_given s c.args.called.result (option_map descriptor_type t.result) c.requires.types.1.result)

pub returns-in_default : goal.returns-in_default
returns-in_default g c = record {
  done = λ at t r h k.
      let s = c.args.frames.now.types in
      let m = method_view c.args.method.now in
      let f = held c.args.frames.now in
      let a = outcome_of c.in-Some.answer in
      let y = held c.take_arguments.new.frames in
      let ws = arguments_on t.params (receivers r) in
      let numbers = subst (λ ns. AreNumbers s ns (map descriptor_type t.params)) (sym c.arguments.ensures) h.arguments in
      let same : types_given c.take_arguments.new.frames.types c.args.called.result ≡ result_types t.result =
      ap (λ z. types_given z c.args.called.result) (types_stay c.args.frames.now c.take_arguments.new.frames c.in-Some.ensures.rest) ∙ result_given s c.args.called.result t.result h.result in
      off_done s.classes m ws (result_types t.result) f a y (held c.push_result_if_any.new.frames) c.push_result_if_any.result
      (c.in-Some.ensures.taken t.params r numbers k) (not_no c.in-Some.answer c.in_default.not-No)
      (subst (λ gs. Done (settled m a (pushed gs y)) (pushed gs y) (held c.push_result_if_any.new.frames) c.push_result_if_any.result) same c.push_result_if_any.ensures.done);
  rest = running_then c.args.frames.now c.take_arguments.new.frames c.push_result_if_any.new.frames c.in-Some.ensures.rest c.push_result_if_any.ensures.rest;
}
