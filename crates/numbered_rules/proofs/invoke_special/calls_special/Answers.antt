use Rattle.std.specs.Prelude.{IfSome}
use Rattle.std.proofs.Common.{◌≡◌, ◌∙◌, [], ◌∷◌, map, option_map, sym, ap, subst, Some, inr}
use Rattle.names.specs.ReferenceTypes.{class_type}
use Rattle.hierarchy.specs.Answer.{no, outcome_of}
use Rattle.frames.specs.Assignable.{type_answer}
use Rattle.frames.specs.FrameAssignable.{both}
use Rattle.frames.specs.Slots.{to_reference, descriptor_type}
use Rattle.frames.specs.VerificationType.{class}
use Rattle.type_numbers.specs.MethodNumbers.{AreNumbers}
use Rattle.type_numbers.specs.Numbers.{IsNumber, IsGiven}
use Rattle.rules.specs.Bodies.{method_view}
use Rattle.rules.specs.Outcomes.{TookOff, Done, pushed, settled}
use Rattle.rules.specs.TypingRules.{expected_class, arguments_on, result_types}
use Rattle.rules.proofs.Settling.{not_no}
use Rattle.rules.proofs.SpecialCalls.{special_short, special_no, special_done}
use Rattle.numbered_rules.specs.Expected.{types_given}
use Rattle.numbered_rules.specs.RunningFrame.{held}
use Rattle.numbered_rules.proofs.Calling.{numbers_given}
use Rattle.numbered_rules.proofs.Naming.{result_given, if_number_given}
use Rattle.numbered_rules.proofs.Taking.{running_then, types_stay}
use Rattle.numbered_rules.proofs.invoke_special.calls_special.Goals as goal

pub take_arguments-requires : goal.take_arguments-requires
take_arguments-requires g c =
    let s = c.args.frames.now.types in
    let m = method_view c.args.method.now in
    let t = c.requires.called.0.type in
    record {
      parameters = numbers_given s c.arguments.result.now (map descriptor_type t.params) (subst (λ ns. AreNumbers s ns (map descriptor_type t.params)) (sym c.arguments.ensures) c.requires.called.1.types.arguments);
      receiver = (class m.class, c.requires.me);
    }

pub push_result_if_any-requires : goal.push_result_if_any-requires
push_result_if_any-requires g c =
    let s = c.args.frames.now.types in
    let t = c.requires.called.0.type in
    subst (λ z. IfSome c.args.called.types.result (IsGiven z)) (sym (types_stay c.args.frames.now c.take_arguments.new.frames c.in-Some.ensures.rest))
    (if_number_given s c.args.called.types.result (option_map descriptor_type t.result) c.requires.called.1.types.result)

pub returns-in_default-take_arguments : goal.returns-in_default-take_arguments
returns-in_default-take_arguments g c = record {
  done = λ at k h.
      let s = c.args.frames.now.types in
      let m = method_view c.args.method.now in
      let f = held c.args.frames.now in
      let me = class m.class in
      let ws = arguments_on k.type.params (expected_class m.class ∷ []) in
      let gs = result_types k.type.result in
      let types : c.types.result.now ≡ s = c.types.ensures in
      let told : outcome_of c.assignable-own.result ≡ type_answer s.classes me (to_reference k.class) =
      c.assignable-own.ensures me (to_reference k.class) (subst (λ z. IsNumber z c.args.me me) (sym types) c.requires.me) (subst (λ z. IsNumber z c.args.called.class (to_reference k.class)) (sym types) h.class)
      ∙ ap (λ z. type_answer z.classes me (to_reference k.class)) types in
      let may : type_answer s.classes me (to_reference k.class) ≡ no → ⊥ = λ e. not_no c.assignable-own.result c.in_default.not-No (told ∙ e) in
      let numbers = subst (λ ns. AreNumbers s ns (map descriptor_type k.type.params)) (sym c.arguments.ensures) h.types.arguments in
      record { outcome = inr (special_short s.classes m at k.class ws gs f may (c.in_default-take_arguments.ensures.taken k.type.params (Some (class_type m.class)) numbers c.requires.me)) };
  rest = c.in_default-take_arguments.ensures.rest;
}

pub returns-in-No-answer : goal.returns-in-No-answer
returns-in-No-answer g c = record {
  done = λ at k h.
      let s = c.args.frames.now.types in
      let m = method_view c.args.method.now in
      let f = held c.args.frames.now in
      let me = class m.class in
      let ws = arguments_on k.type.params (expected_class m.class ∷ []) in
      let gs = result_types k.type.result in
      let types : c.types.result.now ≡ s = c.types.ensures in
      let told : outcome_of c.assignable-own.result ≡ type_answer s.classes me (to_reference k.class) =
      c.assignable-own.ensures me (to_reference k.class) (subst (λ z. IsNumber z c.args.me me) (sym types) c.requires.me) (subst (λ z. IsNumber z c.args.called.class (to_reference k.class)) (sym types) h.class)
      ∙ ap (λ z. type_answer z.classes me (to_reference k.class)) types in
      let may : type_answer s.classes me (to_reference k.class) ≡ no → ⊥ = λ e. not_no c.assignable-own.result c.in_default.not-No (told ∙ e) in
      let numbers = subst (λ ns. AreNumbers s ns (map descriptor_type k.type.params)) (sym c.arguments.ensures) h.types.arguments in
      let y = held c.take_arguments.new.frames in
      let taken = subst (λ a. TookOff s.classes ws f (outcome_of a) y) c.in-No-answer.is (c.in-Some.ensures.taken k.type.params (Some (class_type m.class)) numbers c.requires.me) in
      record { outcome = inr (special_no s.classes m at k.class ws gs f may y taken) };
  rest = c.in-Some.ensures.rest;
}

pub returns-in_default-answer : goal.returns-in_default-answer
returns-in_default-answer g c = record {
  done = λ at k h.
      let s = c.args.frames.now.types in
      let m = method_view c.args.method.now in
      let f = held c.args.frames.now in
      let me = class m.class in
      let ws = arguments_on k.type.params (expected_class m.class ∷ []) in
      let gs = result_types k.type.result in
      let types : c.types.result.now ≡ s = c.types.ensures in
      let told : outcome_of c.assignable-own.result ≡ type_answer s.classes me (to_reference k.class) =
      c.assignable-own.ensures me (to_reference k.class) (subst (λ z. IsNumber z c.args.me me) (sym types) c.requires.me) (subst (λ z. IsNumber z c.args.called.class (to_reference k.class)) (sym types) h.class)
      ∙ ap (λ z. type_answer z.classes me (to_reference k.class)) types in
      let may : type_answer s.classes me (to_reference k.class) ≡ no → ⊥ = λ e. not_no c.assignable-own.result c.in_default.not-No (told ∙ e) in
      let numbers = subst (λ ns. AreNumbers s ns (map descriptor_type k.type.params)) (sym c.arguments.ensures) h.types.arguments in
      let y = held c.take_arguments.new.frames in
      let a = outcome_of c.in-Some.answer in
      let b = outcome_of c.both.result in
      let same : types_given c.take_arguments.new.frames.types c.args.called.types.result ≡ gs =
      ap (λ z. types_given z c.args.called.types.result) (types_stay c.args.frames.now c.take_arguments.new.frames c.in-Some.ensures.rest) ∙ result_given s c.args.called.types.result k.type.result h.types.result in
      special_done s.classes m at k.class ws gs f may a b y (held c.push_result_if_any.new.frames) c.push_result_if_any.result
      (c.in-Some.ensures.taken k.type.params (Some (class_type m.class)) numbers c.requires.me) (not_no c.in-Some.answer c.in_default-answer.not-No)
      (c.both.ensures ∙ ap (both a) told)
      (subst (λ us. Done (settled m b (pushed us y)) (pushed us y) (held c.push_result_if_any.new.frames) c.push_result_if_any.result) same c.push_result_if_any.ensures.done);
  rest = running_then c.args.frames.now c.take_arguments.new.frames c.push_result_if_any.new.frames c.in-Some.ensures.rest c.push_result_if_any.ensures.rest;
}
