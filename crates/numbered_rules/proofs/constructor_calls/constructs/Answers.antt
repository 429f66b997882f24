use Rattle.std.proofs.Common.{◌∙◌, [], map, None, inr, refl, sym, ap, subst}
use Rattle.hierarchy.specs.Answer.{outcome_of}
use Rattle.frames.specs.Slots.{descriptor_type, to_reference}
use Rattle.frames.specs.VerificationType.{class as class_of}
use Rattle.type_numbers.specs.Decoding.{type_by, types_by}
use Rattle.type_numbers.specs.MethodNumbers.{AreNumbers}
use Rattle.type_numbers.specs.Numbers.{IsNumber}
use Rattle.method_frames.specs.NumberedFrames.{NumberedFrame, NumberedFrames}
use Rattle.rules.specs.After.{class_after}
use Rattle.rules.specs.Bodies.{method_view}
use Rattle.rules.specs.TypingRules.{arguments_on}
use Rattle.rules.proofs.Constructors.{constructs_short, constructs_nothing, constructs_may_not, constructs_no, constructs_done}
use Rattle.rules.proofs.Settling.{not_no}
use Rattle.numbered_rules.specs.RunningFrame.{held, IsRunning}
use Rattle.numbered_rules.proofs.Calling.{numbers_given}
use Rattle.numbered_rules.proofs.NamedClasses.{class_type_is}
use Rattle.numbered_rules.proofs.Objects.{may_type, may_object, initialized_held, beneath_number, beneath_held, beneath_running}
use Rattle.numbered_rules.proofs.Taking.{running_then, types_stay}
use Rattle.numbered_rules.proofs.constructor_calls.constructs.Goals as goal

pub take_arguments-requires : goal.take_arguments-requires
take_arguments-requires g c =
    let s = c.args.frames.now.types in
    let t = c.requires.called.0.type in
    record {
      parameters = numbers_given s c.arguments.result.now (map descriptor_type t.params) (subst (λ ns. AreNumbers s ns (map descriptor_type t.params)) (sym c.arguments.ensures) c.requires.called.1.types.arguments);
      receiver = tt;
    }

pub returns-in_default : goal.returns-in_default
returns-in_default g c = record {
  done = λ at k name h e.
      let s = c.args.frames.now.types in
      let m = method_view c.args.body.now.method.now in
      let f = held c.args.frames.now in
      let ws = arguments_on k.type.params [] in
      let numbers = subst (λ ns. AreNumbers s ns (map descriptor_type k.type.params)) (sym c.arguments.ensures) h.types.arguments in
      record { outcome = inr (constructs_short s.classes m at name ws f (c.in_default.ensures.taken k.type.params None numbers tt)) };
  rest = c.in_default.ensures.rest;
}

pub returns-in_default-pop : goal.returns-in_default-pop
returns-in_default-pop g c = record {
  done = λ at k name h e.
      let s = c.args.frames.now.types in
      let m = method_view c.args.body.now.method.now in
      let f = held c.args.frames.now in
      let y = c.take_arguments.new.frames in
      let ws = arguments_on k.type.params [] in
      let numbers = subst (λ ns. AreNumbers s ns (map descriptor_type k.type.params)) (sym c.arguments.ensures) h.types.arguments in
      record {
        outcome = inr (constructs_nothing s.classes m at name ws f (outcome_of c.in-Some.answer) (held y) (c.in-Some.ensures.taken k.type.params None numbers tt)
            (ap (types_by y.types) c.in_default-pop.ensures.taken.0));
      };
  rest = subst (λ (z : NumberedFrames). IsRunning c.args.frames.now z) (sym c.in_default-pop.ensures.taken.1) c.in-Some.ensures.rest;
}

pub returns-then-not-may_construct : goal.returns-then-not-may_construct
returns-then-not-may_construct g c =
    let x = c.args.frames.now in
    let y = c.take_arguments.new.frames in
    let z = c.pop.new.self in
    let n = c.in-Some-pop.object in
    let run = c.in-Some.ensures.rest in
    let under = c.in-Some-pop.ensures.taken in
    let given = c.in-Some-pop.ensures.given in
    record {
      done = λ at k name h e.
          let s = x.types in
          let m = method_view c.args.body.now.method.now in
          let f = held x in
          let t = type_by s n in
          let ws = arguments_on k.type.params [] in
          let numbers = subst (λ ns. AreNumbers s ns (map descriptor_type k.type.params)) (sym c.arguments.ensures) h.types.arguments in
          let class = subst (λ r. IsNumber s c.args.called.class (to_reference r)) e h.class in
          let may = c.may_construct.ensures s name t c.requires.numbers class (beneath_number x y z n run under given) in
          record {
            outcome = inr (constructs_may_not s.classes m at name ws f (outcome_of c.in-Some.answer) (held y) (c.in-Some.ensures.taken k.type.params None numbers tt)
                t (held z) (beneath_held x y z n run under given) (sym may ∙ c.if-not-may_construct.true));
          };
      rest = beneath_running x y z n run under given;
    }

pub returns-in-No : goal.returns-in-No
returns-in-No g c =
    let x = c.args.frames.now in
    let y = c.take_arguments.new.frames in
    let z = c.pop.new.self in
    let n = c.in-Some-pop.object in
    let run = c.in-Some.ensures.rest in
    let under = c.in-Some-pop.ensures.taken in
    let given = c.in-Some-pop.ensures.given in
    record {
      done = λ at k name h e.
          let s = x.types in
          let m = method_view c.args.body.now.method.now in
          let ws = arguments_on k.type.params [] in
          let numbers = subst (λ ns. AreNumbers s ns (map descriptor_type k.type.params)) (sym c.arguments.ensures) h.types.arguments in
          record {
            outcome = inr (constructs_no s.classes m at name ws (held x) (outcome_of c.in-Some.answer) (held y) (c.in-Some.ensures.taken k.type.params None numbers tt)
                (type_by s n) (held z) (beneath_held x y z n run under given) (ap outcome_of c.in-No.is));
          };
      rest = beneath_running x y z n run under given;
    }

pub initialize-requires : goal.initialize-requires
initialize-requires g c =
    let x = c.args.frames.now in
    let y = c.take_arguments.new.frames in
    let z = c.pop.new.self in
    let s = x.types in
    let n = c.in-Some-pop.object in
    let m = method_view c.args.body.now.method.now in
    let t = type_by s n in
    let run = c.in-Some.ensures.rest in
    let under = c.in-Some-pop.ensures.taken in
    let given = c.in-Some-pop.ensures.given in
    let k = class_type_is c.requires.called.0.class c.requires.called.2 in
    let class = subst (λ r. IsNumber s c.args.called.class (to_reference r)) k.is c.requires.called.1.class in
    let object = beneath_number x y z n run under given in
    let may = sym (c.may_construct.ensures s k.name t c.requires.numbers class object) ∙ c.if-not-may_construct.false in
    record {
      object = may_object s n t object m k.name may;
      class = (class_after m k.name t, subst (λ u. IsNumber u c.class_after.result (class_of (class_after m k.name t))) (sym (types_stay x z (beneath_running x y z n run under given))) (c.class_after.ensures s m k.name t c.requires.numbers class object));
    }

pub returns-in_ok-initialize-in_default-answer : goal.returns-in_ok-initialize-in_default-answer
returns-in_ok-initialize-in_default-answer g c =
    let x = c.args.frames.now in
    let y = c.take_arguments.new.frames in
    let z = c.pop.new.self in
    let i = c.initialize.new.self in
    let n = c.in-Some-pop.object in
    let run = c.in-Some.ensures.rest in
    let under = c.in-Some-pop.ensures.taken in
    let given = c.in-Some-pop.ensures.given in
    let ran = beneath_running x y z n run under given in
    record {
      done = λ at k name h e.
          let s = x.types in
          let m = method_view c.args.body.now.method.now in
          let f = held x in
          let t = type_by s n in
          let ws = arguments_on k.type.params [] in
          let numbers = subst (λ ns. AreNumbers s ns (map descriptor_type k.type.params)) (sym c.arguments.ensures) h.types.arguments in
          let class = subst (λ r. IsNumber s c.args.called.class (to_reference r)) e h.class in
          let object = beneath_number x y z n run under given in
          let may = sym (c.may_construct.ensures s name t c.requires.numbers class object) ∙ c.if-not-may_construct.false in
          let same = sym (types_stay x z ran) in
          let later = class_after m name t in
          let here : IsNumber z.types n t = subst (λ u. IsNumber u n t) same object in
          let becomes = subst (λ u. IsNumber u c.class_after.result (class_of later)) same (c.class_after.ensures s m name t c.requires.numbers class object) in
          constructs_done s.classes m at name ws f (outcome_of c.in-Some.answer) (held y) (c.in-Some.ensures.taken k.type.params None numbers tt)
          t (held z) (beneath_held x y z n run under given) (held i) (held c.push_result_if_any.new.frames) later c.push_result_if_any.result may (not_no c.in-Some.answer c.in_default-answer.not-No) refl
          (initialized_held z i n t later here c.initialize.ensures.rest (c.in_ok-initialize-in_default-answer.ensures.types t (class_of later) here becomes (may_type s n t object m name may)) (ap (λ (r : NumberedFrame). r.flag) c.in_ok-initialize-in_default-answer.ensures.ok))
          c.push_result_if_any.ensures.done;
      rest = running_then x i c.push_result_if_any.new.frames (running_then x z i ran (record { others = c.initialize.ensures.rest; size = c.initialize.ensures.size })) c.push_result_if_any.ensures.rest;
    }
