use Rattle.std.proofs.Common.{◌≡◌, ◌∙◌, [], ◌∷◌, map, inr, sym, ap, subst}
use Rattle.hierarchy.specs.Answer.{yes}
use Rattle.frames.specs.VerificationType.{VerificationType, uninit}
use Rattle.type_numbers.specs.Decoding.{type_by}
use Rattle.type_numbers.specs.Numbers.{IsGiven}
use Rattle.type_numbers.proofs.Decoded.{number_read}
use Rattle.method_frames.proofs.ObjectTypes.{made_number}
use Rattle.rules.specs.After.{forgotten}
use Rattle.rules.specs.Bodies.{method_view}
use Rattle.rules.specs.Outcomes.{Done, pushed, settled}
use Rattle.rules.proofs.Constructors.{makes_again, makes_done}
use Rattle.numbered_rules.specs.RunningFrame.{held}
use Rattle.numbered_rules.proofs.Objects.{on_stack, locals_run, locals_held}
use Rattle.numbered_rules.proofs.Taking.{running_then, types_stay}
use Rattle.numbered_rules.proofs.object_creation.makes.Goals as goal

pub returns-then-has_made-clause-done : goal.returns-then-has_made-clause-done
returns-then-has_made-clause-done g c = λ name.
    let s = c.args.frames.now.types in
    let f = held c.args.frames.now in
    record { outcome = inr (makes_again s.classes (method_view c.args.method.now) c.args.at name f (sym (on_stack c.args.at f.stack) ∙ sym c.has_made.ensures.types ∙ c.if-has_made.true)) }

pub push_result-requires : goal.push_result-requires
push_result-requires g c =
    let at = c.args.at in
    subst (λ n. IsGiven c.forget.new.self.types n) (sym c.made_object.ensures.number) (uninit at, made_number c.forget.new.self.types at c.ranges.at.fits)

pub returns : goal.returns
returns g c = record {
  done = λ name.
      let old = c.args.frames.now in
      let new = c.forget.new.self in
      let s = old.types in
      let f = held old in
      let at = c.args.at in
      let run = locals_run old new c.forget.ensures.rest c.forget.ensures.size in
      let same = types_stay old new run in
      let is : type_by new.types c.made_object.result ≡ uninit at =
      ap (type_by new.types) c.made_object.ensures.number ∙ number_read new.types _ (uninit at) (made_number new.types at c.ranges.at.fits) in
      let now = held c.push_result.new.frames in
      makes_done s.classes (method_view c.args.method.now) at name f (held new) now c.push_result.result (sym (on_stack at f.stack) ∙ sym c.has_made.ensures.types ∙ c.if-has_made.false)
      (locals_held old new c.forget.ensures.rest (map (forgotten at) f.locals) c.in_ok-forget.ensures.types)
      (subst (λ (t : VerificationType). Done (settled (method_view c.args.method.now) yes (pushed (t ∷ []) (held new))) (pushed (t ∷ []) (held new)) now c.push_result.result) is c.push_result.ensures.done);
  rest = running_then c.args.frames.now c.forget.new.self c.push_result.new.frames (locals_run c.args.frames.now c.forget.new.self c.forget.ensures.rest c.forget.ensures.size) c.push_result.ensures.rest;
}
