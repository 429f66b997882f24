use Rattle.std.proofs.Common.{◌≡◌, ◌∙◌, true, false, nat_lt, length, Option, None, refl, sym, ap, subst, get_or, arith}
use Rattle.std.specs.Prelude.{IfOk}
use Rattle.std.proofs.lemmas.Bool.Decides.{nat_tests}
use Rattle.frames.specs.Slots.{in_locals, units_of}
use Rattle.type_numbers.specs.Numbers.{Numbering, IsGiven}
use Rattle.type_numbers.specs.Decoding.{types_by}
use Rattle.method_frames.specs.MapFrames.{frames_by}
use Rattle.method_frames.specs.NumberedFrames.{NumberedFrames}
use Rattle.method_frames.proofs.LayingOut.{units_are}
use Rattle.numbered_rules.specs.RunningFrame.{held}
use Rattle.rules.specs.Bodies.{method_view}
use Rattle.rules.specs.Reasons.{reason_number}
use Rattle.rules.specs.Table.{typing_rule}
use Rattle.verify.specs.InitialFrames.{initial_types}
use Rattle.verify.specs.Coming.{FramesFact, no_frames, frames_view, frames_at}
use Rattle.verify.specs.Details.{DetailFact}
use Rattle.verify.specs.Verdict.{entries_read}
use Rattle.verify.specs.private.pass.Maps.{DeclaresMap, refusal_of}
use Rattle.verify.proofs.Meeting.{frames_are, map_is}
use Rattle.verify.proofs.frames_at.frames_in_body.Goals as goal

pub returns-then-units-from-clause-found : goal.returns-then-units-from-clause-found
returns-then-units-from-clause-found g c =
    let x = c.args.frames.now in
    let m = method_view c.args.body.now.method.now in
    let long : c.units.result ≡ length (in_locals (initial_types m)) = c.units.ensures x.types ∙ ap units_of c.requires.initial ∙ units_are (initial_types m) in
    let narrow : nat_lt m.max_locals (length (in_locals (initial_types m))) ≡ true = grind (arith, nat_tests, long, c.from.ensures, c.if-units-from.true) in
    c.none.ensures ∙ sym (let all : frames_at typing_rule x.types.classes m (reason_number c.args.refusal.reason) c.args.refusal.at ≡ no_frames = rw narrow refl in all)

pub declare_map-requires-clause-initial : goal.declare_map-requires-clause-initial
declare_map-requires-clause-initial g c =
    let x = c.args.frames.now in
    let same = ap (λ (z : NumberedFrames). z.types) c.restart.ensures in
    let long = c.units.ensures x.types ∙ ap units_of c.requires.initial in
    record {
      types = ap (λ s. types_by s c.args.initial.now) same ∙ c.requires.initial;
      given = λ i lt. subst (λ s. IsGiven s (get_or c.args.initial.now i 0)) (sym same) (c.requires.given i lt);
      fits = omega (arith, long, c.from.ensures, c.if-units-from.false);
    }

pub returns-in-Ok-clause-found : goal.returns-in-Ok-clause-found
returns-in-Ok-clause-found g c =
    let x = c.args.frames.now in
    let y = c.declare_map.new.frames in
    let m = method_view c.args.body.now.method.now in
    let n = reason_number c.args.refusal.reason in
    let at = c.args.refusal.at in
    let same : y.types ≡ x.types = ap (λ (z : NumberedFrames). z.types) c.in_ok-declare_map.ensures.rest.others ∙ ap (λ (z : NumberedFrames). z.types) c.restart.ensures in
    let long : c.units.result ≡ length (in_locals (initial_types m)) = c.units.ensures x.types ∙ ap units_of c.requires.initial ∙ units_are (initial_types m) in
    let wide : nat_lt m.max_locals (length (in_locals (initial_types m))) ≡ false = grind (arith, nat_tests, long, c.from.ensures, c.if-units-from.false) in
    let told = subst (DeclaresMap y m (entries_read m.stack_map)) c.in-Ok.is c.in_ok-declare_map.ensures.told in
    let all = frames_are y.types.classes m (frames_by y.types y.declared) n at wide told.0 (held y) told.1 ∙ ap (λ (s : Numbering). frames_at typing_rule s.classes m n at) same in
    subst (λ (z : FramesFact). IfOk c.walk.result (λ k. frames_view k ≡ z)) all c.walk.ensures.found

pub returns-in_ok-map_detail-in-Err-clause-found : goal.returns-in_ok-map_detail-in-Err-clause-found
returns-in_ok-map_detail-in-Err-clause-found g c =
    let x = c.args.frames.now in
    let y = c.declare_map.new.frames in
    let m = method_view c.args.body.now.method.now in
    let n = reason_number c.args.refusal.reason in
    let at = c.args.refusal.at in
    let long : c.units.result ≡ length (in_locals (initial_types m)) = c.units.ensures x.types ∙ ap units_of c.requires.initial ∙ units_are (initial_types m) in
    let wide : nat_lt m.max_locals (length (in_locals (initial_types m))) ≡ false = grind (arith, nat_tests, long, c.from.ensures, c.if-units-from.false) in
    let told = subst (DeclaresMap y m (entries_read m.stack_map)) c.in-Err.is c.in_ok-declare_map.ensures.told in
    ap (λ (o : Option DetailFact). let all : FramesFact = record { coming = None; declared = None; detail = o } in all) (c.in_ok-map_detail-in-Err.ensures ∙ sym told.1)
    ∙ map_is x.types.classes m (refusal_of c.in-Err.why) n at wide told.0
