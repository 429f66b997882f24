use Rattle.std.proofs.Common.{◌≡◌, ◌∙◌, true, false, nat_lt, length, Some, sym, ap, subst, inr, get_or, arith}
use Rattle.std.proofs.lemmas.Bool.Decides.{nat_tests}
use Rattle.frames.specs.Conditions.{with_fault}
use Rattle.frames.specs.Slots.{in_locals, units_of}
use Rattle.type_numbers.specs.Numbers.{IsGiven}
use Rattle.type_numbers.specs.Decoding.{types_by}
use Rattle.method_frames.specs.NumberedFrames.{NumberedFrames}
use Rattle.method_frames.proofs.LayingOut.{units_are}
use Rattle.rules.specs.Bodies.{method_view}
use Rattle.rules.specs.ReasonNumbers.{bad_stack_map}
use Rattle.rules.specs.Table.{typing_rule}
use Rattle.verify.specs.InitialFrames.{initial_types}
use Rattle.verify.specs.Verdict.{entries_read, verdict, told_of}
use Rattle.verify.proofs.verdicts.Judged.{too_narrow, map_told}
use Rattle.verify.specs.private.pass.Maps.{DeclaresMap, refusal_of}
use Rattle.verify.proofs.pass.method.judge_body.Goals as goal

pub returns-then-units-from-clause-judged : goal.returns-then-units-from-clause-judged
returns-then-units-from-clause-judged g c =
    let x = c.args.frames.now in
    let m = method_view c.args.body.now.method.now in
    let long : c.units.result ≡ length (in_locals (initial_types m)) = c.units.ensures x.types ∙ ap units_of c.requires.initial ∙ units_are (initial_types m) in
    let narrow : nat_lt m.max_locals (length (in_locals (initial_types m))) ≡ true = grind (arith, nat_tests, long, c.from.ensures, c.if-units-from.true) in
    c.refuse.ensures (verdict typing_rule x.types.classes m) (inr (ap told_of (too_narrow m x.types.classes narrow)))

pub declare_map-requires-clause-initial : goal.declare_map-requires-clause-initial
declare_map-requires-clause-initial g c =
    let x = c.args.frames.now in
    let m = method_view c.args.body.now.method.now in
    let same = ap (λ (z : NumberedFrames). z.types) c.restart.ensures in
    let long : c.units.result ≡ units_of (initial_types m) = c.units.ensures x.types ∙ ap units_of c.requires.initial in
    record {
      types = ap (λ s. types_by s c.args.initial.now) same ∙ c.requires.initial;
      given = λ i lt. subst (λ s. IsGiven s (get_or c.args.initial.now i 0)) (sym same) (c.requires.given i lt);
      fits = omega (arith, long, c.from.ensures, c.if-units-from.false);
    }

pub returns-in-Err-clause-judged : goal.returns-in-Err-clause-judged
returns-in-Err-clause-judged g c =
    let x = c.args.frames.now in
    let m = method_view c.args.body.now.method.now in
    let long : c.units.result ≡ length (in_locals (initial_types m)) = c.units.ensures x.types ∙ ap units_of c.requires.initial ∙ units_are (initial_types m) in
    let wide : nat_lt m.max_locals (length (in_locals (initial_types m))) ≡ false = grind (arith, nat_tests, long, c.from.ensures, c.if-units-from.false) in
    let told = subst (DeclaresMap c.declare_map.new.frames m (entries_read m.stack_map)) c.in-Err.is c.in_ok-declare_map.ensures.told in
    c.refuse-in-Err.ensures (verdict typing_rule x.types.classes m)
    (inr (map_told m x.types.classes wide (refusal_of c.in-Err.why) told.0 ∙ ap (λ n. Some (0, with_fault bad_stack_map n)) (sym c.number.ensures)))
