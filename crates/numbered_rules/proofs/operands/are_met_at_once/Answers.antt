use Rattle.std.proofs.Common.{◌≡◌, ◌∙◌, ◌<◌, length, get_or, map, sym, ap, subst, arith}
use Rattle.std.proofs.Math.ListN.{get_or-map}
use Rattle.std.proofs.lemmas.List.{length-map}
use Rattle.type_numbers.specs.Decoding.{type_by}
use Rattle.numbered_rules.specs.Expected.{accepts_by, IsExpected}
use Rattle.numbered_rules.proofs.AtOnce.{met_next, met_end}
use Rattle.numbered_rules.proofs.operands.are_met_at_once.Goals as goal

pub loop-above-preserved : goal.loop-above-preserved
loop-above-preserved g c = λ more.
    let x = c.args.frames.now in
    let all = c.args.asked.now in
    let asked = g.A.Asked.asked in
    let i = c.loop-above.above in
    let d = c.index-asked-above.result in
    let long = length-map all asked in
    let within : i < length (map asked all) = omega (arith, long, c.loop-above-test.true) in
    let is : c.expected.result ≡ get_or (map asked all) i (asked d) = c.expected.ensures ∙ ap asked c.index-asked-above.is ∙ sym (get_or-map asked all i d) in
    let given = subst (IsExpected x.types) (sym is) (c.requires i (asked d) within) in
    let met = ap (λ e. accepts_by x.types e (type_by x.types c.in-Some.number)) (sym is) ∙ c.is_met_at_once.ensures x.types c.in-Some.ensures.given given c.if-not-is_met_at_once.false in
    c.loop-above.invariant (met_next x.types (map asked all) x.running.stack i (asked d) c.in-Some.number within (sym c.in-Some.ensures.item) met more)

pub returns : goal.returns
returns g c = λ e.
    let x = c.args.frames.now in
    let all = c.args.asked.now in
    let long = length-map all g.A.Asked.asked in
    c.loop-above.invariant (met_end x.types (map g.A.Asked.asked all) x.running.stack c.loop-above.above (omega (arith, long, c.loop-above-test.false)))
