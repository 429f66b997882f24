use Rattle.std.proofs.Common.{◌≡◌, ◌∙◌, true, [], ◌∷◌, ap, sym}
use Rattle.insn.specs.Operators.{numeric_row}
use Rattle.frames.specs.Slots.{number_type}
use Rattle.type_numbers.specs.Decoding.{type_by}
use Rattle.type_numbers.proofs.Decoded.{number_read}
use Rattle.rules.specs.Bodies.{method_view}
use Rattle.rules.specs.TypingRules.{numbers, pops}
use Rattle.rules.proofs.Settling.{by_typing_rule}
use Rattle.numbered_rules.specs.RunningFrame.{held}
use Rattle.numbered_rules.proofs.Standing.{kinds_expected, kinds_stand}
use Rattle.numbered_rules.proofs.simple_rules.computes.Goals as goal

pub pops-requires-clause-asked : goal.pops-requires-clause-asked
pops-requires-clause-asked g c = kinds_expected c.args.frames.now.types c.row-given.result.0.now

pub pops-requires-clause-gives : goal.pops-requires-clause-gives
pops-requires-clause-gives g c = (number_type c.row-given.result.1, c.number_of.ensures.given c.args.frames.now.types)

pub returns-clause-done : goal.returns-clause-done
returns-clause-done g c =
    let s = c.args.frames.now.types in
    let m = method_view c.args.method.now in
    let row = numeric_row c.args.operator in
    let taken = c.row-given.result.0.now in
    let n = c.number_of.result in
    let same : number_type row.given ≡ type_by s n = ap number_type (sym c.row-given.ensures.given) ∙ sym (number_read s n (number_type c.row-given.result.1) (c.number_of.ensures.given s)) in
    by_typing_rule m 0 (pops (numbers row.taken) (number_type row.given ∷ []) [] true) (pops (numbers taken) (type_by s n ∷ []) [] true) s.classes (held c.args.frames.now) (held c.pops.new.frames) c.pops.result
    (λ i. pops (numbers (sym c.row-given.ensures.taken i)) (same i ∷ []) [] true) (c.pops.ensures.done (numbers taken) (kinds_stand s taken))
