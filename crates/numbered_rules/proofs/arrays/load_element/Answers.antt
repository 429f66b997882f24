use Rattle.std.proofs.Common.{◌≡◌, ◌∙◌, true, [], ◌∷◌, ap, sym}
use Rattle.std.proofs.lemmas.List.Elements.{All-nil, All-cons}
use Rattle.insn.specs.Meanings.{LoadElement}
use Rattle.insn.specs.Kinds.{computed_as}
use Rattle.insn.specs.declared.kinds.Kind.TheVariants.{Int}
use Rattle.frames.specs.Slots.{number_type}
use Rattle.type_numbers.specs.Decoding.{type_by}
use Rattle.type_numbers.proofs.Decoded.{number_read}
use Rattle.rules.specs.Bodies.{method_view}
use Rattle.rules.specs.Table.{typing_rule}
use Rattle.rules.specs.TypingRules.{any_array_for, number, pops}
use Rattle.rules.proofs.Settling.{by_typing_rule}
use Rattle.numbered_rules.specs.declared.expected.Expected.TheVariants.{ArrayFor}
use Rattle.numbered_rules.specs.Expected.{IsExpected}
use Rattle.numbered_rules.specs.RunningFrame.{held}
use Rattle.numbered_rules.proofs.Standing.{array_for_stands}
use Rattle.numbered_rules.proofs.arrays.load_element.Goals as goal

pub pops-requires-clause-asked : goal.pops-requires-clause-asked
pops-requires-clause-asked g c =
    let s = c.args.frames.now.types in
    All-cons (IsExpected s) c.number.result (ArrayFor c.args.element ∷ []) (c.number.ensures.given s) (All-cons (IsExpected s) (ArrayFor c.args.element) [] tt (All-nil (IsExpected s)))

pub pops-requires-clause-gives : goal.pops-requires-clause-gives
pops-requires-clause-gives g c = (number_type c.computed_as.result, c.number_of.ensures.given c.args.frames.now.types)

pub returns-clause-done : goal.returns-clause-done
returns-clause-done g c = λ at.
    let s = c.args.frames.now.types in
    let m = method_view c.args.method.now in
    let ws = number Int ∷ any_array_for c.args.element ∷ [] in
    let same : number_type (computed_as c.args.element) ≡ type_by s c.number_of.result = ap number_type (sym c.computed_as.ensures) ∙ sym (number_read s c.number_of.result (number_type c.computed_as.result) (c.number_of.ensures.given s)) in
    by_typing_rule m at (typing_rule m (LoadElement c.args.element)) (pops ws (type_by s c.number_of.result ∷ []) [] true) s.classes (held c.args.frames.now) (held c.pops.new.frames) c.pops.result
    (ap (λ u. pops ws (u ∷ []) [] true) same) (c.pops.ensures.done ws (c.number.ensures.stands s, (array_for_stands s c.args.element, tt)))
