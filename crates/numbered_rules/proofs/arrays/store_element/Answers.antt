use Rattle.std.proofs.Common.{List, [], ◌∷◌, ap, sym}
use Rattle.std.proofs.lemmas.List.Elements.{All-nil, All-cons}
use Rattle.insn.specs.Meanings.{StoreElement}
use Rattle.insn.specs.declared.kinds.Kind.{Kind}
use Rattle.insn.specs.declared.kinds.Kind.TheVariants.{Int}
use Rattle.rules.specs.Bodies.{method_view}
use Rattle.rules.specs.Table.{typing_rule}
use Rattle.rules.specs.TypingRules.{ExpectedType, any_array_for, number, takes}
use Rattle.rules.proofs.Settling.{by_typing_rule}
use Rattle.numbered_rules.specs.declared.expected.Expected.TheVariants.{ArrayFor}
use Rattle.numbered_rules.specs.Expected.{IsExpected}
use Rattle.numbered_rules.specs.RunningFrame.{held}
use Rattle.numbered_rules.proofs.Standing.{array_for_stands}
use Rattle.numbered_rules.proofs.arrays.store_element.Goals as goal

pub pops-requires-clause-asked : goal.pops-requires-clause-asked
pops-requires-clause-asked g c =
    let s = c.args.frames.now.types in
    let array = ArrayFor c.args.element in
    All-cons (IsExpected s) c.number-stored.result (c.number-index.result ∷ array ∷ []) (c.number-stored.ensures.given s)
    (All-cons (IsExpected s) c.number-index.result (array ∷ []) (c.number-index.ensures.given s) (All-cons (IsExpected s) array [] tt (All-nil (IsExpected s))))

pub returns-clause-done : goal.returns-clause-done
returns-clause-done g c = λ at.
    let s = c.args.frames.now.types in
    let m = method_view c.args.method.now in
    let ws : Kind → List ExpectedType = λ k. number k ∷ number Int ∷ any_array_for c.args.element ∷ [] in
    by_typing_rule m at (typing_rule m (StoreElement c.args.element)) (takes (ws c.computed_as.result)) s.classes (held c.args.frames.now) (held c.pops.new.frames) c.pops.result
    (ap (λ k. takes (ws k)) (sym c.computed_as.ensures)) (c.pops.ensures.done (ws c.computed_as.result) (c.number-stored.ensures.stands s, (c.number-index.ensures.stands s, (array_for_stands s c.args.element, tt))))
