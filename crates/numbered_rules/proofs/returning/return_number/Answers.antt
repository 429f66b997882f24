use Rattle.std.proofs.Common.{rules, ◌≡◌, ◌∙◌, [], ◌∷◌, option_map, sym, ap, Some}
use Rattle.names.specs.Types.{type_of}
use Rattle.rules.specs.Bodies.{method_view}
use Rattle.rules.specs.Outcomes.{result_kind}
use Rattle.rules.specs.Table.{return_number, leaves_with}
use Rattle.rules.specs.TypingRules.{number}
use Rattle.rules.proofs.Settling.{by_typing_rule}
use Rattle.numbered_rules.specs.RunningFrame.{held}
use Rattle.numbered_rules.proofs.Results.{kind_returned}
use Rattle.numbered_rules.proofs.Standing.{kinds_stand, kinds_expected}
use Rattle.numbered_rules.proofs.returning.return_number.Goals as goal

pub pops-requires-clause-asked : goal.pops-requires-clause-asked
pops-requires-clause-asked g c = kinds_expected c.args.frames.now.types (c.args.kind ∷ [])

pub returns-then-eq-clause-done : goal.returns-then-eq-clause-done
returns-then-eq-clause-done g c = λ at.
    let s = c.args.frames.now.types in
    let m = method_view c.args.method.now in
    let f = held c.args.frames.now in
    let kind = c.args.kind in
    let r = option_map type_of c.args.method.now.result_type in
    let same : c.in-Some.given ≡ kind = search rules in
    let told : result_kind r ≡ Some kind = sym c.number_of_result.ensures ∙ c.in-Some.is ∙ ap (λ k. Some k) same in
    by_typing_rule m at (return_number r kind) (leaves_with (number kind)) s.classes f (held c.pops.new.frames) c.pops.result
    (kind_returned r kind told) (c.pops.ensures.done (number kind ∷ []) (kinds_stand s (kind ∷ [])))
