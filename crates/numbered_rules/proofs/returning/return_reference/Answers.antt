use Rattle.std.proofs.Common.{◌∙◌, [], ◌∷◌, option_map, refl, sym, ap, subst}
use Rattle.names.specs.Types.{type_of}
use Rattle.frames.specs.Slots.{descriptor_type}
use Rattle.type_numbers.specs.Numbers.{IsNumberOf}
use Rattle.rules.specs.Bodies.{method_view}
use Rattle.rules.specs.Table.{return_reference, leaves_with}
use Rattle.rules.specs.TypingRules.{assignable_to}
use Rattle.rules.specs.declared.reason.Reason.TheVariants.{WrongReturn}
use Rattle.rules.proofs.Settling.{by_typing_rule}
use Rattle.numbered_rules.specs.RunningFrame.{held}
use Rattle.numbered_rules.specs.private.TypeParts.{is_reference_by}
use Rattle.numbered_rules.proofs.Judging.{refused}
use Rattle.numbered_rules.proofs.Results.{reference_returned, no_reference_returned}
use Rattle.numbered_rules.proofs.Standing.{type_stands}
use Rattle.numbered_rules.proofs.returning.return_reference.Goals as goal

pub returns-then-is_reference-clause-done : goal.returns-then-is_reference-clause-done
returns-then-is_reference-clause-done g c = λ at.
    let s = c.args.frames.now.types in
    let m = method_view c.args.method.now in
    let f = held c.args.frames.now in
    let n = c.in-Some.number in
    let r = option_map type_of c.args.method.now.result_type in
    let told = sym (ap is_reference_by c.of.ensures.tag) ∙ sym c.is_reference.ensures ∙ c.if-is_reference.true in
    let x = reference_returned s n r (subst (λ k. IsNumberOf s k (option_map descriptor_type r)) c.in-Some.is c.requires) told in
    by_typing_rule m at (return_reference r) (leaves_with (assignable_to x.type)) s.classes f (held c.pops.new.frames) c.pops.result
    x.is (c.pops.ensures.done (assignable_to x.type ∷ []) (type_stands s n x.type x.number, tt))

pub returns-else-is_reference-clause-done : goal.returns-else-is_reference-clause-done
returns-else-is_reference-clause-done g c = λ at.
    let s = c.args.frames.now.types in
    let m = method_view c.args.method.now in
    let f = held c.args.frames.now in
    let n = c.in-Some.number in
    let r = option_map type_of c.args.method.now.result_type in
    let told = sym (ap is_reference_by c.of.ensures.tag) ∙ sym c.is_reference.ensures ∙ c.if-is_reference.false in
    refused m at (return_reference r) 76 WrongReturn s.classes f f
    (no_reference_returned s n r (subst (λ k. IsNumberOf s k (option_map descriptor_type r)) c.in-Some.is c.requires) told) refl
