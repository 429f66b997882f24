use Rattle.std.proofs.Common.{ap, sym, ◌∙◌, map}
use Rattle.std.specs.Prelude.{option_map, option_to_list}
use Rattle.names.specs.Types.{type_of}
use Rattle.rules.specs.TypingRules.{arguments_on}
use Rattle.rules.specs.Views.{expected_view}
use Rattle.rules.proofs.Arguments.{on_nothing, on_receiver}
use Rattle.rules.proofs.expected.arguments_on.Goals as goal

pub returns-in-None : goal.returns-in-None
returns-in-None c =
    let ts = map type_of c.args.parameters.now in
    on_nothing ts c.in_ok-expected_types.expected_types.items _ c.in_ok-expected_types.ensures c.reverse.ensures.items
    ∙ ap (λ o. arguments_on ts (option_to_list (option_map expected_view o))) (sym c.in-None.is)

pub returns-in_ok-push-in-Some : goal.returns-in_ok-push-in-Some
returns-in_ok-push-in-Some c =
    let ts = map type_of c.args.parameters.now in
    on_receiver ts c.in_ok-expected_types.expected_types.items _ c.in_ok-expected_types.ensures c.reverse.ensures.items c.in-Some.expected _ c.in_ok-push-in-Some.ensures.items
    ∙ ap (λ o. arguments_on ts (option_to_list (option_map expected_view o))) (sym c.in-Some.is)
