use Rattle.std.proofs.Common.{◌∙◌, ◌∷◌, sym, ap}
use Rattle.names.specs.Descriptors.{left_parenthesis}
use Rattle.names.proofs.AnswerLaws.{method_answered}
use Rattle.names.proofs.ParameterLaws.{all_parameters}
use Rattle.names.proofs.parameters.parameter_types.Goals as goal

pub returns-then-not-is_first-clause-named : goal.returns-then-not-is_first-clause-named
returns-then-not-is_first-clause-named c = rw (← c.bytes-bytes.ensures) (λ m s w. absurd (c.is_first.ensures.no c.if-not-is_first.true _ s.spelled))

pub returns-then-not-is_first-clause-computed : goal.returns-then-not-is_first-clause-computed
returns-then-not-is_first-clause-computed c = rw (← c.bytes-bytes.ensures) (λ receiver m e. absurd (c.is_first.ensures.no c.if-not-is_first.true _ (method_answered receiver c.bytes-bytes.result.now m e).0.spelled))

pub returns-clause-named : goal.returns-clause-named
returns-clause-named c =
    let is = c.is_first.ensures.yes c.if-not-is_first.false ∙ ap (◌∷◌ left_parenthesis) (sym c.split_at.ensures.back) in
    rw (← c.bytes-bytes.ensures) (λ m s w. all_parameters c.bytes-bytes.result.now _ left_parenthesis m is s w)

pub returns-clause-computed : goal.returns-clause-computed
returns-clause-computed c =
    let is = c.is_first.ensures.yes c.if-not-is_first.false ∙ ap (◌∷◌ left_parenthesis) (sym c.split_at.ensures.back) in
    rw (← c.bytes-bytes.ensures) (λ receiver m e. let p = method_answered receiver c.bytes-bytes.result.now m e in all_parameters c.bytes-bytes.result.now _ left_parenthesis m is p.0 p.1)
