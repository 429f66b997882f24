use Rattle.std.proofs.Common.{◌∙◌, ap}
use Rattle.clap.specs.Simple.{app_of_fields}
use Rattle.clap.specs.Words.{app_of, with_rule}
use Rattle.command_line.specs.Line.{dynamic, json, release}
use Rattle.command_line.proofs.Lines.{neither}
use Rattle.command_line.proofs.parsing.serve.Goals as goal

pub returns-clause-app : goal.returns-clause-app
returns-clause-app c =
    let first = c.in_ok-judging.field-0 in
    ap app_of_fields c.after_help.ensures ∙ ap app_of_fields c.about.ensures
    ∙ c.in_ok-command.ensures.shape c.json.ensures.local ∙ ap (with_rule (app_of first)) c.json.ensures.rule
    ∙ ap (λ o. with_rule o json) (c.in_ok-judging.ensures.app ∙ ap (λ o. with_rule (with_rule o dynamic) release) c.in_ok-only_known.ensures.app)

pub returns-clause-local : goal.returns-clause-local
returns-clause-local c =
    ap (λ f. f.has_globals) c.after_help.ensures ∙ ap (λ f. f.has_globals) c.about.ensures
    ∙ c.in_ok-command.ensures.globals ∙ neither _ _ c.in_ok-judging.ensures.local c.json.ensures.local
