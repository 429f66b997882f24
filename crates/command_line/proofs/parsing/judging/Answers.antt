use Rattle.std.proofs.Common.{◌≡◌, ◌∙◌, false, ap}
use Rattle.clap.specs.Words.{app_of, with_rule}
use Rattle.clap.specs.declared.builder.command.Command.TheViews.{out-Command}
use Rattle.command_line.specs.Line.{dynamic, release}
use Rattle.command_line.proofs.Lines.{if_ok, neither}
use Rattle.command_line.proofs.parsing.judging.Goals as goal

pub returns-clause-app : goal.returns-clause-app
returns-clause-app c =
    let first = c.in_ok-arg.field-0 in
    let one : app_of first ≡ with_rule (app_of c.args.command) dynamic = c.in_ok-arg.ensures.shape c.dynamic.ensures.local ∙ ap (with_rule (app_of c.args.command)) c.dynamic.ensures.rule in
    if_ok c.arg-2.result _ _ c.arg-2.ensures (λ x a.
    a.shape c.release.ensures.local ∙ ap (with_rule (app_of first)) c.release.ensures.rule ∙ ap (λ o. with_rule o release) one)

pub returns-clause-local : goal.returns-clause-local
returns-clause-local c =
    let first = c.in_ok-arg.field-0 in
    let one : (out-Command first).has_globals ≡ false = c.in_ok-arg.ensures.globals ∙ neither _ _ c.requires c.dynamic.ensures.local in
    if_ok c.arg-2.result _ _ c.arg-2.ensures (λ x a. a.globals ∙ neither _ _ one c.release.ensures.local)
