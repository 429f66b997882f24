use Rattle.std.proofs.Common.{◌∙◌, inl}
use Rattle.serving.specs.private.Stepping.{Knows}
use Rattle.serving.proofs.step.define.Goals as goal

pub returns : goal.returns
returns g c = λ ks knows.
    let here : Knows c.args.setting.profile ks c.in_ok-known.known = (knows.0, c.in_ok-known.ensures ∙ knows.1) in
    let (new, defines, known) = c.in_ok-known-2.ensures ks here in
    (new, (c.in_ok-reply.ensures ks here, inl (c.if-reply-ne0.false, defines)), known)
