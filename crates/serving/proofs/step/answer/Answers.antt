use Rattle.std.proofs.Common.{sym, subst}
use Rattle.answers.specs.Files.{input_view}
use Rattle.serving.specs.KnownClasses.{IsReadOf}
use Rattle.serving.specs.Messages.{reply_view}
use Rattle.serving.specs.Steps.{StepsBy}
use Rattle.serving.specs.private.Stepping.{Leads}
use Rattle.serving.proofs.Steps.{if_ok}
use Rattle.serving.proofs.step.answer.Goals as goal

pub returns-in-Known : goal.returns-in-Known
returns-in-Known g c = λ ks knows.
    let s = c.args.setting in
    let bytes = c.args.message.now.bytes.items in
    let read = input_view c.in_ok-read-in-Known.read in
    let is_read : IsReadOf bytes read = subst (λ b. IsReadOf b read) c.deref.ensures.value c.in_ok-read-in-Known.ensures in
    if_ok c.introduce.result _ (Leads s.profile (StepsBy s c.args.message.now.kind bytes ks)) (c.introduce.ensures ks knows) (λ x led.
    (led.0, subst (λ k. StepsBy s k bytes ks (reply_view x.reply) led.0) (sym c.in-Known.is) (read, is_read, led.1), led.2))

pub returns-in-Define : goal.returns-in-Define
returns-in-Define g c = λ ks knows.
    let s = c.args.setting in
    let bytes = c.args.message.now.bytes.items in
    let read = input_view c.in_ok-read-in-Define.read in
    let is_read : IsReadOf bytes read = subst (λ b. IsReadOf b read) c.deref-in-Define.ensures.value c.in_ok-read-in-Define.ensures in
    if_ok c.define.result _ (Leads s.profile (StepsBy s c.args.message.now.kind bytes ks)) (c.define.ensures ks knows) (λ x led.
    (led.0, subst (λ k. StepsBy s k bytes ks (reply_view x.reply) led.0) (sym c.in-Define.is) (read, is_read, led.1), led.2))

pub returns-in-Verify : goal.returns-in-Verify
returns-in-Verify g c = λ ks knows.
    let s = c.args.setting in
    let bytes = c.args.message.now.bytes.items in
    let read = input_view c.in_ok-read-in-Verify.read in
    let is_read : IsReadOf bytes read = subst (λ b. IsReadOf b read) c.deref-in-Verify.ensures.value c.in_ok-read-in-Verify.ensures in
    if_ok c.verdicts.result _ (Leads s.profile (StepsBy s c.args.message.now.kind bytes ks)) (c.verdicts.ensures ks knows) (λ x led.
    (led.0, subst (λ k. StepsBy s k bytes ks (reply_view x.reply) led.0) (sym c.in-Verify.is) (read, is_read, led.1.0, led.1.1), led.2))

pub returns : goal.returns
returns g c = λ ks knows.
    let s = c.args.setting in
    let bytes = c.args.message.now.bytes.items in
    let read = input_view c.in_ok-read-in-Explain.read in
    let is_read : IsReadOf bytes read = subst (λ b. IsReadOf b read) c.deref-in-Explain.ensures.value c.in_ok-read-in-Explain.ensures in
    if_ok c.verdicts-in-Explain.result _ (Leads s.profile (StepsBy s c.args.message.now.kind bytes ks)) (c.verdicts-in-Explain.ensures ks knows) (λ x led.
    (led.0, subst (λ k. StepsBy s k bytes ks (reply_view x.reply) led.0) (sym c.in-Explain.is) (read, is_read, led.1.0, led.1.1), led.2))
