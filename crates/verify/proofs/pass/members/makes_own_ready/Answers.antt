use Rattle.std.proofs.Common.{◌≡◌, ◌∙◌, Bool, true, Result, Ok, Err, ap, sym}
use Rattle.std.specs.Prelude.{IfOk}
use Rattle.insn.specs.Views.{act_view}
use Rattle.rules.specs.Bodies.{method_view}
use Rattle.rules.specs.Rules.{constructs_own}
use Rattle.rules.specs.Table.{typing_rule}
use Rattle.numbered_rules.specs.RunningFrame.{held}
use Rattle.verify.proofs.numbered.Objects.{own_is_ready}
use Rattle.verify.proofs.pass.members.makes_own_ready.Goals as goal

if_ok : {E : Type 0} {own : Bool} (Q : Type 0) (r : Result Bool E) → IfOk r (λ b. b ≡ own) → (own ≡ true → Q) → IfOk r (λ b. b ≡ true → Q)
if_ok Q (Ok b) same q = λ e. q (sym same ∙ e)
if_ok Q (Err e) same q = tt

pub returns-in-InvokeSpecial-clause-ready : goal.returns-in-InvokeSpecial-clause-ready
returns-in-InvokeSpecial-clause-ready g c =
    let m = method_view c.args.method.now in
    let f = held c.args.frames.now in
    if_ok _ c.constructs_own.result c.constructs_own.ensures.own
    (own_is_ready c.args.frames.now.types.classes m f c.in-InvokeSpecial.index (act_view c.args.act.now) (ap act_view c.in-InvokeSpecial.is))
