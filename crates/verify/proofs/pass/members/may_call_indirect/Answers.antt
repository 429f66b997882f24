use Rattle.std.proofs.Common.{◌≡◌, ◌∙◌, ◌&&◌, false, sym, ap}
use Rattle.insn.specs.Views.{act_view}
use Rattle.type_numbers.specs.Constants.{constant_in, constants_of}
use Rattle.rules.specs.Bodies.{method_view}
use Rattle.verify.specs.private.pass.Objects.{names_interface}
use Rattle.verify.proofs.numbered.Direct.{direct_called, none_called}
use Rattle.verify.proofs.pass.members.may_call_indirect.Goals as goal

pub returns-then-body : goal.returns-then-body
returns-then-body c = λ s numbers e.
    let m = method_view c.args.body.now.method.now in
    let constant = constant_in (constants_of c.args.body.now.numbers.table.now) c.in-Some.index in
    let none : (m.release && names_interface constant) ≡ false = ap (λ r. r && names_interface constant) c.if-body.true ∙ (sym c.names_interface.ensures ∙ e) in
    direct_called s m c.args.body.now.numbers numbers (act_view c.args.act.now) c.in-Some.index (sym c.special_index.ensures ∙ c.in-Some.is) none

pub returns-in-None : goal.returns-in-None
returns-in-None c = λ s numbers e. none_called (method_view c.args.body.now.method.now) (act_view c.args.act.now) (sym c.special_index.ensures ∙ c.in-None.is)
