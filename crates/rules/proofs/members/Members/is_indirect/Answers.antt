use Rattle.std.proofs.Common.{rules, ◌≡◌, ◌∙◌, Bool, true, false, not, ◌&&◌, Some, Ok, refl, sym, ap, subst}
use Rattle.pool.specs.Lookups.{text_at}
use Rattle.classfile.specs.declared.class_file.ClassFile.{ClassFile}
use Rattle.rules.specs.Bodies.{method_view}
use Rattle.rules.specs.Guards.{interface_name, AreDirect, Surroundings}
use Rattle.rules.specs.Interfaces.{is_indirect}
use Rattle.rules.proofs.Direct.{not_interface, other_interface}
use Rattle.rules.proofs.members.Members.is_indirect.Goals as goal

pub returns-in_default-clause-found : goal.returns-in_default-clause-found
returns-in_default-clause-found g c = λ k here of_class.
    not_interface (method_view c.args.method.now) c.args.index k here of_class (search rules)

pub returns-clause-found : goal.returns-clause-found
returns-clause-found g c = λ k here of_class.
    let m = method_view c.args.method.now in
    let same = ap (λ (s : Surroundings). s.class) c.self.view_is ∙ c.requires in
    let kept = subst (λ z. AreDirect z c.in_ok-direct.direct) c.requires c.in_ok-direct.ensures.direct in
    let answered = (c.has-answer.ensures c.args.method.now.class.now (ap (λ (z : ClassFile). z.constant_pool) (sym same)) kept).1 in
    let named = ap (λ (z : ClassFile). interface_name z.constant_pool c.args.index) (sym same) ∙ sym c.interface_name.ensures ∙ c.in-Some.is in
    other_interface m c.args.index k here of_class c.in-Some.name named c.has-answer.result
    (λ name there. answered name (ap (λ (z : ClassFile). text_at z.constant_pool c.in-Some.name) same ∙ there))
