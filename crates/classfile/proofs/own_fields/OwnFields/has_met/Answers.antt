use Rattle.std.proofs.Common.{◌≡◌, ◌∙◌, map, sym, ap, subst}
use Rattle.pool.specs.Lookups.{named}
use Rattle.classfile.specs.DeclaredFields.{has_named}
use Rattle.classfile.specs.Seen.{AreSeen}
use Rattle.classfile.specs.Views.{member_view}
use Rattle.classfile.specs.declared.class_file.ClassFile.{ClassFile}
use Rattle.classfile.proofs.DeclaredFieldLaws.{named_declared}
use Rattle.classfile.proofs.own_fields.OwnFields.has_met.Goals as goal

pub invariant_of-self : goal.invariant_of-self
invariant_of-self c =
    let is : c.self.inside.class.now ≡ c.args.self.now = c.self.view_is ∙ c.in_ok-met.ensures.same in
    let met = subst (λ (x : ClassFile). AreSeen x.constant_pool (map member_view x.fields.items) c.in_ok-met.met) (sym is) c.in_ok-met.ensures.met in
    c.in_ok-found.ensures.kept (map member_view c.self.inside.class.now.fields.items) met

pub returns-clause-found : goal.returns-clause-found
returns-clause-found c =
    let is : c.self.inside.class.now ≡ c.args.self.now = c.self.view_is ∙ c.in_ok-met.ensures.same in
    let class = c.self.inside.class.now in
    let fields = map member_view class.fields.items in
    let met = subst (λ (x : ClassFile). AreSeen x.constant_pool (map member_view x.fields.items) c.in_ok-met.met) (sym is) c.in_ok-met.ensures.met in
    c.in_ok-found.ensures.finds fields met ∙ named_declared class.constant_pool fields (named class.constant_pool c.args.name c.args.descriptor)
    ∙ ap (λ (x : ClassFile). has_named x c.args.name c.args.descriptor) is
