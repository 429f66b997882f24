use Rattle.std.proofs.Common.{◌∙◌, ◌++◌, [], ap, map, sym, subst}
use Rattle.classfile.specs.Flags.{has}
use Rattle.classfile.specs.Views.{member_view}
use Rattle.hierarchy.specs.declared.summary.Kind.TheVariants.{Field, Method}
use Rattle.hierarchy.specs.private.Summarising.{AreSummarised}
use Rattle.hierarchy.specs.ClassSummary.{member_summaries, superclass_name}
use Rattle.hierarchy.specs.Texts.{kept_texts}
use Rattle.hierarchy.proofs.Summarising.{facts_are}
use Rattle.hierarchy.proofs.class_summary.summary_of.Goals as goal

pub returns : goal.returns
returns c =
    let same = c.class-class.ensures.same in
    let class = c.class-class.result.now in
    let fields = member_summaries class.release class.constant_pool Field (map member_view class.fields.items) in
    let methods = member_summaries class.release class.constant_pool Method (map member_view class.methods.items) in
    let first : AreSummarised (kept_texts c.summarise.new.texts) c.summarise.new.out.items fields =
    subst (λ ms. AreSummarised (kept_texts c.summarise.new.texts) c.summarise.new.out.items (member_summaries class.release class.constant_pool Field (map member_view ms))) c.deref.ensures.value
    (c.in_ok-summarise.ensures.summaries [] (subst (λ ms. AreSummarised (kept_texts c.in_ok-texts.texts) ms []) (sym c.in_ok-members.ensures.items) tt)) in
    let all : AreSummarised (kept_texts c.summarise-2.new.texts) c.summarise-2.new.out.items (fields ++ methods) =
    subst (λ ms. AreSummarised (kept_texts c.summarise-2.new.texts) c.summarise-2.new.out.items (fields ++ member_summaries class.release class.constant_pool Method (map member_view ms))) c.deref-2.ensures.value
    (c.in_ok-summarise-2.ensures.summaries fields first) in
    let members = facts_are c.summarise-2.new.texts.list.items c.summarise-2.new.out.items (fields ++ methods) all in
    λ i. record {
      name = c.name_of.ensures i;
      superclass = (c.superclass_name.ensures ∙ ap (λ k. superclass_name k.constant_pool k.super_class) same) i;
      interface = (c.has.ensures ∙ ap (λ k. has k.access_flags 512) same) i;
      is_final = (c.has-2.ensures ∙ ap (λ k. has k.access_flags 16) same) i;
      members = (members ∙ ap (λ k. (member_summaries k.release k.constant_pool Field (map member_view k.fields.items)) ++ member_summaries k.release k.constant_pool Method (map member_view k.methods.items)) same) i;
    }
