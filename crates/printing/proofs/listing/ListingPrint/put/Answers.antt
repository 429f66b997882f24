use Rattle.std.proofs.Common.{ℕ, List, ◌++◌, map, subst}
use Rattle.std.specs.List.{flat_map}
use Rattle.classfile.specs.declared.class_attribute.ClassAttribute.{ClassAttribute}
use Rattle.classfile.specs.declared.member.Member.{Member}
use Rattle.classfile.specs.Views.{class_attribute_view, member_view, class_view}
use Rattle.printing.specs.Classes.{class_line, super_line, interface_line, attribute_lines, field_line, method_lines}
use Rattle.printing.specs.Writing.{Writes}
use Rattle.printing.proofs.listing.ListingPrint.put.Goals as goal

pub returns : goal.returns
returns g c =
    let held = g.W.Write.contents in
    let class = c.args.self.now.0.now in
    let pool = class.constant_pool in
    let text : List ℕ → List Member → List Member → List ClassAttribute → List ℕ = λ is fs ms attributes.
    class_line (class_view class) ++ (super_line (class_view class) ++ (flat_map (interface_line pool) (map (λ n. n) is)
    ++ (attribute_lines pool (map class_attribute_view attributes)
    ++ (flat_map (field_line pool) (map member_view fs) ++ flat_map (method_lines pool) (map member_view ms))))) in
    let written : List ℕ → List Member → List Member → List ClassAttribute → Type 0 = λ is fs ms attributes.
    Writes (held c.args.out.now) (held c.put.new.out) (text is fs ms attributes) c.put.result in
    let i = class.interfaces.items in
    let f = class.fields.items in
    let m = class.methods.items in
    let a = class.attributes.items in
    subst (λ is. written is f m a) c.deref.ensures.value
    (subst (λ fs. written c.deref.result.now fs m a) c.deref-2.ensures.value
    (subst (λ ms. written c.deref.result.now c.deref-2.result.now ms a) c.deref-3.ensures.value
    (subst (λ attributes. written c.deref.result.now c.deref-2.result.now c.deref-3.result.now attributes) c.deref-4.ensures.value c.put.ensures)))
