use Rattle.std.proofs.Common.{◌≡◌, ◌∙◌, Some, sym, ap}
use Rattle.std.specs.Prelude.{slice_get}
use Rattle.std.specs.Option.{option_and_then}
use Rattle.classfile.specs.Methods.{code_of}
use Rattle.classfile.specs.MethodParts.{code_at}
use Rattle.classfile.specs.Views.{class_view, code_view, member_view, attribute_view}
use Rattle.classfile.proofs.Places.{viewed_at}
use Rattle.classfile.proofs.MethodLaws.{method_there}
use Rattle.std.proofs.Common.{map, ◌<◌, length}
use Rattle.classfile.proofs.form.Formed.method.Goals as goal

pub invariant_of-result : goal.invariant_of-result
invariant_of-result c =
    let class = c.class-class.result.now in
    let k = class_view class in
    let m = member_view c.index-member.result.now in
    let body = code_view c.in_ok-code.code.now in
    let lt : c.args.number < length class.methods.items = rw c.class-class.ensures.same c.requires in
    let here : slice_get k.methods c.args.number ≡ Some m =
    viewed_at member_view class.methods.items c.args.number c.index-member.result.now lt c.index-member.ensures in
    let coded : code_of m.attributes ≡ Some body =
    sym (c.in_ok-code.ensures ∙ ap (λ l. code_of (map attribute_view l)) c.deref.ensures.value) in
    let static = c.has in
    let init = c.is_instance_initializer in
    let formed = c.class-class.ensures.formed in
    record {
      is_method = method_there (record { file = k; dynamic = c.args.self.dynamic }) formed c.args.number m body static.result init.result _ here coded static.ensures init.ensures c.result_at.ensures;
    }

pub returns-clause-code : goal.returns-clause-code
returns-clause-code c =
    let class = c.class-class.result.now in
    let k = class_view class in
    let m = member_view c.index-member.result.now in
    let body = code_view c.in_ok-code.code.now in
    let lt : c.args.number < length class.methods.items = rw c.class-class.ensures.same c.requires in
    let here : slice_get k.methods c.args.number ≡ Some m =
    viewed_at member_view class.methods.items c.args.number c.index-member.result.now lt c.index-member.ensures in
    let coded : code_of m.attributes ≡ Some body =
    sym (c.in_ok-code.ensures ∙ ap (λ l. code_of (map attribute_view l)) c.deref.ensures.value) in
    let at_class = ap (λ x. code_at (class_view x) c.args.number) (sym c.class-class.ensures.same) in
    sym (at_class ∙ ap (option_and_then (λ m. code_of m.attributes)) here ∙ coded)
