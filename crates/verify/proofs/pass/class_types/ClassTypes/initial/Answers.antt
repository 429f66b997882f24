use Rattle.std.proofs.Common.{◌≡◌, ◌∙◌, ◌++◌, map, option_to_list, List, ℕ, sym, ap, subst}
use Rattle.classfile.specs.CodeMethods.{types_of}
use Rattle.classfile.specs.Methods.{receiver_of}
use Rattle.frames.specs.Slots.{descriptor_type}
use Rattle.frames.specs.VerificationType.{VerificationType}
use Rattle.rules.specs.Bodies.{method_view}
use Rattle.type_numbers.specs.MethodNumbers.{AreNumbers}
use Rattle.verify.specs.private.pass.ClassTypes.{receiver_type}
use Rattle.verify.proofs.numbered.ClassTyped.{numbers_join, receiver_is, receiver_number}
use Rattle.verify.proofs.pass.class_types.ClassTypes.initial.Goals as goal

pub returns : goal.returns
returns c = λ s k.
    let m = method_view c.args.method.now in
    let receiver = receiver_type m (receiver_of m) in
    let rest = map descriptor_type (types_of c.args.method.now).params in
    let first = receiver_number s c.receiver.result receiver (c.receiver.ensures s k) in
    let both = numbers_join s (option_to_list c.receiver.result) c.parameters.result.now (option_to_list receiver) rest first (c.parameters.ensures s k) in
    let items : c.extend_from_slice.new.self.items ≡ option_to_list c.receiver.result ++ c.parameters.result.now =
    c.in_ok-extend_from_slice.ensures.items ∙ ap (λ (ns : List ℕ). ns ++ c.parameters.result.now) (c.in_ok-put.ensures ∙ ap (λ (ns : List ℕ). ns ++ option_to_list c.receiver.result) c.new-initial.ensures.items) in
    subst (λ (ts : List VerificationType). AreNumbers s c.extend_from_slice.new.self.items (ts ++ rest)) (receiver_is m (receiver_of m)) (subst (λ ns. AreNumbers s ns (option_to_list receiver ++ rest)) (sym items) both)
