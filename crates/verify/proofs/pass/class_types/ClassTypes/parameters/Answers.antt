use Rattle.std.proofs.Common.{◌∙◌, None, sym}
use Rattle.std.specs.Prelude.{slice_index_or}
use Rattle.classfile.specs.CodeMethods.{types_of}
use Rattle.type_numbers.specs.Constants.{arguments_of}
use Rattle.verify.proofs.numbered.ClassTyped.{own_types, types_named, never_unnamed}
use Rattle.verify.proofs.pass.class_types.ClassTypes.parameters.Goals as goal

pub arguments-requires : goal.arguments-requires
arguments-requires c =
    let m = c.args.method.now in
    let x = c.args.self.now in
    (types_named c.requires.0 (arguments_of x.table) (slice_index_or x.methods.items m.number None) c.in-Some.named (types_of m) (sym c.named.ensures ∙ c.in-Some.is)
    (own_types m c.requires.0 x c.requires.1)).within

pub returns-in-Some : goal.returns-in-Some
returns-in-Some c = λ s k.
    let m = c.args.method.now in
    let x = c.args.self.now in
    let h = types_named s (arguments_of x.table) (slice_index_or x.methods.items m.number None) c.in-Some.named (types_of m) (sym c.named.ensures ∙ c.in-Some.is) (own_types m s x k) in
    rw c.arguments.ensures h.arguments

pub returns-in-None : goal.returns-in-None
returns-in-None c = λ s k.
    let m = c.args.method.now in
    let x = c.args.self.now in
    absurd (never_unnamed s (arguments_of x.table) (slice_index_or x.methods.items m.number None) (types_of m) (sym c.named.ensures ∙ c.in-None.is) (own_types m s x k))
