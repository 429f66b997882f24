use Rattle.names.specs.Types.{type_of}
use Rattle.std.specs.Option.{option_map}
use Rattle.classfile.specs.CodeMethods.{class_of}
use Rattle.classfile.specs.Views.{code_view}
use Rattle.classfile.proofs.MethodLaws.{method_says}
use Rattle.classfile.proofs.laws.method_is_told.Goals as goal

pub returns : goal.returns
returns g c = λ code.
    let m = c.args.method in
    let result = option_map type_of m.result_type in
    method_says (class_of m) m.number (code_view m.code.now) m.is_static m.is_init result m.is_method code
