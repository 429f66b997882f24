use Rattle.std.proofs.Common.{None}
use Rattle.std.specs.Prelude.{slice_index_or}
use Rattle.classfile.specs.CodeMethods.{types_of}
use Rattle.type_numbers.specs.Constants.{arguments_of}
use Rattle.verify.proofs.numbered.ClassTyped.{own_types, result_named}
use Rattle.verify.proofs.pass.class_types.ClassTypes.rule_numbers.Goals as goal

pub returns : goal.returns
returns c = λ s k.
    let m = c.args.method.now in
    let x = c.args.self.now in
    record {
      table = k.table;
      object = k.numbers.object;
      objects = k.numbers.objects;
      throwable = k.numbers.throwable;
      class = k.numbers.class;
      superclass = k.numbers.superclass;
      returned = result_named s (arguments_of x.table) (slice_index_or x.methods.items m.number None) (types_of m) c.returned.result c.returned.ensures (own_types m s x k);
    }
