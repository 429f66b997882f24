use Rattle.std.proofs.Common.{◌≡◌, length}
use Rattle.classfile.specs.Views.{class_view}
use Rattle.type_numbers.specs.Constants.{IsTable, arguments_of, descriptors_of}
use Rattle.type_numbers.specs.Numbers.{Extends}
use Rattle.type_numbers.specs.MethodNumbers.{AreDescriptors}
use Rattle.verify.proofs.numbered.ClassTyped.{AreMethodTypesTo}
use Rattle.verify.proofs.pass.class_types.method_types.Given as goal

abbrev pub invariant-loop-member : goal.invariant-loop-member
invariant-loop-member g l = record {
  kept : Extends l.fn.types l.types;
  described : IsTable l.types l.class.constant_pool l.table;
  read : AreDescriptors l.types l.class.constant_pool (descriptors_of l.table);
  long : length l.methods.items ≡ l.member-index;
  typed : AreMethodTypesTo l.member-index l.types (arguments_of l.table) (class_view l.class) l.methods.items;
}
