use Rattle.type_numbers.proofs.LoadedTypes.{loads_nothing}
use Rattle.type_numbers.proofs.loaded_numbers.LoadedNumbers.of.Goals as goal

pub returns-in_default : goal.returns-in_default
returns-in_default c = λ s h. loads_nothing s c.args.constant (record {
  no_int = c.in_default.not-Integer;
  no_float = c.in_default.not-Float;
  no_long = c.in_default.not-Long;
  no_double = c.in_default.not-Double;
  no_class = c.in_default.not-Class;
  no_string = c.in_default.not-String;
  no_method_type = c.in_default.not-MethodType;
  no_method_handle = c.in_default.not-MethodHandle;
})
