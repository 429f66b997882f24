-- Words of the code's own steps: nothing that a reader must believe rests on them.
-- Constants as the program keeps them.
use Rattle.names.specs.Types.{type_of, method_of}
use Rattle.pool.specs.ConstantMeanings.{FieldConstant, MethodConstant, CallSite}
use Rattle.machine.specs.declared.constants.FieldConstant.{FieldConstant as RawField}
use Rattle.machine.specs.declared.constants.MethodConstant.{MethodConstant as RawMethod}
use Rattle.machine.specs.declared.constants.CallSite.{CallSite as RawSite}
use Rattle.machine.specs.Views.{run_type_view}

abbrev pub field_view : RawField → FieldConstant
field_view f = record {
  class = f.class.now;
  name = f.name.now;
  descriptor = f.descriptor.now;
  type =
      type_of f.field_type;
}

abbrev pub constant_view : RawMethod → MethodConstant
constant_view c = record {
  interface = c.interface;
  class = run_type_view c.class;
  name = c.name.now;
  descriptor =
      c.descriptor.now;
  type = method_of c.method_type;
}

abbrev pub site_view : RawSite → CallSite
site_view s = record { name = s.name.now; type = method_of s.method_type }
