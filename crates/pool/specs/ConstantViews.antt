-- The meaning of the program's field and method constants, and of its call sites.
use Rattle.names.specs.References.{reference_view}
use Rattle.names.specs.Types.{type_of, method_of}
use Rattle.pool.specs.declared.reference.FieldConstant.{FieldConstant as RawField}
use Rattle.pool.specs.declared.reference.MethodConstant.{MethodConstant as RawMethod}
use Rattle.pool.specs.declared.reference.CallSite.{CallSite as RawSite}
use Rattle.pool.specs.ConstantMeanings.{FieldConstant, MethodConstant, CallSite}

abbrev pub field_constant_view : RawField → FieldConstant
field_constant_view f = record {
  class = f.class.now;
  name = f.name.now;
  descriptor = f.descriptor.now;
  type =
      type_of f.field_type;
}

abbrev pub method_constant_view : RawMethod → MethodConstant
method_constant_view m = record {
  interface = m.interface;
  class = reference_view m.class;
  name =
      m.name.now;
  descriptor = m.descriptor.now;
  type = method_of m.method_type;
}

abbrev pub call_site_view : RawSite → CallSite
call_site_view s = record { name = s.name.now; type = method_of s.method_type }
