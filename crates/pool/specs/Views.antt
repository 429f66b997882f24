-- The program's constants as entries, without where their texts lie in memory.
use Rattle.std.specs.Prelude.{List, map}
use Rattle.pool.specs.declared.constant.Constant.{Constant}
use Rattle.pool.specs.declared.constant.Constant.TheVariants as constants
use Rattle.pool.specs.declared.reference.NameAndType as texts
use Rattle.pool.specs.declared.reference.FieldRef.{FieldRef}
use Rattle.pool.specs.declared.reference.MethodRef.{MethodRef}
use Rattle.pool.specs.Lookups.{Named, FieldOf, MethodOf}
use Rattle.pool.specs.Entries.{Entry, Utf8, Integer, Float, Long, Double, Class, String, Fieldref, Methodref, InterfaceMethodref, NameAndType, MethodHandle, MethodType, Dynamic, InvokeDynamic, Unusable}

abbrev pub view : Constant → Entry
view (constants.Utf8 text) = Utf8 text.bytes.now
view (constants.Integer bits) = Integer bits
view (constants.Float bits) = Float bits
view (constants.Long high low) = Long high low
view (constants.Double high low) = Double high low
view (constants.Class name) = Class name
view (constants.String text) = String text
view (constants.Fieldref class name_and_type) = Fieldref class name_and_type
view (constants.Methodref class name_and_type) = Methodref class name_and_type
view (constants.InterfaceMethodref class name_and_type) = InterfaceMethodref class name_and_type
view (constants.NameAndType name descriptor) = NameAndType name descriptor
view (constants.MethodHandle kind reference) = MethodHandle kind reference
view (constants.MethodType descriptor) = MethodType descriptor
view (constants.Dynamic bootstrap name_and_type) = Dynamic bootstrap name_and_type
view (constants.InvokeDynamic bootstrap name_and_type) = InvokeDynamic bootstrap name_and_type
view constants.Unusable = Unusable

abbrev pub views : List Constant → List Entry
views cs = map view cs

-- ---- what references lead to

abbrev pub name_and_type_view : texts.NameAndType → Named
name_and_type_view x = record { name = x.name.bytes.now; descriptor = x.descriptor.bytes.now }

abbrev pub field_ref_view : FieldRef → FieldOf
field_ref_view x = record { class = x.class.bytes.now; name = x.name.bytes.now; descriptor = x.descriptor.bytes.now }

abbrev pub method_ref_view : MethodRef → MethodOf
method_ref_view x = record {
  interface = x.interface;
  class = x.class.bytes.now;
  name = x.name.bytes.now;
  descriptor =
      x.descriptor.bytes.now;
}
