-- The values that the program's values stand for, wherever their bytes lie.
use Rattle.std.specs.Prelude.{map}
use Rattle.classfile.specs.declared.attribute.Attribute.{Attribute}
use Rattle.classfile.specs.declared.attribute.Attribute.TheVariants as attributes
use Rattle.classfile.specs.declared.class_attribute.ClassAttribute.{ClassAttribute}
use Rattle.classfile.specs.declared.class_attribute.ClassAttribute.TheVariants as class_attributes
use Rattle.classfile.specs.declared.component.Component.{Component}
use Rattle.classfile.specs.declared.code.CodeAttr.{CodeAttr}
use Rattle.classfile.specs.declared.code.ExceptionHandler.{ExceptionHandler}
use Rattle.classfile.specs.declared.nested.NestedAttribute.{NestedAttribute}
use Rattle.classfile.specs.declared.nested.NestedAttribute.TheVariants as nested
use Rattle.classfile.specs.declared.member.Member.{Member}
use Rattle.classfile.specs.declared.class_file.ClassFile.{ClassFile}
use Rattle.classfile.specs.LayoutViews.{numbers_view}
use Rattle.classfile.specs.Values as values
use Rattle.classfile.specs.Values.{of_parts, of_numbers, raw}

abbrev pub handler_view : ExceptionHandler → values.Handler
handler_view h = record {
  start_pc = h.start_pc;
  end_pc = h.end_pc;
  handler_pc = h.handler_pc;
  catch_type =
      h.catch_type;
}

abbrev pub nested_view : NestedAttribute → values.Nested
nested_view (nested.StackMapTable name body) = of_parts name body.now
nested_view (nested.Numbers name n) = of_numbers name (numbers_view n)
nested_view (nested.Raw name body) = raw name body.now

abbrev pub code_view : CodeAttr → values.CodeBody
code_view c = record {
  max_stack = c.max_stack;
  max_locals = c.max_locals;
  code = c.code.now;
  exception_table =
      map handler_view c.exception_table.items;
  attributes = map nested_view c.attributes.items;
}

abbrev pub attribute_view : Attribute → values.Attribute
attribute_view (attributes.Code name code) = of_parts name (code_view code.value)
attribute_view (attributes.Numbers name n) = of_numbers name (numbers_view n)
attribute_view (attributes.Raw name body) = raw name body.now

abbrev pub member_view : Member → values.Member
member_view m = record {
  access_flags = m.access_flags;
  name = m.name;
  descriptor = m.descriptor;
  attributes =
      map attribute_view m.attributes.items;
}

abbrev pub component_view : Component → values.Component
component_view c = record {
  name = c.name;
  descriptor = c.descriptor;
  attributes =
      map attribute_view c.attributes.items;
}

abbrev pub class_attribute_view : ClassAttribute → values.ClassAttribute
class_attribute_view (class_attributes.Record name components) = of_parts name (map component_view components.items)
class_attribute_view (class_attributes.Numbers name n) = of_numbers name (numbers_view n)
class_attribute_view (class_attributes.Raw name body) = raw name body.now

abbrev pub class_view : ClassFile → values.Class
class_view c = record {
  release = c.release;
  minor_version = c.minor_version;
  major_version = c.major_version;
  constant_pool = c.constant_pool;
  access_flags = c.access_flags;
  this_class = c.this_class;
  super_class = c.super_class;
  interfaces = map (λ n. n) c.interfaces.items;
  fields = map member_view c.fields.items;
  methods = map member_view c.methods.items;
  attributes = map class_attribute_view c.attributes.items;
}
