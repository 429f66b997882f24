-- The faults that the attributes of a class may have (JVMS 4.7), and the components that a Record attribute holds
-- (4.7.30).
use Rattle.std.specs.Prelude.{Bool, ◌||◌, List}
use Rattle.std.specs.List.{list_any}
use Rattle.pool.specs.Entries.{Entry}
use Rattle.classfile.specs.declared.location.Location.{Location}
use Rattle.classfile.specs.declared.location.Location.TheVariants as location
use Rattle.classfile.specs.Values.{Component, ClassAttribute}
use Rattle.classfile.specs.ConstantForm.{texts_have_bad, texts_have_other}
use Rattle.classfile.specs.NumberForm.{numbers_stand_twice}
use Rattle.classfile.specs.AttributeForm.{on_body, has_two, head_has_bad, head_has_other, attributes_have_bad, attributes_have_other}

-- ---- a component of a record: its name and its descriptor are texts

unfoldable pub component_has_bad : List Entry → Component → Bool
component_has_bad pool c = texts_have_bad pool c.name c.descriptor || attributes_have_bad pool c.attributes

unfoldable pub component_has_other : List Entry → Component → Bool
component_has_other pool c = texts_have_other pool c.name c.descriptor || attributes_have_other pool c.attributes

-- each component has its own attributes, and of each kind of which there may be one at most one
unfoldable pub component_has_twice : Component → Bool
component_has_twice c = numbers_stand_twice location.RecordComponent c.attributes

unfoldable pub components_have_bad : List Entry → List Component → Bool
components_have_bad pool components = list_any (component_has_bad pool) components

unfoldable pub components_have_other : List Entry → List Component → Bool
components_have_other pool components = list_any (component_has_other pool) components

unfoldable pub components_have_twice : List Component → Bool
components_have_twice components = list_any component_has_twice components

-- ---- the attributes of a class, and which rules they break there

unfoldable pub class_attribute_has_bad : List Entry → ClassAttribute → Bool
class_attribute_has_bad pool attribute = head_has_bad pool attribute || on_body (components_have_bad pool) attribute

unfoldable pub class_attribute_has_other : List Entry → ClassAttribute → Bool
class_attribute_has_other pool attribute =
    head_has_other pool attribute || on_body (components_have_other pool) attribute

unfoldable pub class_attributes_have_bad : List Entry → List ClassAttribute → Bool
class_attributes_have_bad pool attributes = list_any (class_attribute_has_bad pool) attributes

unfoldable pub class_attributes_have_other : List Entry → List ClassAttribute → Bool
class_attributes_have_other pool attributes = list_any (class_attribute_has_other pool) attributes

-- at most one Record attribute
unfoldable pub record_stands_twice : List ClassAttribute → Bool
record_stands_twice attributes = has_two attributes

-- in a component's attributes one stands twice of which there may be one
unfoldable pub records_have_twice : List ClassAttribute → Bool
records_have_twice attributes = list_any (on_body components_have_twice) attributes

-- and at most one of each other kind of which there may be one
unfoldable pub class_attributes_have_twice : Location → List ClassAttribute → Bool
class_attributes_have_twice place attributes =
    record_stands_twice attributes || records_have_twice attributes || numbers_stand_twice place attributes
