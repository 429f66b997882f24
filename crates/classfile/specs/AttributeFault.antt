-- The attribute at fault: of the attributes of a class, a field or a method the first one that breaks the rule that is
-- told of the place (JVMS 4.7). They count from 0.
use Rattle.std.specs.Prelude.{ℕ, ◌+◌, min, Bool, false, ◌||◌, if◌then◌else◌, List, [], ◌∷◌, map, slice_get, Option, Some, None, option_map, option_and_then, position}
use Rattle.std.specs.List.{position_from}
use Rattle.std.specs.Option.{option_map_or}
use Rattle.pool.specs.Entries.{Entry}
use Rattle.classfile.specs.declared.form_fault.FormRule.{FormRule}
use Rattle.classfile.specs.declared.form_fault.FormRule.TheVariants.{BadIndex, WrongKind, BadCodeLength, AttributeTwice}
use Rattle.classfile.specs.declared.form_fault.Place.{Place}
use Rattle.classfile.specs.declared.form_fault.Place.TheVariants as places
use Rattle.classfile.specs.declared.location.Location.{Location}
use Rattle.classfile.specs.declared.location.Location.TheVariants as location
use Rattle.classfile.specs.Layouts.{AttributeLayout, layouts_in}
use Rattle.classfile.specs.Values.{AttributeOf, name_of, Attribute, ClassAttribute, Member, Class}
use Rattle.classfile.specs.NumberForm.{has_this_layout}
use Rattle.classfile.specs.AttributeForm.{is_of_parts, on_body, has_bad_length, has_two_stack_maps, attribute_has_bad, attribute_has_other}
use Rattle.classfile.specs.RecordForm.{components_have_twice, class_attribute_has_bad, class_attribute_has_other}

-- ---- an attribute that breaks the rule by what it holds; where 21 is told, no index is bad

abbrev pub attribute_breaks : List Entry → FormRule → Attribute → Bool
attribute_breaks pool BadIndex a = attribute_has_bad pool a
attribute_breaks pool WrongKind a = attribute_has_bad pool a || attribute_has_other pool a
attribute_breaks pool BadCodeLength a = on_body has_bad_length a
attribute_breaks pool AttributeTwice a = on_body has_two_stack_maps a
attribute_breaks pool rule a = false

abbrev pub class_attribute_breaks : List Entry → FormRule → ClassAttribute → Bool
class_attribute_breaks pool BadIndex a = class_attribute_has_bad pool a
class_attribute_breaks pool WrongKind a = class_attribute_has_bad pool a || class_attribute_has_other pool a
class_attribute_breaks pool AttributeTwice a = on_body components_have_twice a
class_attribute_breaks pool rule a = false

-- ---- an attribute that is the second one of its kind

-- the index of the second one that passes the test, where the first one of the list has the index i
abbrev pub second_from : {A : Type 0} → (A → Bool) → ℕ → List A → Option ℕ
second_from test i [] = None
second_from test i (a ∷ others) =
    if test a then position_from test (i + 1) others else second_from test (i + 1) others

abbrev pub second : {A : Type 0} → (A → Bool) → List A → Option ℕ
second test attributes = second_from test 0 attributes

abbrev pub second_of_layout : {A : Type 0} → List (AttributeOf A) → AttributeLayout → Option ℕ
second_of_layout attributes layout = if layout.once then second (has_this_layout layout) attributes else None

-- ---- the first attribute that breaks the rule in one way or the other

-- the smaller index, where there are two
abbrev pub lesser : Option ℕ → Option ℕ → Option ℕ
lesser None n = n
lesser (Some m) None = Some m
lesser (Some m) (Some n) = Some (min m n)

-- the smallest of an index and of others, where there are any
abbrev pub least : Option ℕ → List (Option ℕ) → Option ℕ
least found [] = found
least found (n ∷ others) = least (lesser found n) others

-- the first one of which there may be one in this table, and that is the second one of its kind
abbrev pub repeated_at : {A : Type 0} → Location → List (AttributeOf A) → Option ℕ
repeated_at place attributes = least (second is_of_parts attributes)
    (map (second_of_layout attributes) (layouts_in place))

abbrev pub twice_at : {A : Type 0} → FormRule → Location → List (AttributeOf A) → Option ℕ
twice_at AttributeTwice place attributes = repeated_at place attributes
twice_at rule place attributes = None

abbrev pub member_attribute_at : List Entry → FormRule → Location → Member → Option ℕ
member_attribute_at pool rule place m = lesser (position (attribute_breaks pool rule) m.attributes)
    (twice_at rule place m.attributes)

abbrev pub class_attribute_at : Class → FormRule → Option ℕ
class_attribute_at c rule = lesser (position (class_attribute_breaks c.constant_pool rule) c.attributes)
    (twice_at rule (location.Class c.major_version) c.attributes)

-- Constants have no attributes.
abbrev pub attribute_at_fault : Class → FormRule → Place → Option ℕ
attribute_at_fault c rule (places.Pool index) = None
attribute_at_fault c rule places.Class = class_attribute_at c rule
attribute_at_fault c rule (places.Field n) =
    option_map_or (member_attribute_at c.constant_pool rule location.Field) (slice_get c.fields n) None
attribute_at_fault c rule (places.Method n) =
    option_map_or (member_attribute_at c.constant_pool rule location.Method) (slice_get c.methods n) None

-- ---- the index of the name of an attribute, by its number

abbrev pub name_in : {A : Type 0} → List (AttributeOf A) → ℕ → Option ℕ
name_in attributes n = option_map name_of (slice_get attributes n)

abbrev pub member_name_in : List Member → ℕ → ℕ → Option ℕ
member_name_in members k n = option_and_then (λ m. name_in m.attributes n) (slice_get members k)

abbrev pub attribute_name : Class → Place → ℕ → Option ℕ
attribute_name c (places.Pool index) n = None
attribute_name c places.Class n = name_in c.attributes n
attribute_name c (places.Field k) n = member_name_in c.fields k n
attribute_name c (places.Method k) n = member_name_in c.methods k n
