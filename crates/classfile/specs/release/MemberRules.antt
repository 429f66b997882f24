-- Fields and methods, by what their class is (JVMS 4.5, 4.6).
use Rattle.std.specs.Prelude.{Bool, not, ◌&&◌, ◌||◌, List, [], ◌∷◌}
use Rattle.classfile.specs.declared.form_fault.FormRule.TheVariants.{WrongKind, BadFlags, AttributeTwice, BadDebugTable}
use Rattle.classfile.specs.declared.location.Location.TheVariants.{Field, Method}
use Rattle.classfile.specs.Conditions.{Condition}
use Rattle.classfile.specs.Flags.{has, STATIC, INTERFACE, are_bad_interface_field, are_bad_interface_method, are_badly_strict}
use Rattle.classfile.specs.Indices.{on_text}
use Rattle.classfile.specs.MemberForm.{is_class_initializer}
use Rattle.classfile.specs.Values.{Class, Member}
use Rattle.classfile.specs.release.Attributes.{singles_stand_twice, codes_have_twice, have_other_value}
use Rattle.classfile.specs.release.DebugTables.{have_bad_table}

abbrev pub is_interface : Class → Bool
is_interface c = has c.access_flags INTERFACE

-- only of a static field the value is looked at
unfoldable pub has_value_of_other_type : Class → Member → Bool
has_value_of_other_type c m =
    has m.access_flags STATIC && on_text c.constant_pool m.descriptor (have_other_value c.constant_pool m.attributes)

abbrev pub field_conditions : Class → Member → List Condition
field_conditions c m =
    (WrongKind, has_value_of_other_type c m)
    ∷ (BadFlags, is_interface c && are_bad_interface_field m.access_flags)
    ∷ (AttributeTwice, singles_stand_twice c.major_version c.constant_pool Field m.attributes)
    ∷ []

-- of a class initialization method no flag counts but one that is judged in every class
unfoldable pub is_badly_flagged : Class → Member → Bool
is_badly_flagged c m =
    not (is_class_initializer c.constant_pool m)
    && (are_badly_strict c.major_version m.access_flags
    || (is_interface c && are_bad_interface_method c.major_version m.access_flags))

abbrev pub method_conditions : Class → Member → List Condition
method_conditions c m =
    (BadFlags, is_badly_flagged c m)
    ∷ (
      AttributeTwice,
      singles_stand_twice c.major_version c.constant_pool Method m.attributes
          || codes_have_twice c.major_version c.constant_pool m.attributes,
    )
    ∷ (BadDebugTable, have_bad_table c.major_version c.constant_pool m.attributes)
    ∷ []
