-- The class itself: its interfaces (JVMS 4.1), and its attributes (4.7.28 to 4.7.31).
use Rattle.std.specs.Prelude.{ℕ, Bool, ◌&&◌, ◌||◌, List, [], ◌∷◌}
use Rattle.std.specs.List.{list_any}
use Rattle.std.specs.Option.{is_some}
use Rattle.std.specs.Str.{bytes_eq}
use Rattle.pool.specs.Entries.{Entry}
use Rattle.classfile.specs.declared.form_fault.FormRule.TheVariants.{BadFlags, Twice, AttributeTwice, BadBootstrap}
use Rattle.classfile.specs.declared.location.Location.TheVariants as location
use Rattle.classfile.specs.Bootstraps.{has_bad_bootstraps}
use Rattle.classfile.specs.Conditions.{Condition}
use Rattle.classfile.specs.Flags.{has, FINAL}
use Rattle.classfile.specs.ClassAttributes.{permitted_in}
use Rattle.classfile.specs.Methods.{names_at}
use Rattle.classfile.specs.Values.{Class, ClassAttribute}
use Rattle.classfile.specs.release.Twice.{has_twice}
use Rattle.classfile.specs.release.Attributes.{singles_stand_twice, records_have_twice, are_of_two_nests}

-- ---- interfaces

unfoldable pub interfaces_stand_twice : List Entry → List ℕ → Bool
interfaces_stand_twice pool interfaces = has_twice bytes_eq (names_at pool interfaces)

-- ---- attributes

-- there is a list of classes that may extend the class
unfoldable pub has_permitted : List ClassAttribute → Bool
has_permitted attributes = list_any (λ a. is_some (permitted_in a)) attributes

-- a final class has none (4.7.31)
abbrev pub is_final_and_sealed : Class → Bool
is_final_and_sealed c = has c.access_flags FINAL && has_permitted c.attributes

unfoldable pub class_has_twice : Class → Bool
class_has_twice c =
    singles_stand_twice c.major_version c.constant_pool (location.Class c.major_version) c.attributes
    || (records_have_twice c.major_version c.constant_pool c.attributes || are_of_two_nests c.attributes)

abbrev pub class_conditions : Class → List Condition
class_conditions c =
    (BadFlags, is_final_and_sealed c)
    ∷ (Twice, interfaces_stand_twice c.constant_pool c.interfaces)
    ∷ (AttributeTwice, class_has_twice c)
    ∷ (BadBootstrap, has_bad_bootstraps c)
    ∷ []
