-- The faults that a field or a method may have (JVMS 4.5, 4.6).
use Rattle.std.specs.Prelude.{ℕ, Bool, not, ◌&&◌, ◌||◌, List, [], ◌∷◌, codes, if◌then◌else◌}
use Rattle.std.specs.List.{list_any}
use Rattle.std.specs.Str.{bytes_eq}
use Rattle.pool.specs.Entries.{Entry}
use Rattle.pool.specs.Lookups.{Named, named}
use Rattle.classfile.specs.declared.form_fault.FormRule.TheVariants.{BadIndex, WrongKind, BadName, BadDescriptor, BadFlags, Twice, CodeMissing, CodeNotAllowed, BadCodeLength, AttributeTwice}
use Rattle.classfile.specs.Values.{Attribute, Member}
use Rattle.classfile.specs.Conditions.{Condition}
use Rattle.classfile.specs.Indices.{on_found, on_text}
use Rattle.classfile.specs.Naming.{is_method_name, is_init, is_clinit, fits_method}
use Rattle.classfile.specs.ConstantForm.{texts_have_bad, texts_have_other, is_no_unqualified_name, is_no_field_descriptor}
use Rattle.classfile.specs.Flags.{has, STATIC, NATIVE, ABSTRACT, are_bad_field_flags, are_bad_method_flags}
use Rattle.classfile.specs.declared.location.Location.TheVariants as location
use Rattle.classfile.specs.NumberForm.{numbers_stand_twice}
use Rattle.classfile.specs.AttributeForm.{attributes_have_bad, attributes_have_other, is_of_parts, have_bad_length, have_twice}

-- the name and the descriptor of a member are texts, which pass the test
abbrev pub on_member : List Entry → Member → (Named → Bool) → Bool
on_member pool m test = on_found test (named pool m.name m.descriptor)

abbrev pub are_same : Named → Named → Bool
are_same x y = bytes_eq x.name y.name && bytes_eq x.descriptor y.descriptor

-- one of the members has this name and descriptor
unfoldable pub is_among : List Entry → List Member → Named → Bool
is_among pool members x = list_any (λ m. on_member pool m (are_same x)) members

-- an earlier member has its name and descriptor
unfoldable pub is_repeated : List Entry → List Member → Member → Bool
is_repeated pool earlier m = on_member pool m (is_among pool earlier)

unfoldable pub member_has_bad : List Entry → Member → Bool
member_has_bad pool m = texts_have_bad pool m.name m.descriptor || attributes_have_bad pool m.attributes

unfoldable pub member_has_other : List Entry → Member → Bool
member_has_other pool m = texts_have_other pool m.name m.descriptor || attributes_have_other pool m.attributes

-- ---- fields; `repeated` where an earlier field has the name and the descriptor

abbrev pub field_conditions : List Entry → Bool → Member → List Condition
field_conditions pool repeated m =
    (BadIndex, member_has_bad pool m)
    ∷ (WrongKind, member_has_other pool m)
    ∷ (BadName, is_no_unqualified_name pool m.name)
    ∷ (BadDescriptor, is_no_field_descriptor pool m.descriptor)
    ∷ (BadFlags, are_bad_field_flags m.access_flags)
    ∷ (Twice, repeated)
    ∷ (AttributeTwice, numbers_stand_twice location.Field m.attributes)
    ∷ []

-- ---- methods

-- a method name, or one of the two special ones, of which an interface has no `<init>`
abbrev pub may_name_method : Bool → List ℕ → Bool
may_name_method interface name = if is_init name then not interface else is_clinit name || is_method_name name

unfoldable pub is_bad_method_name : List Entry → Bool → ℕ → Bool
is_bad_method_name pool interface index = on_text pool index (λ t. not (may_name_method interface t))

-- the descriptor of a class initialization method is fixed (2.9.2)
abbrev pub may_describe_method : Bool → Named → Bool
may_describe_method receiver x =
    if is_clinit x.name then bytes_eq x.descriptor (codes "()V") else fits_method receiver x.name x.descriptor

-- every method but a static one is called on a receiver
unfoldable pub is_badly_described : List Entry → Member → Bool
is_badly_described pool m = on_member pool m (λ x. not (may_describe_method (not (has m.access_flags STATIC)) x))

unfoldable pub is_instance_initializer : List Entry → Member → Bool
is_instance_initializer pool m = on_text pool m.name is_init

unfoldable pub is_class_initializer : List Entry → Member → Bool
is_class_initializer pool m = on_text pool m.name is_clinit

unfoldable pub is_badly_flagged : List Entry → Member → Bool
is_badly_flagged pool m = are_bad_method_flags (is_instance_initializer pool m)
    (is_class_initializer pool m) m.access_flags

-- the body of the method stands in a Code attribute (4.7.3)
unfoldable pub has_body : List Entry → Member → Bool
has_body pool m = is_class_initializer pool m || not (has m.access_flags NATIVE || has m.access_flags ABSTRACT)

unfoldable pub has_code : List Attribute → Bool
has_code attributes = list_any is_of_parts attributes

-- what may be wrong with its attributes
abbrev pub body_conditions : List Entry → Member → List Condition
body_conditions pool m =
    (CodeMissing, has_body pool m && not (has_code m.attributes))
    ∷ (CodeNotAllowed, not (has_body pool m) && has_code m.attributes)
    ∷ (BadCodeLength, have_bad_length m.attributes)
    ∷ (AttributeTwice, have_twice m.attributes)
    ∷ []

abbrev pub method_conditions : List Entry → Bool → Bool → Member → List Condition
method_conditions pool interface repeated m =
    (BadIndex, member_has_bad pool m)
    ∷ (WrongKind, member_has_other pool m)
    ∷ (BadName, is_bad_method_name pool interface m.name)
    ∷ (BadDescriptor, is_badly_described pool m)
    ∷ (BadFlags, is_badly_flagged pool m)
    ∷ (Twice, repeated)
    ∷ body_conditions pool m
