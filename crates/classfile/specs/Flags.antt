-- Which access flags may stand together (JVMS 4.1, table 4.1-B; 4.5, table 4.5-A; 4.6, table 4.6-A).
use Rattle.std.specs.Prelude.{ℕ, ◌+◌, Bool, not, ◌&&◌, ◌||◌, nat_eq, nat_le, nat_lt, bit_and, if◌then◌else◌, List, [], ◌∷◌}
use Rattle.std.specs.List.{list_any}
use Rattle.classfile.specs.declared.flags.FlagRow.{FlagRow}

abbrev pub PUBLIC : ℕ
PUBLIC = 0x0001

abbrev pub PRIVATE : ℕ
PRIVATE = 0x0002

abbrev pub PROTECTED : ℕ
PROTECTED = 0x0004

abbrev pub STATIC : ℕ
STATIC = 0x0008

abbrev pub FINAL : ℕ
FINAL = 0x0010

-- of a class
abbrev pub SUPER : ℕ
SUPER = 0x0020

-- of a method
abbrev pub SYNCHRONIZED : ℕ
SYNCHRONIZED = 0x0020

-- of a field
abbrev pub VOLATILE : ℕ
VOLATILE = 0x0040

-- of a method
abbrev pub BRIDGE : ℕ
BRIDGE = 0x0040

abbrev pub NATIVE : ℕ
NATIVE = 0x0100

abbrev pub INTERFACE : ℕ
INTERFACE = 0x0200

abbrev pub ABSTRACT : ℕ
ABSTRACT = 0x0400

abbrev pub ANNOTATION : ℕ
ANNOTATION = 0x2000

abbrev pub ENUM : ℕ
ENUM = 0x4000

abbrev pub MODULE : ℕ
MODULE = 0x8000

-- the flag is set
unfoldable pub has : ℕ → ℕ → Bool
has flags flag = not (nat_eq (bit_and flags flag) 0)

-- ---- the tables

-- where all of `set` stand and none of `clear`, none of `excluded` may stand, and all of `needed` have to
abbrev pub row : (set clear excluded needed : ℕ) → FlagRow
row set clear excluded needed = record { set = set; clear = clear; excluded = excluded; needed = needed }

-- No class is a module; an interface is not final, special in its calls or an enum; another class is no annotation, and
-- not both final and abstract. From major version 50 on an interface is abstract; older ones are so without the flag.
abbrev pub class_flags : ℕ → List FlagRow
class_flags major =
    row 0 0 MODULE 0
    ∷ row INTERFACE 0 (FINAL + SUPER + ENUM) (if nat_lt major 50 then 0 else ABSTRACT)
    ∷ row 0 INTERFACE ANNOTATION 0
    ∷ row FINAL INTERFACE ABSTRACT 0
    ∷ []

-- one of public, private and protected at most, in front of other rows
abbrev pub one_access : List FlagRow → List FlagRow
one_access others = row PUBLIC 0 (PRIVATE + PROTECTED) 0 ∷ row PRIVATE 0 PROTECTED 0 ∷ others

abbrev pub field_flags : List FlagRow
field_flags = one_access (row FINAL 0 VOLATILE 0 ∷ [])

-- what is abstract has no body; an instance initialization method is none of these at all, and of a class
-- initialization method only its being static counts
abbrev pub method_flags : (init clinit : Bool) → List FlagRow
method_flags init clinit =
    if clinit then row 0 0 0 STATIC ∷ []
    else if init then one_access (row 0 0 (STATIC + FINAL + SYNCHRONIZED + BRIDGE + NATIVE + ABSTRACT) 0 ∷ [])
    else one_access (row ABSTRACT 0 (PRIVATE + STATIC + FINAL + SYNCHRONIZED + NATIVE) 0 ∷ [])

-- ---- whether flags are bad

-- all of the flags are set, and some of them
abbrev pub has_all : ℕ → ℕ → Bool
has_all flags those = nat_eq (bit_and flags those) those

abbrev pub has_some : ℕ → ℕ → Bool
has_some flags those = not (nat_eq (bit_and flags those) 0)

-- the row applies, and something is set that it excludes or missing that it needs
abbrev pub breaks : ℕ → FlagRow → Bool
breaks flags r = (has_all flags r.set && not (has_some flags r.clear))
    && (has_some flags r.excluded || not (has_all flags r.needed))

unfoldable pub are_bad_class_flags : ℕ → ℕ → Bool
are_bad_class_flags major flags = list_any (breaks flags) (class_flags major)

unfoldable pub are_bad_field_flags : ℕ → Bool
are_bad_field_flags flags = list_any (breaks flags) field_flags

unfoldable pub are_bad_method_flags : Bool → Bool → ℕ → Bool
are_bad_method_flags init clinit flags = list_any (breaks flags) (method_flags init clinit)

-- ---- of a class that is read as a release has it

-- of a field
abbrev pub TRANSIENT : ℕ
TRANSIENT = 0x0080

-- of a method
abbrev pub STRICT : ℕ
STRICT = 0x0800

-- a field of an interface is public, static and final, and may be synthetic (4.5)
abbrev pub interface_field_flags : List FlagRow
interface_field_flags =
    row 0 0 (PRIVATE + PROTECTED + VOLATILE + TRANSIENT + ENUM) (PUBLIC + STATIC + FINAL) ∷ []

-- a method of an interface is none of these (4.6)
abbrev pub interface_method : FlagRow
interface_method = row 0 0 (PROTECTED + FINAL + SYNCHRONIZED + NATIVE) 0

-- below major version 52 it is public and abstract, and from then on either public or private (4.6)
abbrev pub interface_method_flags : ℕ → List FlagRow
interface_method_flags major =
    if nat_lt major 52 then interface_method ∷ row 0 0 0 (PUBLIC + ABSTRACT) ∷ []
    else interface_method ∷ row 0 PUBLIC 0 PRIVATE ∷ []

-- in these versions what is abstract is not strict (4.6)
abbrev pub has_strict : ℕ → Bool
has_strict major = nat_le 46 major && nat_le major 60

abbrev pub strict_flags : List FlagRow
strict_flags = row ABSTRACT 0 STRICT 0 ∷ []

unfoldable pub are_bad_interface_field : ℕ → Bool
are_bad_interface_field flags = list_any (breaks flags) interface_field_flags

unfoldable pub are_bad_interface_method : ℕ → ℕ → Bool
are_bad_interface_method major flags = list_any (breaks flags) (interface_method_flags major)

unfoldable pub are_badly_strict : ℕ → ℕ → Bool
are_badly_strict major flags = has_strict major && list_any (breaks flags) strict_flags
