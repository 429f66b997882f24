-- Attributes of numbers: the table of them, by where they stand (JVMS 4.7, table 4.7-C), and what it asks of a body.
use Rattle.std.specs.Prelude.{ℕ, ◌+◌, ◌*◌, Bool, true, false, nat_eq, nat_le, ◌&&◌, if◌then◌else◌, List, [], ◌∷◌, length, Option, Some, None, Result, Ok, Err, codes}
use Rattle.pool.specs.declared.fault.PoolFault.{PoolFault}
use Rattle.pool.specs.Entries.{Entry}
use Rattle.pool.specs.Lookups.{text_at}
use Rattle.classfile.specs.declared.location.Location.{Location}
use Rattle.classfile.specs.declared.location.Location.TheVariants.{Class, Field, Method, Code, RecordComponent}
use Rattle.classfile.specs.declared.layouts.Column.{Column}
use Rattle.classfile.specs.declared.layouts.Column.TheVariants as columns
use Rattle.classfile.specs.declared.layouts.Column.TheVariants.{Plain, Text, TextOrZero, ClassOrZero, Value}
use lib.Pointwise.{pointwise}

-- An attribute whose body is numbers of two bytes each: a row of such numbers, or a count and as many rows. It is read
-- so from a major version on. What the numbers of a row are is told column by column.
pub record AttributeLayout : Type 0 where
  pub name : List ℕ
  pub first_major : ℕ
  pub once : Bool
  pub counted : Bool
  pub columns : List Column

-- one row of numbers, in an attribute that may stand once
abbrev one : ℕ → List ℕ → List Column → AttributeLayout
one major name columns = record { name = name; first_major = major; once = true; counted = false; columns = columns }

-- a count and as many rows, in an attribute that may stand once
abbrev counted : ℕ → List ℕ → List Column → AttributeLayout
counted major name columns = record { name = name; first_major = major; once = true; counted = true; columns = columns }

-- the same in one that may stand often
abbrev often : List ℕ → List Column → AttributeLayout
often name columns = record { name = name; first_major = 45; once = false; counted = true; columns = columns }

-- an attribute that says all by its name, and may stand often
abbrev mark : List ℕ → AttributeLayout
mark name = record { name = name; first_major = 45; once = false; counted = false; columns = [] }

-- one row of a text, in each of the tables that may have a generic signature (4.7.9)
abbrev pub signature : AttributeLayout
signature = one 49 (codes "Signature") (Text ∷ [])

-- those of classes, fields and methods alike (4.7.9, 4.7.15, 4.7.8)
abbrev pub shared : List AttributeLayout
shared = signature ∷ mark (codes "Deprecated") ∷ mark (codes "Synthetic") ∷ []

-- the classes that may extend a sealed one (4.7.31)
abbrev pub permitted_subclasses : AttributeLayout
permitted_subclasses = counted 61 (codes "PermittedSubclasses") (columns.Class ∷ [])

-- those of classes (4.7.10, 4.7.6, 4.7.28, 4.7.29, 4.7.31), fields (4.7.2), methods (4.7.5), Code attributes (4.7.12,
-- 4.7.13) and record components (4.7.30)
abbrev pub layouts_in : Location → List AttributeLayout
layouts_in (Class major) =
    one 45 (codes "SourceFile") (Text ∷ [])
    ∷ counted 45 (codes "InnerClasses") (columns.Class ∷ ClassOrZero ∷ TextOrZero ∷ Plain ∷ [])
    ∷ one 55 (codes "NestHost") (columns.Class ∷ [])
    ∷ counted 55 (codes "NestMembers") (columns.Class ∷ [])
    ∷ permitted_subclasses
    ∷ shared
layouts_in Field = one 45 (codes "ConstantValue") (Value ∷ []) ∷ shared
layouts_in Method = counted 45 (codes "Exceptions") (columns.Class ∷ []) ∷ shared
layouts_in Code =
    often (codes "LineNumberTable") (Plain ∷ Plain ∷ [])
    ∷ often (codes "LocalVariableTable") (Plain ∷ Plain ∷ Text ∷ Text ∷ Plain ∷ [])
    ∷ []
layouts_in RecordComponent = signature ∷ []

-- The version on which it hangs what stands there; it does so in the attributes of classes alone. Of members and code
-- each attribute of the table is read, in class files of any version.
abbrev pub major_at : Location → ℕ
major_at (Class major) = major
major_at Field = 51
major_at Method = 51
major_at Code = 51
major_at RecordComponent = 51

-- the layout is that of this name in class files of this version
abbrev pub is_layout : ℕ → List ℕ → AttributeLayout → Bool
is_layout major name layout = nat_le layout.first_major major && pointwise nat_eq name layout.name

abbrev pub layout_in : ℕ → List ℕ → List AttributeLayout → Option AttributeLayout
layout_in major name [] = None
layout_in major name (layout ∷ others) = if is_layout major name layout then Some layout
    else layout_in major name others

-- the layout of an attribute whose name was looked up
abbrev pub layout_named : Location → Result (List ℕ) PoolFault → Option AttributeLayout
layout_named place (Ok name) = layout_in (major_at place) name (layouts_in place)
layout_named place (Err e) = None

-- the layout of an attribute by the index of its name
abbrev pub layout_at : List Entry → Location → ℕ → Option AttributeLayout
layout_at pool place name = layout_named place (text_at pool name)

-- a count of two bytes, and as many rows of so many bytes
abbrev pub has_count : ℕ → List ℕ → Bool
has_count width [] = false
has_count width (high ∷ []) = false
has_count width (high ∷ low ∷ behind) = nat_eq (length behind) ((high * 256 + low) * width)

abbrev pub has_layout : AttributeLayout → List ℕ → Bool
has_layout layout body =
    if layout.counted then has_count (2 * length layout.columns) body
    else nat_eq (length body) (2 * length layout.columns)
