-- The layout of class files (JVMS 4.1, 4.5 to 4.7): which bytes spell which class, and which fault comes first.
-- Each layout is the parts that stand one after the other, in the order of the file.
use Rattle.std.specs.Prelude.{◌≡◌, ℕ, Bool, ◌-◌, ◌≤◌, ◌<◌, List, Option, Some, None, length, nat_eq, if◌then◌else◌, ◌⊎◌}
use Rattle.layout.specs.Format.{Format, Spells, done, part, refuse, andthen, number, times, inside}
use Rattle.layout.specs.Whole.{WholeFault}
use Rattle.layout.specs.declared.limits.TheConstants.{MAX_CLASS_BYTES}
use Rattle.layout.specs.declared.fault.ReadFault.{ReadFault}
use Rattle.layout.specs.declared.fault.ReadFault.TheVariants.{AttributeLength, BadMagic, BadVersion, BytesAfter, TooLong}
use Rattle.pool.specs.Entries.{Entry, pool}
use Rattle.classfile.specs.declared.location.Location.{Location}
use Rattle.classfile.specs.declared.location.Location.TheVariants as location
use Rattle.classfile.specs.declared.versions.Versions.{Versions}
use Rattle.classfile.specs.Versions.{is_version, is_release}
use Rattle.classfile.specs.Locations.{is_code, is_stack_map, is_record}
use Rattle.classfile.specs.Layouts.{AttributeLayout, has_layout, layout_at}
use Rattle.classfile.specs.Values.{AttributeOf, of_parts, of_numbers, raw, Handler, Nested, CodeBody, Attribute, Member, Component, ClassAttribute, Class}

-- a table: a count of two bytes, and so many items
abbrev pub table : {V : Type 0} → Format V → Format (List V)
table item = andthen (number 2) (λ n. times n item)

-- an item of an exception table
unfoldable pub handler : Format Handler
handler = andthen (number 2) (λ start. andthen (number 2)
    (λ end. andthen (number 2) (λ handler. andthen (number 2) (λ catch.
    done (record { start_pc = start; end_pc = end; handler_pc = handler; catch_type = catch })))))

-- A body of n bytes was taken. Where attributes of its name have a layout here, it is numbers, if it is laid out so,
-- and otherwise does not use exactly its length. Where they have none, it is kept as it is.
abbrev pub kept : {A : Type 0} → Option AttributeLayout → (name n : ℕ) → List ℕ → Format (AttributeOf A)
kept None name n body = done (raw name body)
kept (Some layout) name n body =
    if has_layout layout body then done (of_numbers name (record { layout = layout; body = body }))
    else refuse (λ at. AttributeLength (at - n - 6))

-- what all attributes have (4.7): the name's index, the length of the body, and the body
pub record AttributeInfo : Type 0 where
  pub name : ℕ
  pub size : ℕ
  pub body : List ℕ

unfoldable pub attribute_info : Format AttributeInfo
attribute_info = andthen (number 2) (λ name. andthen (number 4) (λ n. part n (λ body.
    done (record { name = name; size = n; body = body }))))

-- an attribute of a Code attribute, whose body is kept as it is or as numbers
unfoldable pub nested : List Entry → Format Nested
nested pool = andthen attribute_info (λ a.
    if is_stack_map pool location.Code a.name then done (of_parts a.name a.body)
    else kept (layout_at pool location.Code a.name) a.name a.size a.body)

-- what stands before the exception table of a Code attribute
pub record Sizes : Type 0 where
  pub max_stack : ℕ
  pub max_locals : ℕ
  pub code : List ℕ

unfoldable pub sizes : Format Sizes
sizes = andthen (number 2) (λ max_stack. andthen (number 2) (λ max_locals. andthen (number 4) (λ n. part n (λ code.
    done (record { max_stack = max_stack; max_locals = max_locals; code = code })))))

unfoldable pub handlers : Format (List Handler)
handlers = table handler

unfoldable pub nested_attributes : List Entry → Format (List Nested)
nested_attributes pool = table (nested pool)

-- the body of a Code attribute
unfoldable pub code : List Entry → Format CodeBody
code pool = andthen sizes (λ s. andthen handlers (λ handlers. andthen (nested_attributes pool) (λ attributes.
    done (record {
      max_stack = s.max_stack;
      max_locals = s.max_locals;
      code = s.code;
      exception_table =
          handlers;
      attributes = attributes;
    }))))

-- an attribute, the parts of whose body are read where it is a Code attribute
unfoldable pub attribute : List Entry → Location → Format Attribute
attribute pool place = andthen attribute_info (λ a.
    if is_code pool place a.name then inside a.size a.body (code pool) (λ c. done (of_parts a.name c))
    else kept (layout_at pool place a.name) a.name a.size a.body)

unfoldable pub attributes : List Entry → Location → Format (List Attribute)
attributes pool place = table (attribute pool place)

unfoldable pub three : Format (ℕ × ℕ × ℕ)
three = andthen (number 2) (λ a. andthen (number 2) (λ b. andthen (number 2) (λ c. done (a, b, c))))

-- a field or a method: access flags, the indices of its name and descriptor, and its attributes
unfoldable pub member : List Entry → Location → Format Member
member pool place = andthen three (λ head. andthen (attributes pool place) (λ attributes.
    done (record { access_flags = head.0; name = head.1; descriptor = head.2; attributes = attributes })))

unfoldable pub members : List Entry → Location → Format (List Member)
members pool place = table (member pool place)

unfoldable pub two : Format (ℕ × ℕ)
two = andthen (number 2) (λ a. andthen (number 2) (λ b. done (a, b)))

-- a component of a record: the indices of its name and descriptor, and its attributes
unfoldable pub component : List Entry → Format Component
component pool = andthen two (λ head. andthen (attributes pool location.RecordComponent) (λ attributes.
    done (record { name = head.0; descriptor = head.1; attributes = attributes })))

-- the body of a Record attribute
unfoldable pub components : List Entry → Format (List Component)
components pool = table (component pool)

-- an attribute of a class, the parts of whose body are read where it is a Record attribute
unfoldable pub class_attribute : List Entry → Location → Format ClassAttribute
class_attribute pool place = andthen attribute_info (λ a.
    if is_record pool place a.name then inside a.size a.body (components pool) (λ c. done (of_parts a.name c))
    else kept (layout_at pool place a.name) a.name a.size a.body)

unfoldable pub class_attributes : List Entry → Location → Format (List ClassAttribute)
class_attributes pool place = table (class_attribute pool place)

-- the magic number and the version, the minor one first
unfoldable pub version : Versions → Format (ℕ × ℕ)
version versions = andthen (number 4) (λ magic. if nat_eq magic 0xCAFEBABE
    then andthen (number 2) (λ minor. andthen (number 2)
    (λ major. if is_version versions minor major then done (minor, major)
    else refuse (λ at. BadVersion major minor)))
    else refuse (λ at. BadMagic))

-- of no bytes: the versions say whether the class is read as a release has it
unfoldable pub manner : Versions → Format Bool
manner versions = done (is_release versions)

unfoldable pub interfaces : Format (List ℕ)
interfaces = table (number 2)

unfoldable pub class : Versions → Format Class
class versions = andthen (version versions) (λ version. andthen (manner versions) (λ release. andthen pool (λ pool. andthen three (λ head. andthen interfaces (λ interfaces.
    andthen (members pool location.Field)
    (λ fields. andthen (members pool location.Method)
    (λ methods. andthen (class_attributes pool (location.Class version.1)) (λ attributes.
    done (record {
      release = release;
      minor_version = version.0;
      major_version = version.1;
      constant_pool = pool;
      access_flags = head.0;
      this_class = head.1;
      super_class = head.2;
      interfaces = interfaces;
      fields = fields;
      methods = methods;
      attributes = attributes;
    })))))))))

-- All the bytes, at most 16,777,216 of them, are a class file of one of these versions, and spell this class.
pub record IsClass (versions : Versions) (bytes : List ℕ) (c : Class) : Type 0 where
  pub within : length bytes ≤ MAX_CLASS_BYTES
  pub spelled : Spells (class versions) bytes c

-- The first fault in the order of the file: more bytes than a class file may have goes before all others;
-- then the first part that is not whole or breaks its rule; then bytes after a class.
abbrev pub ClassFault : Versions → List ℕ → ReadFault → Type 0
ClassFault versions bytes e =
    ((MAX_CLASS_BYTES < length bytes) × (e ≡ TooLong 0))
    ⊎ ((length bytes ≤ MAX_CLASS_BYTES) × WholeFault (class versions) BytesAfter bytes e)
