-- The values that a class file holds (JVMS 4.1, 4.5 to 4.7): its numbers and tables in the order of the file.
-- Names, descriptors and other constants stand as their indices into the constant pool.
use Rattle.std.specs.Prelude.{ℕ, Bool, List}
use Rattle.pool.specs.Entries.{Entry}
use Rattle.classfile.specs.Numbers.{Numbers}

-- an item of the exception table of a Code attribute (4.7.3)
pub record Handler : Type 0 where
  pub start_pc : ℕ
  pub end_pc : ℕ
  pub handler_pc : ℕ
  pub catch_type : ℕ

-- An attribute (4.7) by the index of its name: one whose body is read by its parts, one whose body is numbers, or one
-- of which nothing but the body is known.
pub data AttributeOf (A : Type 0) : Type 0 where
  of_parts : (name : ℕ) (value : A) → AttributeOf A
  of_numbers : (name : ℕ) (numbers : Numbers) → AttributeOf A
  raw : (name : ℕ) (body : List ℕ) → AttributeOf A

abbrev pub name_of : {A : Type 0} → AttributeOf A → ℕ
name_of (of_parts name value) = name
name_of (of_numbers name numbers) = name
name_of (raw name body) = name

-- an attribute of a Code attribute: a StackMapTable by its body, or another
abbrev pub Nested : Type 0
Nested = AttributeOf (List ℕ)

-- the body of a Code attribute (4.7.3)
pub record CodeBody : Type 0 where
  pub max_stack : ℕ
  pub max_locals : ℕ
  pub code : List ℕ
  pub exception_table : List Handler
  pub attributes : List Nested

-- an attribute of a field, a method or a record component: Code, or another (4.7)
abbrev pub Attribute : Type 0
Attribute = AttributeOf CodeBody

-- a field or a method (4.5, 4.6)
pub record Member : Type 0 where
  pub access_flags : ℕ
  pub name : ℕ
  pub descriptor : ℕ
  pub attributes : List Attribute

-- a component of a record (4.7.30)
pub record Component : Type 0 where
  pub name : ℕ
  pub descriptor : ℕ
  pub attributes : List Attribute

-- an attribute of a class: Record by its components, or another (4.7)
abbrev pub ClassAttribute : Type 0
ClassAttribute = AttributeOf (List Component)

-- A class file (4.1), and whether it is read as a release has it, with all rules of form.
pub record Class : Type 0 where
  pub release : Bool
  pub minor_version : ℕ
  pub major_version : ℕ
  pub constant_pool : List Entry
  pub access_flags : ℕ
  pub this_class : ℕ
  pub super_class : ℕ
  pub interfaces : List ℕ
  pub fields : List Member
  pub methods : List Member
  pub attributes : List ClassAttribute
