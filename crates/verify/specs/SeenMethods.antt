-- A method with code is seen as its class file has it (JVMS 4.1, 4.5, 4.6, 4.7.3): its class, superclass and direct
-- superinterfaces, whether it is static and a constructor, its limits, its exception table and the fields of its class,
-- each by the texts and the flags of the class file. Rules and machine look at what is seen alone.
use Rattle.std.specs.Prelude.{◌≡◌, ◌↔◌, ℕ, true, List, Some, slice_get}
use Rattle.names.specs.StandardNames.{init_name}
use Rattle.pool.specs.Lookups.{Named, HasText, HasClassName}
use Rattle.classfile.specs.Flags.{has, STATIC}
use Rattle.classfile.specs.Values.{Handler, CodeBody, Member}
use Rattle.classfile.specs.Methods.{JudgedClass, Method, ExceptionEntry, IsEntry, code_of}
use Rattle.insn.specs.Meanings.{Act}
use Rattle.insn.specs.Offsets.{IsAmong}
use Rattle.verify.specs.ClassMethods.{IsMethod}

-- the class declares a field of this name and descriptor
abbrev pub DeclaresField : JudgedClass → Named → Type 0
DeclaresField c n =
    (f : Member) × IsAmong f c.file.fields × HasText c.file.constant_pool f.name n.name
    × HasText c.file.constant_pool f.descriptor n.descriptor

-- the class lists an interface of this name
abbrev pub ListsInterface : JudgedClass → List ℕ → Type 0
ListsInterface c name = (index : ℕ) × IsAmong index c.file.interfaces × HasClassName c.file.constant_pool index name

-- an entry of the exception table, with the class that it catches looked up
abbrev pub IsOfTable : JudgedClass → CodeBody → ExceptionEntry → Type 0
IsOfTable c body e = (h : Handler) × IsAmong h body.exception_table × IsEntry c.file.constant_pool h e

pub record IsSeen (c : JudgedClass) (member : Member) (body : CodeBody) (m : Method Act) : Type 0 where
  pub class : HasClassName c.file.constant_pool c.file.this_class m.class
  pub superclass : (name : List ℕ) → m.superclass ≡ Some name
      → HasClassName c.file.constant_pool c.file.super_class name
  pub interfaces : (name : List ℕ) → IsAmong name m.interfaces ↔ ListsInterface c name
  pub static : (m.is_static ≡ true) ↔ (has member.access_flags STATIC ≡ true)
  pub init : (m.is_init ≡ true) ↔ HasText c.file.constant_pool member.name init_name
  pub max_stack : m.max_stack ≡ body.max_stack
  pub max_locals : m.max_locals ≡ body.max_locals
  pub exceptions : (e : ExceptionEntry) → IsAmong e m.exceptions ↔ IsOfTable c body e
  pub fields : (n : Named) → IsAmong n m.fields ↔ DeclaresField c n
  pub release : m.release ≡ c.file.release

abbrev pub MethodsAreSeen : Type 0
MethodsAreSeen =
    (c : JudgedClass) (number : ℕ) (m : Method Act) → IsMethod c number m
    → (member : Member) → slice_get c.file.methods number ≡ Some member
    → (body : CodeBody) → code_of member.attributes ≡ Some body
    → IsSeen c member body m
