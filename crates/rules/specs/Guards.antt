-- Which constants of a class name guarded members, or methods of other interfaces than its direct ones, as the program
-- finds it out. Words of the code's own steps.
use Rattle.std.specs.Prelude.{◌≡◌, ℕ, nat_eq, Bool, false, ◌||◌, if◌then◌else◌, List, slice_get, length, map, Option, Some, None, Result, Ok, MatchOption}
use Rattle.std.specs.List.{list_any}
use Rattle.std.specs.Option.{option_and_then}
use Rattle.std.specs.Str.{bytes_eq}
use Rattle.names.specs.MetNames.{is_met}
use Rattle.names.specs.ReferenceTypes.{class_type}
use Rattle.pool.specs.declared.fault.PoolFault.{PoolFault}
use Rattle.pool.specs.Entries.{Entry, Class, Fieldref, Methodref, InterfaceMethodref, NameAndType}
use Rattle.pool.specs.Lookups.{entry_at, text_at}
use Rattle.pool.specs.ConstantMeanings.{constant_at, class_at, FieldConstant, field_at, MethodConstant, method_at}
use Rattle.classfile.specs.declared.class_file.ClassFile.{ClassFile}
use Rattle.classfile.specs.Indices.{on_found}
use Rattle.classfile.specs.Methods.{Method, class_named, is_name, names_at, superclass_of}
use Rattle.classfile.specs.MethodParts.{or_empty}
use Rattle.hierarchy.specs.declared.summary.Kind.{Kind}
use Rattle.hierarchy.specs.declared.summary.Kind.TheVariants as kinds
use Rattle.hierarchy.specs.declared.member_references.MemberRef.{MemberRef}
use Rattle.hierarchy.specs.declared.member_references.References.{References}
use Rattle.hierarchy.specs.Class.{ClassFact}
use Rattle.hierarchy.specs.Nearest.{MemberReference, is_guarded}
use Rattle.hierarchy.specs.Texts.{AreTexts, kept_texts}
use Rattle.insn.specs.Meanings.{Act}
use Rattle.rules.specs.declared.direct_classes.DirectClasses.{DirectClasses}
use Rattle.rules.specs.declared.guards.Guards.{Guards}
use Rattle.rules.specs.declared.guards.Key.{Key}
use Rattle.rules.specs.declared.guards.Read.{Read}
use Rattle.rules.specs.declared.protected_members.Use as uses
use Rattle.rules.specs.Protected.{Use, field_reference, method_reference, method_use, used_by}

-- the name of the class itself
abbrev pub own_name : ClassFile → List ℕ
own_name c = or_empty (class_named (class_at c.constant_pool c.this_class))

-- the constant of this index is a field of a class, or a method of a class
pub data IsReference (pool : List Entry) (index : ℕ) : MemberReference → Type 0 where
  field : (f : FieldConstant) → field_at pool index ≡ Some f → IsReference pool index (field_reference f)
  method : (c : MethodConstant) (name : List ℕ) → method_at pool index ≡ Some c → c.interface ≡ false
      → c.class ≡ class_type name
      → IsReference pool index (method_reference name c)

-- ---- references by the entries of a pool

abbrev pub is_of : ℕ → Entry → Bool
is_of class (Fieldref index name_and_type) = nat_eq index class
is_of class (Methodref index name_and_type) = nat_eq index class
is_of class _ = false

-- a Fieldref or Methodref stands at the index, with the Class by which the class file names its own class
abbrev pub names_own : ClassFile → ℕ → Bool
names_own c index = on_found (is_of c.this_class) (entry_at c.constant_pool index)

-- the indices of the texts of a reference, by its Class and its NameAndType
abbrev pub key_by : Kind → Option Entry → Option Entry → Option Key
key_by kind (Some (Class class)) (Some (NameAndType name descriptor)) =
    Some (record { kind = kind; class = class; name = name; descriptor = descriptor })
key_by kind _ _ = None

-- the key of a member of another class; none for the class itself
abbrev pub other_key : ClassFile → Kind → ℕ → ℕ → Option Key
other_key c kind class name_and_type =
    if nat_eq class c.this_class then None
    else key_by kind (constant_at c.constant_pool class) (constant_at c.constant_pool name_and_type)

abbrev pub key_of : ClassFile → Entry → Option Key
key_of c (Fieldref class name_and_type) = other_key c kinds.Field class name_and_type
key_of c (Methodref class name_and_type) = other_key c kinds.Method class name_and_type
key_of c _ = None

abbrev pub with_texts : Kind → Result (List ℕ) PoolFault → Result (List ℕ) PoolFault → Result (List ℕ) PoolFault
    → Option MemberReference
with_texts kind (Ok class) (Ok name) (Ok descriptor) =
    Some (record { class = class; kind = kind; name = name; descriptor = descriptor })
with_texts kind _ _ _ = None

abbrev pub read_key : List Entry → Key → Option MemberReference
read_key pool k = with_texts k.kind (text_at pool k.class) (text_at pool k.name) (text_at pool k.descriptor)

-- the reference that an entry leads to, but for one of the class itself
abbrev pub read_entry : ClassFile → Entry → Option MemberReference
read_entry c e = option_and_then (read_key c.constant_pool) (key_of c e)

-- ---- answers

-- the thing that is kept for a place: the place has a number, and the thing has this number
pub record IsPlaced {A : Type 0} (places : List ℕ) (kept : List A) (place : ℕ) (x : A) : Type 0 where
  pub number : ℕ
  pub placed : slice_get places place ≡ Some number
  pub there : slice_get kept number ≡ Some x

-- the texts of the references are those of the pool
pub record AreReadFrom (pool : List Entry) (rs : Read) : Type 0 where
  pub classes : AreTexts pool rs.classes
  pub texts : AreTexts pool rs.texts

-- the reference has this number, and its texts are among those of the references
pub record HasNumber (rs : Read) (number : ℕ) (r : MemberReference) : Type 0 where
  pub member : MemberRef
  pub here : slice_get rs.members.items number ≡ Some member
  pub class : slice_get (kept_texts rs.classes) member.class ≡ Some r.class
  pub kind : member.places.kind ≡ r.kind
  pub name : slice_get (kept_texts rs.texts) member.places.name ≡ Some r.name
  pub descriptor : slice_get (kept_texts rs.texts) member.places.descriptor ≡ Some r.descriptor

-- the references, with the texts that they share
abbrev pub references_read : Read → References
references_read rs = record { classes = rs.classes.list; texts = rs.texts.list; members = rs.members }

-- each reference that had a number has it still
abbrev pub KeepNumbers : Read → Read → Type 0
KeepNumbers old now = (number : ℕ) (r : MemberReference) → HasNumber old number r → HasNumber now number r

-- the reference of these indices has this number now
pub record Numbers (pool : List Entry) (old now : Read) (k : Key) (number : ℕ) : Type 0 where
  pub here : (r : MemberReference) → read_key pool k ≡ Some r → HasNumber now number r
  pub kept : KeepNumbers old now
  pub good : AreReadFrom pool now

-- the reference to which an entry leads, if it leads to one, has this number now
pub record Reads (c : ClassFile) (e : Entry) (old now : Read) (number : ℕ) : Type 0 where
  pub here : (r : MemberReference) → read_entry c e ≡ Some r → HasNumber now number r
  pub kept : KeepNumbers old now
  pub good : AreReadFrom c.constant_pool now

-- the references to which these entries, the first ones of the pool, lead
pub record AreReadSoFar (c : ClassFile) (entries : List Entry) (places : List ℕ) (rs : Read) : Type 0 where
  pub all : length places ≡ length entries
  pub each : (place : ℕ) (e : Entry) (r : MemberReference) → slice_get entries place ≡ Some e → read_entry c e ≡ Some r
      → (number : ℕ) × (slice_get places place ≡ Some number) × HasNumber rs number r
  pub good : AreReadFrom c.constant_pool rs

-- the references to which all entries of the pool lead
abbrev pub AreRead : ClassFile → List ℕ → List MemberReference → Type 0
AreRead c places references = (place : ℕ) (e : Entry) (r : MemberReference) → slice_get c.constant_pool place ≡ Some e
    → read_entry c e ≡ Some r → IsPlaced places references place r

pub record AreGuards (classes : List ClassFact) (c : ClassFile) (g : Guards) : Type 0 where
  pub each : (place : ℕ) (e : Entry) (r : MemberReference) → slice_get c.constant_pool place ≡ Some e
      → read_entry c e ≡ Some r
      → IsPlaced g.places.items g.answers.items place (is_guarded classes (own_name c) r)

-- ---- the class whose instructions are judged, and the classes that it is judged among

pub record Surroundings : Type 0 where
  pub class : ClassFile
  pub classes : List ClassFact

-- ---- what an instruction uses

-- a method that is called is used on an object beneath so many operands, whatever constant names it
pub record IsCallUse (c : MethodConstant) (above : ℕ) : Type 0 where
  pub member : Use
  pub used : method_use c c.interface c.class ≡ Some member
  pub named : (pool : List Entry) (index : ℕ) → method_at pool index ≡ Some c → IsReference pool index member.reference
  pub count : above ≡ length member.above

-- the use of the method by the constant of this index, if it is one of a class
abbrev pub AnswersCall : MethodConstant → ℕ → Option uses.Use → Type 0
AnswersCall c index r =
    MatchOption r (method_use c c.interface c.class ≡ None) (λ u. (u.index ≡ index) × IsCallUse c u.above)

-- the instruction uses the member that the constant of this index names, on an object beneath so many operands
pub record IsUse (m : Method Act) (act : Act) (index above : ℕ) : Type 0 where
  pub member : Use
  pub used : used_by m act ≡ Some member
  pub named : IsReference m.constant_pool index member.reference
  pub count : above ≡ length member.above

abbrev pub Uses : Method Act → Act → Option uses.Use → Type 0
Uses m act r = MatchOption r (used_by m act ≡ None) (λ u. IsUse m act u.index u.above)

-- ---- the classes whose methods `invokespecial` may call by an InterfaceMethodref (4.9.2)

-- the class itself, its direct superclass and its direct superinterfaces, by their names
abbrev pub is_direct_of : ClassFile → List ℕ → Bool
is_direct_of c name =
    bytes_eq (own_name c) name
    || (is_name (superclass_of c.constant_pool c.super_class) name
    || list_any (λ other. bytes_eq other name) (names_at c.constant_pool (map (λ n. n) c.interfaces.items)))

-- These are the classes. For a text of the pool it is kept whether it names one, where that was asked.
pub record AreDirect (c : ClassFile) (d : DirectClasses) : Type 0 where
  pub names : (name : List ℕ) → is_met d.names name ≡ is_direct_of c name
  pub answers : (place : ℕ) (answer : Bool) (name : List ℕ) → slice_get d.answers.items place ≡ Some (Some answer)
      → text_at c.constant_pool place ≡ Ok name → answer ≡ is_direct_of c name

abbrev pub name_in : Option Entry → Option ℕ
name_in (Some (Class name)) = Some name
name_in _ = None

abbrev pub interface_in : List Entry → Option Entry → Option ℕ
interface_in pool (Some (InterfaceMethodref class name_and_type)) = name_in (constant_at pool class)
interface_in pool _ = None

-- the index of the name of the class of an InterfaceMethodref
abbrev pub interface_name : List Entry → ℕ → Option ℕ
interface_name pool index = interface_in pool (constant_at pool index)
