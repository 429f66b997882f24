-- Laws that follow from the definition of well-formed classes alone: which rule is reported of a place, that a class is
-- well formed or has one first fault, that the tests of names and descriptors are their forms, and that what a class
-- names is there.
use Rattle.std.specs.Prelude.{◌≡◌, ◌≢◌, ◌↔◌, ◌≤◌, ◌⊎◌, ℕ, Bool, true, List, slice_get, Some, None, Ok, IsTrue}
use Rattle.names.specs.Names.{IsUnqualifiedName, IsMethodName, IsClassName}
use Rattle.names.specs.Descriptors.{FieldDescriptor, MethodDescriptor, SpellsField, SpellsMethod, dimensions, method_width, AreWithinDimensions}
use Rattle.pool.specs.Lookups.{class_name_at, Named, named}
use Rattle.classfile.specs.declared.form_fault.FormRule.{FormRule}
use Rattle.classfile.specs.declared.form_fault.Place.{Place}
use Rattle.classfile.specs.Values.{Class, Member}
use Rattle.classfile.specs.Conditions.{IsLeastBroken, HasNoBroken}
use Rattle.classfile.specs.Naming.{is_unqualified_name, is_method_name, is_class_name, is_field_descriptor, is_method_descriptor, is_void_descriptor}
use Rattle.classfile.specs.release.Places as release
use Rattle.classfile.specs.WellFormed.{conditions_at, fault_at, WellFormed, IsFirstFault}

-- where a rule of every class is broken, that of the least number is told; otherwise, of a class that is read as a
-- release has it, the rule of the release with the least number
abbrev pub LeastIsTold : Type 0
LeastIsTold = (c : Class) (p : Place) (rule : FormRule)
    → (fault_at c p ≡ Some rule) ↔ (IsLeastBroken (conditions_at c p) rule
    ⊎ (HasNoBroken (conditions_at c p) × (c.release ≡ true) × IsLeastBroken (release.conditions_at c p) rule))

-- and none only where none is broken
abbrev pub NoneIsTold : Type 0
NoneIsTold = (c : Class) (p : Place)
    → (fault_at c p ≡ None)
    ↔ (HasNoBroken (conditions_at c p) × (c.release ≡ true → HasNoBroken (release.conditions_at c p)))

-- a class is well formed or has a first fault
abbrev pub FormedOrFaulty : Type 0
FormedOrFaulty = (c : Class) → WellFormed c ⊎ ((rule : FormRule) × (place : Place) × IsFirstFault c rule place)

-- and one at most
abbrev pub OneFirstFault : Type 0
OneFirstFault = (c : Class) (r s : FormRule) (p q : Place) → IsFirstFault c r p → IsFirstFault c s q → (r ≡ s) × (p ≡ q)

-- and not both
abbrev pub NoFaultInFormed : Type 0
NoFaultInFormed = (c : Class) (r : FormRule) (p : Place) → WellFormed c → IsFirstFault c r p → ⊥

-- the tests of names are their forms (JVMS 4.2)
pub record NamesAreForms : Type 0 where
  pub class_name : (bytes : List ℕ) → IsTrue (is_class_name bytes) ↔ IsClassName bytes
  pub unqualified_name : (bytes : List ℕ) → IsTrue (is_unqualified_name bytes) ↔ IsUnqualifiedName bytes
  pub method_name : (bytes : List ℕ) → IsTrue (is_method_name bytes) ↔ IsMethodName bytes

-- a field's type of at most 255 dimensions, which the bytes spell (4.3.2)
pub record SpellsSomeField (bytes : List ℕ) : Type 0 where
  pub type : FieldDescriptor
  pub spelled : SpellsField bytes type
  pub within : dimensions type ≤ 255

-- a method's types within the limits, which the bytes spell, and whose result is this one (4.3.3)
pub record SpellsSomeMethod (receiver : Bool) (bytes : List ℕ) : Type 0 where
  pub types : MethodDescriptor
  pub spelled : SpellsMethod bytes types
  pub within : AreWithinDimensions types
  pub fits : method_width types receiver ≤ 255

pub record SpellsSomeVoidMethod (receiver : Bool) (bytes : List ℕ) : Type 0 where
  pub method : SpellsSomeMethod receiver bytes
  pub void : method.types.result ≡ None

-- the tests of descriptors are the grammar within its limits
pub record DescriptorsAreSpellings : Type 0 where
  pub field : (bytes : List ℕ) → IsTrue (is_field_descriptor bytes) ↔ SpellsSomeField bytes
  pub method : (receiver : Bool) (bytes : List ℕ)
      → IsTrue (is_method_descriptor receiver bytes) ↔ SpellsSomeMethod receiver bytes
  pub void : (receiver : Bool) (bytes : List ℕ)
      → IsTrue (is_void_descriptor receiver bytes) ↔ SpellsSomeVoidMethod receiver bytes

-- the name of the class, that of its superclass where it has one, and the names and descriptors of its members are
-- there
pub record HasNames (c : Class) : Type 0 where
  pub this : (name : List ℕ) × (class_name_at c.constant_pool c.this_class ≡ Ok name)
  pub above : c.super_class ≢ 0 → (name : List ℕ) × (class_name_at c.constant_pool c.super_class ≡ Ok name)
  pub field : (n : ℕ) (m : Member) → slice_get c.fields n ≡ Some m → (x : Named)
      × (named c.constant_pool m.name m.descriptor ≡ Ok x)
  pub method : (n : ℕ) (m : Member) → slice_get c.methods n ≡ Some m → (x : Named)
      × (named c.constant_pool m.name m.descriptor ≡ Ok x)

abbrev pub FormedHasNames : Type 0
FormedHasNames = (c : Class) → WellFormed c → HasNames c
