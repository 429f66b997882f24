-- The words on which 82, 86 and 90 rest, each in other words (JVMS 4.2.1, 4.4, 4.4.10, 4.7.23, 4.9.2, 4.10.1.8,
-- 4.10.1.9): the package of a class by its name, the members that a class may use on its own objects alone, the
-- constructors that are such members, the interfaces whose methods `invokespecial` may not call, and the bootstrap
-- methods that may be used.
use Rattle.std.specs.Prelude.{◌≡◌, ◌≢◌, ◌↔◌, ℕ, true, false, List, [], ◌∷◌, ◌++◌, slice_get, Some, ◌⊎◌}
use Rattle.pool.specs.declared.kind.ReferenceKind.{ReferenceKind}
use Rattle.pool.specs.Entries as entries
use Rattle.pool.specs.Entries.{Entry}
use Rattle.pool.specs.Lookups.{StandsAt}
use Rattle.names.specs.ReferenceTypes.{class_type}
use Rattle.names.specs.StandardNames.{init_name}
use Rattle.pool.specs.ConstantMeanings.{MethodConstant, method_at}
use Rattle.classfile.specs.Bootstraps.{BootstrapMethod, has_bootstrap}
use Rattle.classfile.specs.Methods.{Method}
use Rattle.hierarchy.specs.declared.summary.Kind.TheVariants as kinds
use Rattle.hierarchy.specs.Class.{ClassFact, IsSubclass}
use Rattle.hierarchy.specs.Rules.{IsHierarchy}
use Rattle.hierarchy.specs.Nearest.{MemberReference, Declaration, IsNearest, package_of, is_guarded}
use Rattle.insn.specs.Meanings as acts
use Rattle.insn.specs.Meanings.{Act}
use Rattle.insn.specs.Offsets.{IsAmong}
use Rattle.rules.specs.Interfaces.{calls_indirect}
use Rattle.rules.specs.Protected.{Use, used_by}

-- ---- packages

-- / is 47
abbrev pub HasNoSlash : List ℕ → Type 0
HasNoSlash name = IsAmong 47 name → ⊥

-- A name is its package, a / and a simple name without one; or it has no /, and its package is the unnamed one.
abbrev pub IsPackageOf : List ℕ → List ℕ → Type 0
IsPackageOf name prefix =
    ((simple : List ℕ) × (name ≡ prefix ++ (47 ∷ simple)) × HasNoSlash simple) ⊎ (HasNoSlash name × (prefix ≡ []))

abbrev pub PackagesAreSaid : Type 0
PackagesAreSaid = (name prefix : List ℕ) → (package_of name ≡ prefix) ↔ IsPackageOf name prefix

-- ---- members that are guarded

-- The reference asks a class above the current one, and the nearest declaration from there is protected and of a class
-- in another package.
pub record IsGuardedFrom (classes : List ClassFact) (class : List ℕ) (r : MemberReference) : Type 0 where
  pub other : class ≢ r.class
  pub above : IsSubclass classes class r.class
  pub declaration : Declaration
  pub nearest : IsNearest classes r r.class declaration
  pub protected : declaration.member.is_protected ≡ true
  pub elsewhere : (prefix : List ℕ) → IsPackageOf class prefix → IsPackageOf declaration.class.name prefix → ⊥

abbrev pub GuardsAreSaid : Type 0
GuardsAreSaid =
    (classes : List ClassFact) → IsHierarchy classes → (class : List ℕ) (r : MemberReference)
    → (is_guarded classes class r ≡ true) ↔ IsGuardedFrom classes class r

-- ---- constructors that are used

-- `invokespecial` names an instance initialization method of a class, and its own class is read as a release has it
pub record IsConstructorUse (m : Method Act) (index : ℕ) (u : Use) : Type 0 where
  pub release : m.release ≡ true
  pub called : MethodConstant
  pub constant : method_at m.constant_pool index ≡ Some called
  pub init : called.name ≡ init_name
  pub of_class : called.interface ≡ false
  pub class : called.class ≡ class_type u.reference.class
  pub kind : u.reference.kind ≡ kinds.Method
  pub name : u.reference.name ≡ called.name
  pub descriptor : u.reference.descriptor ≡ called.descriptor
  pub above : u.above ≡ called.type.params

abbrev pub ConstructorsAreSaid : Type 0
ConstructorsAreSaid =
    (m : Method Act) (index : ℕ) (u : Use)
    → (used_by m (acts.InvokeSpecial index) ≡ Some u) ↔ IsConstructorUse m index u

-- ---- interfaces

-- `invokespecial` names a method of an interface that is not the class itself, not its direct superclass, and none of
-- its direct superinterfaces; and the class is read as a release has it
pub record CallsOther (m : Method Act) (act : Act) : Type 0 where
  pub release : m.release ≡ true
  pub index : ℕ
  pub special : act ≡ acts.InvokeSpecial index
  pub called : MethodConstant
  pub constant : method_at m.constant_pool index ≡ Some called
  pub interface : called.interface ≡ true
  pub name : List ℕ
  pub class : called.class ≡ class_type name
  pub not_own : m.class ≢ name
  pub not_above : m.superclass ≢ Some name
  pub not_listed : IsAmong name m.interfaces → ⊥

abbrev pub InterfacesAreSaid : Type 0
InterfacesAreSaid = (m : Method Act) (act : Act) → (calls_indirect m act ≡ true) ↔ CallsOther m act

-- ---- bootstrap methods

-- the constants that may be loaded (table 4.4-C)
pub data IsLoadable : Entry → Type 0 where
  integer : {bits : ℕ} → IsLoadable (entries.Integer bits)
  float : {bits : ℕ} → IsLoadable (entries.Float bits)
  long : {high low : ℕ} → IsLoadable (entries.Long high low)
  double : {high low : ℕ} → IsLoadable (entries.Double high low)
  class : {name : ℕ} → IsLoadable (entries.Class name)
  string : {text : ℕ} → IsLoadable (entries.String text)
  method_handle : {kind : ReferenceKind} {target : ℕ} → IsLoadable (entries.MethodHandle kind target)
  method_type : {descriptor : ℕ} → IsLoadable (entries.MethodType descriptor)
  dynamic : {bootstrap named : ℕ} → IsLoadable (entries.Dynamic bootstrap named)

-- There is a bootstrap method of the number, counted from 0: its handle is a MethodHandle, and each of its static
-- arguments is a constant that may be loaded.
pub record HasUsable (pool : List Entry) (methods : List BootstrapMethod) (number : ℕ) : Type 0 where
  pub method : BootstrapMethod
  pub here : slice_get methods number ≡ Some method
  pub kind : ReferenceKind
  pub target : ℕ
  pub handle : StandsAt pool method.handle (entries.MethodHandle kind target)
  pub arguments : (index : ℕ) → IsAmong index method.arguments → (e : Entry) × StandsAt pool index e × IsLoadable e

abbrev pub BootstrapsAreSaid : Type 0
BootstrapsAreSaid =
    (pool : List Entry) (methods : List BootstrapMethod) (number : ℕ)
    → (has_bootstrap pool methods number ≡ true) ↔ HasUsable pool methods number
