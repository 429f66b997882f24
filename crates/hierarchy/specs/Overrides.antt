-- The methods of a class that override a final one (JVMS 4.10, 5.4.5).
use Rattle.std.specs.Prelude.{◌≡◌, ◌≢◌, ◌⊎◌, ◌↔◌, ℕ, Bool, true, false, ◌&&◌, List, length, position, slice_get, Option, Some}
use Rattle.std.specs.List.{filter, list_any}
use Rattle.std.specs.Option.{option_map_or}
use Rattle.std.specs.Str.{bytes_eq}
use Rattle.hierarchy.specs.declared.summary.Kind.TheVariants.{Method}
use Rattle.hierarchy.specs.declared.summary.Overriding.{Overriding}
use Rattle.hierarchy.specs.declared.summary.Overriding.TheVariants.{Apart, Open, FinalInPackage, Final}
use Rattle.hierarchy.specs.Class.{MemberFact, ClassFact, class_of, world_of, IsSubclass}
use Rattle.hierarchy.specs.Answer.{on_chain}
use Rattle.hierarchy.specs.Nearest.{is_kind, package_of}
use Rattle.hierarchy.specs.Rules.{IsHierarchy}

-- a method that takes this part may override others
abbrev pub may_override : Overriding → Bool
may_override Apart = false
may_override Open = true
may_override FinalInPackage = true
may_override Final = true

-- a method that takes this part, of a class in the first package, may not be overridden by a class in the second one
abbrev pub is_closed : Overriding → List ℕ → List ℕ → Bool
is_closed Apart of by = false
is_closed Open of by = false
is_closed FinalInPackage of by = bytes_eq of by
is_closed Final of by = true

-- a member of another kind, name or descriptor is another member
abbrev pub is_same_member : MemberFact → MemberFact → Bool
is_same_member m f = is_kind m.kind f.kind && (bytes_eq m.name f.name && bytes_eq m.descriptor f.descriptor)

-- a class declares the method, so that no class in this package may override it
abbrev pub forbids : ClassFact → List ℕ → MemberFact → Bool
forbids d by m = list_any (λ f. is_closed f.overriding (package_of d.name) by && is_same_member m f) d.members

-- the class of this name, or one that stands above it, forbids the method
abbrev pub is_forbidden_from : List ClassFact → List ℕ → MemberFact → List ℕ → Bool
is_forbidden_from classes by m name =
    list_any (λ d. on_chain (world_of classes) (length classes) name d.name && forbids d by m) classes

-- a method of a class overrides a final one
abbrev pub overrides_final : List ClassFact → ClassFact → MemberFact → Bool
overrides_final classes c m = may_override m.overriding
    && option_map_or (is_forbidden_from classes (package_of c.name) m) c.superclass false

abbrev pub methods_of : ClassFact → List MemberFact
methods_of c = filter (λ m. is_kind m.kind Method) c.members

-- the first method of a class that overrides a final one; methods count from 0
abbrev pub overriding_method : List ClassFact → ClassFact → Option ℕ
overriding_method classes c = position (overrides_final classes c) (methods_of c)

-- ---- in other words

-- The method of a class overrides a final one of another class, to which a chain of superclasses leads up: both have
-- one name and one descriptor; and the other one is public or protected, or both classes are in one package.
pub record OverridesFinal (classes : List ClassFact) (c : ClassFact) (m : MemberFact) : Type 0 where
  pub superclass : List ℕ
  pub other : ClassFact
  pub place : ℕ
  pub final : MemberFact
  pub takes_part : m.overriding ≢ Apart
  pub directly : c.superclass ≡ Some superclass
  pub above : IsSubclass classes superclass other.name
  pub own : class_of classes other.name ≡ Some other
  pub declared : slice_get other.members place ≡ Some final
  pub same : (final.kind ≡ m.kind) × (final.name ≡ m.name) × (final.descriptor ≡ m.descriptor)
  pub closed : (final.overriding ≡ Final)
      ⊎ ((final.overriding ≡ FinalInPackage) × (package_of other.name ≡ package_of c.name))

-- in a hierarchy the word computes exactly that
abbrev pub OverridesAreComputed : Type 0
OverridesAreComputed = (classes : List ClassFact) → IsHierarchy classes → (c : ClassFact) (m : MemberFact)
    → (overrides_final classes c m ≡ true) ↔ OverridesFinal classes c m
