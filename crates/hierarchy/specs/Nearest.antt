-- The nearest declaration of a member from a class upward along its superclasses, and whether it guards the member
-- (JVMS 4.6, 4.10.1.8).
use Rattle.std.specs.Prelude.{◌≡◌, ◌↔◌, ◌==◌, ℕ, zero, suc, Bool, true, false, not, ◌&&◌, ◌||◌, List, [], ◌∷◌, length, find, Option, Some, None, if◌then◌else◌}
use Rattle.std.specs.Option.{option_and_then}
use Rattle.std.specs.Str.{bytes_eq}
use Rattle.hierarchy.specs.declared.summary.Kind.{Kind}
use Rattle.hierarchy.specs.declared.summary.Kind.TheVariants.{Field, Method}
use Rattle.hierarchy.specs.Class.{MemberFact, ClassFact, class_of, world_of}
use Rattle.hierarchy.specs.Answer.{on_chain}
use Rattle.hierarchy.specs.Rules.{IsHierarchy}

-- a reference to a member (5.4.3): the class that is asked for it, and the kind, name and descriptor of the member
pub record MemberReference : Type 0 where
  pub class : List ℕ
  pub kind : Kind
  pub name : List ℕ
  pub descriptor : List ℕ

-- ---- what a class declares

abbrev pub is_kind : Kind → Kind → Bool
is_kind Field Field = true
is_kind Method Method = true
is_kind _ _ = false

-- a member of another kind, name or descriptor is another member; static or not makes no difference
abbrev pub is_named : MemberReference → MemberFact → Bool
is_named r m = is_kind r.kind m.kind && (bytes_eq r.name m.name && bytes_eq r.descriptor m.descriptor)

-- the member that a class declares; of several the first in its list
abbrev pub declared_by : ClassFact → MemberReference → Option MemberFact
declared_by c r = find (is_named r) c.members

-- ---- the nearest declaration

-- a member and the class that declares it
pub record Declaration : Type 0 where
  pub class : ClassFact
  pub member : MemberFact

-- the nearest declaration of the member from the class of this name upward
pub data IsNearest (classes : List ClassFact) (r : MemberReference) : List ℕ → Declaration → Type 0 where
  -- the class declares the member itself
  here : {name : List ℕ} {c : ClassFact} {m : MemberFact} → class_of classes name ≡ Some c → declared_by c r ≡ Some m
      → IsNearest classes r name (record { class = c; member = m })
  -- it does not, and so the declaration is the nearest from its superclass upward
  above : {name s : List ℕ} {c : ClassFact} {d : Declaration} → class_of classes name ≡ Some c → declared_by c r ≡ None
      → c.superclass ≡ Some s
      → IsNearest classes r s d → IsNearest classes r name d

-- the class where it declares the member, and otherwise another declaration
abbrev pub or_above : ClassFact → Option MemberFact → Option Declaration → Option Declaration
or_above c (Some m) others = Some (record { class = c; member = m })
or_above c None others = others

-- the nearest declaration as a word that computes: so many classes are looked at
abbrev pub nearest_among : List ClassFact → MemberReference → ℕ → List ℕ → Option Declaration
nearest_among classes r zero name = None
nearest_among classes r (suc n) name =
    option_and_then (λ c. or_above c (declared_by c r) (option_and_then (nearest_among classes r n) c.superclass))
    (class_of classes name)

-- from the class that is asked; no chain of superclasses has more classes than there are
abbrev pub nearest : List ClassFact → MemberReference → Option Declaration
nearest classes r = nearest_among classes r (length classes) r.class

-- in a hierarchy the word computes the nearest declaration, and nothing else
abbrev pub NearestIsComputed : Type 0
NearestIsComputed =
    (classes : List ClassFact) → IsHierarchy classes → (r : MemberReference) (d : Declaration)
    → (nearest classes r ≡ Some d) ↔ IsNearest classes r r.class d

-- ---- packages (4.2.1)

-- whether a name has a /, which is 47
abbrev pub has_slash : List ℕ → Bool
has_slash [] = false
has_slash (b ∷ bs) = b == 47 || has_slash bs

-- the package of a class: its name up to the last /, and nothing where it has none
abbrev pub package_of : List ℕ → List ℕ
package_of [] = []
package_of (b ∷ bs) = if has_slash bs then b ∷ package_of bs else []

-- ---- members that are guarded

-- a class of this name is in another package than a class
abbrev pub is_elsewhere : List ℕ → List ℕ → Bool
is_elsewhere class other = not (bytes_eq (package_of other) (package_of class))

-- a declaration is protected, and of a class in another package than a class
abbrev pub is_protected_elsewhere : List ℕ → Option Declaration → Bool
is_protected_elsewhere class None = false
is_protected_elsewhere class (Some d) = d.member.is_protected && is_elsewhere class d.class.name

-- a class may use the member on objects of its own alone: a class above it is asked, and the nearest declaration from
-- there is protected and of another package
abbrev pub is_guarded : List ClassFact → List ℕ → MemberReference → Bool
is_guarded classes class r =
    not (bytes_eq class r.class) &&
    (on_chain (world_of classes) (length classes) class r.class && is_protected_elsewhere class (nearest classes r))
