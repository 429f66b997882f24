-- Chains of superclasses in a world and in those that extend it.
use Rattle.std.proofs.Common.{◌≡◌, ◌⊎◌, ◌↔◌, ℕ, ◌<◌, zero, suc, Bool, true, false, List, length, slice_get, Option, Some, None, option_map, refl, ap, sym, ◌∙◌, subst, inl, inr}
use Rattle.std.specs.Str.{bytes_eq}
use Rattle.std.proofs.lemmas.Bool.{false≢true}
use Rattle.std.proofs.lemmas.Slice.Eq.{bytes_eq-Decides}
use Rattle.hierarchy.proofs.Names.{found_class, some_same, none_some}
use Rattle.std.specs.Option.{option_and_then}
use Rattle.names.specs.StandardNames.{object_name, cloneable_name, serializable_name}
use Rattle.hierarchy.specs.World.{Entry, World, superclass_in, IsSubclassIn, same, above, climb}
use Rattle.hierarchy.specs.Class.{ClassFact, class_of, entry_of, world_of, IsSubclass}
use Rattle.hierarchy.specs.Rules.{IsHierarchy}
use Rattle.hierarchy.specs.Extends.{Extends}

-- the entry of a class with a superclass
pub with_entry : (o : Option Entry) (s : List ℕ) → option_and_then (λ (e : Entry). e.superclass) o ≡ Some s → (e : Entry) × (o ≡ Some e) × (e.superclass ≡ Some s)
with_entry None s e = cc
with_entry (Some t) s e = (t, refl, e)

super_of_entry : (o : Option Entry) (t : Entry) (s : List ℕ) → o ≡ Some t → t.superclass ≡ Some s → option_and_then (λ (e : Entry). e.superclass) o ≡ Some s
super_of_entry o t s e f = rw e f

pub kept : (classes : List ClassFact) (world : World) (a b : List ℕ) → Extends world classes → IsSubclass classes a b → IsSubclassIn world a b
kept classes world a b x same = same
kept classes world a b x (above {s = s} e p) =
    let w = with_entry (world_of classes a) s e in
    above (super_of_entry (world a) w.0 s (x.keeps a w.0 w.1) w.2) (kept classes world s b x p)

pub steps_of : (world : World) (a b : List ℕ) → IsSubclassIn world a b → (n : ℕ) × (climb world n a ≡ Some b)
steps_of world a b same = (zero, refl)
steps_of world a b (above {s = s} e p) =
    let r = steps_of world s b p in
    (suc r.0, rw e r.1)

pub up_from : (o : Option (List ℕ)) (f : List ℕ → Option (List ℕ)) (b : List ℕ) → option_and_then f o ≡ Some b → (s : List ℕ) × (o ≡ Some s) × (f s ≡ Some b)
up_from None f b e = cc
up_from (Some s) f b e = (s, refl, e)

pub chain_of : (world : World) (n : ℕ) (a b : List ℕ) → climb world n a ≡ Some b → IsSubclassIn world a b
chain_of world zero a b e = subst (IsSubclassIn world a) (some_same e) same
chain_of world (suc n) a b e =
    let r = up_from (superclass_in world a) (climb world n) b e in
    above r.1 (chain_of world n r.0 b r.2)

-- a chain of superclasses is a number of steps up
pub chain_steps : (world : World) (a b : List ℕ) → IsSubclassIn world a b ↔ ((n : ℕ) × (climb world n a ≡ Some b))
chain_steps world a b = (steps_of world a b, λ r. chain_of world r.0 a b r.1)

-- what a list of classes has under a name
pub entry_found : (classes : List ClassFact) (name : List ℕ) (o : Option ClassFact) → class_of classes name ≡ o → (e : Entry) → option_map entry_of o ≡ Some e → (c : ClassFact) × (class_of classes name ≡ Some c) × (entry_of c ≡ e)
entry_found classes name None f e g = cc
entry_found classes name (Some c) f e g = (c, f, some_same g)

module _ (classes : List ClassFact) (h : IsHierarchy classes) where
  only_interface : (name : List ℕ) (e : Entry) → (name ≡ cloneable_name) ⊎ (name ≡ serializable_name) → world_of classes name ≡ Some e → e.interface ≡ true
  only_interface name e n f = by c.interface refl
    where
      w : (c : ClassFact) × (class_of classes name ≡ Some c) × (entry_of c ≡ e)
      w = entry_found classes name (class_of classes name) refl e f

      c : ClassFact
      c = w.0

      at : (i : ℕ) × (i < length classes) × (slice_get classes i ≡ Some c) × (c.name ≡ name)
      at = found_class classes name c w.1

      is : (c.name ≡ cloneable_name) ⊎ (c.name ≡ serializable_name)
      is = subst (λ m. (m ≡ cloneable_name) ⊎ (m ≡ serializable_name)) (sym at.3) n

      by : (b : Bool) → c.interface ≡ b → e.interface ≡ true
      by true g = ap (λ (e : Entry). e.interface) (sym w.2) ∙ g
      by false g = absurd (h.arrays at.0 at.1 c at.2 (is, g))

  object_above : (name : List ℕ) (e : Entry) → world_of classes name ≡ Some e → e.interface ≡ true → e.superclass ≡ Some object_name
  object_above name e f t = by c.superclass refl
    where
      w : (c : ClassFact) × (class_of classes name ≡ Some c) × (entry_of c ≡ e)
      w = entry_found classes name (class_of classes name) refl e f

      c : ClassFact
      c = w.0

      at : (i : ℕ) × (i < length classes) × (slice_get classes i ≡ Some c) × (c.name ≡ name)
      at = found_class classes name c w.1

      here : c.interface ≡ true
      here = ap (λ (e : Entry). e.interface) w.2 ∙ t

      up : e.superclass ≡ c.superclass
      up = ap (λ (e : Entry). e.superclass) (sym w.2)

      named : (s : List ℕ) (b : Bool) → bytes_eq s object_name ≡ b → c.superclass ≡ Some s → e.superclass ≡ Some object_name
      named s true d g = up ∙ g ∙ ap (λ n. Some n) ((bytes_eq-Decides s object_name).0 d)
      named s false d g = absurd (h.interfaces at.0 at.1 c at.2 (here, λ q. false≢true (sym d ∙ (bytes_eq-Decides s object_name).1 (some_same (sym g ∙ q)))))

      by : (o : Option (List ℕ)) → c.superclass ≡ o → e.superclass ≡ Some object_name
      by None g = absurd (h.interfaces at.0 at.1 c at.2 (here, λ q. none_some (sym g ∙ q)))
      by (Some s) g = named s (bytes_eq s object_name) refl g

-- a hierarchy, as a world, extends itself
pub itself : (classes : List ClassFact) → IsHierarchy classes → Extends (world_of classes) classes
itself classes h = record {
  keeps = λ name e f. f;
  interface_super = object_above classes h;
  cloneable = λ e f. only_interface classes h cloneable_name e (inl refl) f;
  serializable = λ e f. only_interface classes h serializable_name e (inr refl) f;
}
