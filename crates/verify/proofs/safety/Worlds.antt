-- To be below is transitive in a world, and a yes of the hierarchy holds in each world that extends it.
use Rattle.std.proofs.Common.{◌≡◌, ℕ, true, false, List, Option, Some, None, MatchOption, option_map, ◌⊎◌, inl, inr, sym, ap, refl, ◌∙◌, subst}
use Rattle.std.specs.Str.{bytes_eq}
use Rattle.std.proofs.lemmas.Slice.Eq.{bytes_eq-Decides}
use Rattle.names.specs.Descriptors.{FieldDescriptor, primitive, class as class_descriptor, array as array_descriptor}
use Rattle.names.specs.ReferenceTypes.{ReferenceType, class_type, array_type}
use Rattle.names.specs.StandardNames.{object_name, cloneable_name, serializable_name}
use Rattle.hierarchy.specs.World.{Entry, World, superclass_in, IsSubclassIn, same, above}
use Rattle.hierarchy.specs.Class.{ClassFact, class_of, entry_of, world_of}
use Rattle.hierarchy.specs.Rules.{IsHierarchy}
use Rattle.hierarchy.specs.Extends.{Extends}
use Rattle.hierarchy.proofs.Worlds.{kept}
use Rattle.frames.specs.VerificationType.{VerificationType}
use Rattle.frames.specs.Assignable.{type_answer}
use Rattle.frames.specs.Slots.{to_reference}
use Rattle.frames.specs.Meaning.{ClassAnswer, IsAboveArrays, AreComponents, primitive_component, class_component, array_under_class, array_component, IsAssignable, to_itself, to_top, null_to_class, null_to_array, class_to_class, array_to_class, array_to_array}
use Rattle.frames.proofs.Types.{types_mean}
use Rattle.hierarchy.specs.Answer.{yes}
use Rattle.machine.specs.Heap.{IsInterface, IsNoPrimitive, IsBelowByName, IsBelowClass, IsBelowType, IsBelow}

pub name_same : (a b : List ℕ) → bytes_eq a b ≡ true → a ≡ b
name_same a b = (bytes_eq-Decides a b).0

-- the rules that a hierarchy without faults and every world that extends it keep
pub record IsWorld (w : World) : Type 0 where
  pub root : superclass_in w object_name ≡ None
  pub interface_super : (n : List ℕ) (e : Entry) → w n ≡ Some e → e.interface ≡ true → e.superclass ≡ Some object_name
  pub cloneable : (e : Entry) → w cloneable_name ≡ Some e → e.interface ≡ true
  pub serializable : (e : Entry) → w serializable_name ≡ Some e → e.interface ≡ true

object_found : (o : Option ClassFact) → MatchOption o ⊥ (λ c. (c.interface ≡ false) × (c.superclass ≡ None)) → (e : Entry) × (option_map entry_of o ≡ Some e) × (e.superclass ≡ None)
object_found None m = elim m [ ]
object_found (Some c) m = (entry_of c, refl, m.1)

pub world_of_hierarchy : (h : List ClassFact) (w : World) → IsHierarchy h → Extends w h → IsWorld w
world_of_hierarchy h w hh x =
    let o = object_found (class_of h object_name) hh.object in
    record {
      root = rw (x.keeps object_name o.0 o.1) o.2;
      interface_super = x.interface_super;
      cloneable = x.cloneable;
      serializable = x.serializable;
    }

pub sub_trans : (w : World) (a b c : List ℕ) → IsSubclassIn w a b → IsSubclassIn w b c → IsSubclassIn w a c
sub_trans w a b c same s = s
sub_trans w a b c (above {s = d} e r) s = above e (sub_trans w d b c r s)

no_some : (s : List ℕ) → None ≡ Some s → ⊥
no_some s e = cc

some_same : (a b : List ℕ) → Some a ≡ Some b → a ≡ b
some_same a b e = cc

no_super : (w : World) (a b : List ℕ) → superclass_in w a ≡ None → IsSubclassIn w a b → b ≡ a
no_super w a b e same = refl
no_super w a b e (above {s = d} f r) = absurd (no_some d (sym e ∙ f))

top_super : (w : World) (a b : List ℕ) → IsWorld w → superclass_in w a ≡ Some object_name → IsSubclassIn w a b → (b ≡ a) ⊎ (b ≡ object_name)
top_super w a b iw e same = inl refl
top_super w a b iw e (above {s = d} f r) =
    let g : d ≡ object_name = some_same d object_name (sym f ∙ e) in
    inr (no_super w object_name b iw.root (subst (λ z. IsSubclassIn w z b) g r))

top_of_interface : (w : World) (a b : List ℕ) → IsWorld w → IsInterface w a → IsSubclassIn w a b → (b ≡ a) ⊎ (b ≡ object_name)
top_of_interface w a b iw i s =
    let e : superclass_in w a ≡ Some object_name = rw i.1 (iw.interface_super a i.0 i.1 i.2) in
    top_super w a b iw e s

module _ (w : World) (iw : IsWorld w) where
  -- an interface if it is there at all
  below_interface : (x : FieldDescriptor) (a b : List ℕ) → IsBelowClass w x a → ((e : Entry) → w a ≡ Some e → e.interface ≡ true) → IsSubclassIn w a b → IsBelowClass w x b
  below_interface x a b bel all s = go (w a) refl
    where
      put : (b ≡ a) ⊎ (b ≡ object_name) → IsBelowClass w x b
      put (inl f) = subst (λ c. IsBelowClass w x c) (sym f) bel
      put (inr f) = (bel.0, inl f)

      go : (o : Option Entry) → w a ≡ o → IsBelowClass w x b
      go None p = let f : b ≡ a = no_super w a b (rw p refl) s in subst (λ c. IsBelowClass w x c) (sym f) bel
      go (Some e) p = put (top_of_interface w a b iw (e, p, all e p) s)

  below_array_name : (x : FieldDescriptor) (c b : List ℕ) → (c ≡ cloneable_name) ⊎ (c ≡ serializable_name) → IsBelowClass w x c → IsSubclassIn w c b → IsBelowClass w x b
  below_array_name x c b (inl e) bel s = below_interface x c b bel (λ y p. iw.cloneable y (subst (λ n. w n ≡ Some y) e p)) s
  below_array_name x c b (inr e) bel s = below_interface x c b bel (λ y p. iw.serializable y (subst (λ n. w n ≡ Some y) e p)) s

  below_named : (x : FieldDescriptor) (c b : List ℕ) → IsBelowClass w x c → IsBelowByName w x c → IsSubclassIn w c b → IsBelowClass w x b
  below_named (primitive p) c b bel by s = elim by [ ]
  below_named (class_descriptor a) c b bel by s = (tt, inr (inr (sub_trans w a c b by s)))
  below_named (array_descriptor t) c b bel by s = below_array_name (array_descriptor t) c b by bel s

  same_entry : (c : List ℕ) (e d : Entry) → w c ≡ Some e → w c ≡ Some d → e ≡ d
  same_entry c e d p q = let r : Some e ≡ Some d = sym p ∙ q in cc

  below_sub : (x : FieldDescriptor) (c b : List ℕ) → IsBelowClass w x c → IsSubclassIn w c b → IsBelowClass w x b
  below_sub x c b (n, inl e) s = (n, inl (no_super w object_name b iw.root (subst (λ d. IsSubclassIn w d b) e s)))
  below_sub x c b (n, inr (inl i)) s = below_interface x c b (n, inr (inl i)) (λ e p. subst (λ y. y.interface ≡ true) (sym (same_entry c e i.0 p i.1)) i.2) s
  below_sub x c b (n, inr (inr by)) s = below_named x c b (n, inr (inr by)) by s

  below_by_name : (x z : FieldDescriptor) (b : List ℕ) → IsBelowType w x z → IsBelowByName w z b → IsBelowClass w x b
  below_by_name x (primitive q) b p by = elim by [ ]
  below_by_name x (class_descriptor c) b p by = below_sub x c b p by
  below_by_name (array_descriptor y) (array_descriptor t) b p by = (tt, inr (inr by))
  below_by_name (class_descriptor y) (array_descriptor t) b p by = elim p [ ]
  below_by_name (primitive y) (array_descriptor t) b p by = elim p [ ]

  no_primitive : (x z : FieldDescriptor) → IsBelowType w x z → IsNoPrimitive z → IsNoPrimitive x
  no_primitive x (primitive q) p n = elim n [ ]
  no_primitive x (class_descriptor c) p n = p.0
  no_primitive (array_descriptor y) (array_descriptor t) p n = tt
  no_primitive (class_descriptor y) (array_descriptor t) p n = tt
  no_primitive (primitive y) (array_descriptor t) p n = elim p [ ]

  below_class_trans : (x z : FieldDescriptor) (b : List ℕ) → IsBelowType w x z → IsBelowClass w z b → IsBelowClass w x b
  below_class_trans x z b p (n, inl e) = (no_primitive x z p n, inl e)
  below_class_trans x z b p (n, inr (inl i)) = (no_primitive x z p n, inr (inl i))
  below_class_trans x z b p (n, inr (inr by)) = below_by_name x z b p by

  pub below_trans : (x z t : FieldDescriptor) → IsBelowType w x z → IsBelowType w z t → IsBelowType w x t
  below_trans x z (class_descriptor b) p q = below_class_trans x z b p q
  below_trans x z (primitive k) p q = subst (λ y. IsBelowType w x y) q p
  below_trans (array_descriptor x) (array_descriptor z) (array_descriptor t) p q = below_trans x z t p q
  below_trans (class_descriptor x) (array_descriptor z) (array_descriptor t) p q = elim p [ ]
  below_trans (primitive x) (array_descriptor z) (array_descriptor t) p q = elim p [ ]
  below_trans x (class_descriptor z) (array_descriptor t) p q = elim q [ ]
  below_trans x (primitive z) (array_descriptor t) p q = elim q [ ]

pub below_itself : (w : World) (x : FieldDescriptor) → IsBelowType w x x
below_itself w (primitive p) = refl
below_itself w (class_descriptor c) = (tt, inr (inr same))
below_itself w (array_descriptor x) = below_itself w x

-- ---- what the hierarchy answers yes

module _ (h : List ClassFact) (w : World) (x : Extends w h) where
  interface_here : (b : List ℕ) (o : Option ClassFact) → class_of h b ≡ o → option_map (λ c. c.interface) o ≡ Some true → IsInterface w b
  interface_here b None p e = cc
  interface_here b (Some c) p e =
      let k : world_of h b ≡ Some (entry_of c) = ap (option_map entry_of) p in
      let i : c.interface ≡ true = cc in
      (entry_of c, x.keeps b (entry_of c) k, i)

  class_below : (a b : List ℕ) → ClassAnswer h a b yes → IsBelowClass w (class_descriptor a) b
  class_below a b (inl e) = (tt, inr (inr (subst (IsSubclassIn w a) e same)))
  class_below a b (inr (inl e)) = (tt, inl e)
  class_below a b (inr (inr (inl i))) = (tt, inr (inl (interface_here b (class_of h b) refl i)))
  class_below a b (inr (inr (inr s))) = (tt, inr (inr (kept h w a b x s.1)))

  array_below : (y : FieldDescriptor) (b : List ℕ) → IsAboveArrays b → IsBelowClass w (array_descriptor y) b
  array_below y b (inl e) = (tt, inl e)
  array_below y b (inr e) = (tt, inr (inr e))

  components_below : (a b : FieldDescriptor) → AreComponents h a b → IsBelowType w a b
  components_below a b primitive_component = refl
  components_below a b (class_component {a = c} {b = d} r) = class_below c d r
  components_below a b (array_under_class {x = y} {b = d} r) = array_below y d r
  components_below a b (array_component {x = y} {y = z} r) = components_below y z r

  pub assignable_below : (a b : VerificationType) → IsAssignable h a b → (s t : ReferenceType) → a ≡ to_reference s → b ≡ to_reference t → IsBelow w s t
  assignable_below a b to_itself s t p q = go s t (sym p ∙ q)
    where
      go : (s t : ReferenceType) → to_reference s ≡ to_reference t → IsBelow w s t
      go (class_type n) (class_type m) e = let f : n ≡ m = cc in subst (λ z. IsBelow w (class_type n) (class_type z)) f (tt, inr (inr same))
      go (array_type n) (array_type m) e = let f : n ≡ m = cc in subst (λ z. IsBelow w (array_type n) (array_type z)) f (below_itself w n)
      go (class_type n) (array_type m) e = cc
      go (array_type n) (class_type m) e = cc
  assignable_below a b (class_to_class {a = c} {b = d} r) (class_type n) (class_type m) p q =
      let f : c ≡ n = cc in
      let g : d ≡ m = cc in
      subst (λ z. IsBelow w (class_type z) (class_type m)) f (subst (λ z. IsBelow w (class_type c) (class_type z)) g (class_below c d r))
  assignable_below a b (array_to_class {x = y} {b = d} r) (array_type n) (class_type m) p q =
      let g : d ≡ m = cc in
      subst (λ z. IsBelow w (array_type n) (class_type z)) g (array_below n d r)
  assignable_below a b (array_to_array {x = y} {y = z} r) (array_type n) (array_type m) p q =
      let f : y ≡ n = cc in
      let g : z ≡ m = cc in
      subst (λ k. IsBelow w (array_type k) (array_type m)) f (subst (λ k. IsBelow w (array_type y) (array_type k)) g (components_below y z r))
  assignable_below a b (class_to_class r) (array_type n) t p q = cc
  assignable_below a b (class_to_class r) (class_type n) (array_type m) p q = cc
  assignable_below a b (array_to_class r) (class_type n) t p q = cc
  assignable_below a b (array_to_class r) (array_type n) (array_type m) p q = cc
  assignable_below a b (array_to_array r) (class_type n) t p q = cc
  assignable_below a b (array_to_array r) (array_type n) (class_type m) p q = cc
  assignable_below a b to_top s (class_type m) p q = cc
  assignable_below a b to_top s (array_type m) p q = cc
  assignable_below a b null_to_class (class_type n) t p q = cc
  assignable_below a b null_to_class (array_type n) t p q = cc
  assignable_below a b null_to_array (class_type n) t p q = cc
  assignable_below a b null_to_array (array_type n) t p q = cc

  pub answer_below : (s t : ReferenceType) → type_answer h (to_reference s) (to_reference t) ≡ yes → IsBelow w s t
  answer_below s t e = assignable_below (to_reference s) (to_reference t) ((types_mean h (to_reference s) (to_reference t)).0.0 e) s t refl refl
