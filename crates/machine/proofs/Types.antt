-- When a run-time type is below a type, as a test that computes.
use Rattle.std.specs.Prelude.{◌↔◌}
use Rattle.std.proofs.Common.{◌≡◌, ◌⊎◌, inl, inr, ℕ, zero, suc, ◌<◌, ◌||◌, List, Bool, true, false, Option, Some, None, option_map, refl, sym, ◌∙◌, ap, subst, arith}
use Rattle.std.specs.Str.{bytes_eq}
use Rattle.std.proofs.lemmas.Slice.Eq.{bytes_eq-Decides}
use Rattle.names.specs.declared.base.Base.{Base}
use Rattle.names.specs.declared.base.Base.TheVariants as bases
use Rattle.names.specs.declared.base.Primitive.{Primitive}
use Rattle.names.specs.declared.base.Primitive.TheVariants.{Byte, Char, Double, Float, Int, Long, Short, Boolean}
use Rattle.names.specs.Descriptors.{FieldDescriptor, primitive, class, array, base_of, dimensioned}
use Rattle.names.specs.StandardNames.{object_name, cloneable_name, serializable_name}
use Rattle.hierarchy.specs.World.{Entry, IsSubclassIn}
use Rattle.hierarchy.specs.Class.{ClassFact, class_of, world_of, entry_of, interface_of}
use Rattle.hierarchy.specs.declared.answer.Answer.{Answer}
use Rattle.hierarchy.specs.declared.answer.Answer.TheVariants.{Yes, No, Missing}
use Rattle.hierarchy.specs.Answer.{Outcome, yes, no, missing, outcome_of, subclass_answer, SubclassAnswer}
use Rattle.hierarchy.proofs.Subclass.{one_answer}
use Rattle.machine.specs.Heap.{IsInterface, IsBelowType}
use Rattle.machine.specs.private.Decided.{is_yes, is_true, is_above_all, class_below, is_above_arrays, same_primitive, type_below}

either : (a b : Bool) → (a || b) ≡ true → (a ≡ true) ⊎ (b ≡ true)
either true b e = inl refl
either false b e = inr e

first : (a b : Bool) → a ≡ true → (a || b) ≡ true
first true b e = refl
first false b e = cc

other : (a b : Bool) → b ≡ true → (a || b) ≡ true
other true b e = refl
other false b e = e

yes_is : (r : Outcome) → is_yes r ≡ true → r ≡ yes
yes_is yes e = refl
yes_is no e = cc
yes_is (missing n) e = cc

true_is : (b : Bool) → is_true (Some b) ≡ true → b ≡ true
true_is true e = refl
true_is false e = cc

is_interface : (o : Option ClassFact) → is_true (option_map (λ c. c.interface) o) ≡ true → (e : Entry) × (option_map entry_of o ≡ Some e) × (e.interface ≡ true)
is_interface None e = absurd cc
is_interface (Some c) e = (entry_of c, refl, true_is c.interface e)

interface_is : (o : Option ClassFact) (e : Entry) → option_map entry_of o ≡ Some e → e.interface ≡ true → is_true (option_map (λ c. c.interface) o) ≡ true
interface_is None e p q = absurd cc
interface_is (Some c) e p q =
    let same : entry_of c ≡ e = cc in
    ap (λ b. is_true (Some b)) (ap (λ (x : Entry). x.interface) same ∙ q)

same_is : (p q : Primitive) → same_primitive p q ≡ true → p ≡ q
same_is Byte Byte e = refl
same_is Char Char e = refl
same_is Double Double e = refl
same_is Float Float e = refl
same_is Int Int e = refl
same_is Long Long e = refl
same_is Short Short e = refl
same_is Boolean Boolean e = refl
same_is _ _ e = absurd cc

itself : (p : Primitive) → same_primitive p p ≡ true
itself Byte = refl
itself Char = refl
itself Double = refl
itself Float = refl
itself Int = refl
itself Long = refl
itself Short = refl
itself Boolean = refl

module _ (h : List ClassFact) where
  above_all : (b : List ℕ) → is_above_all h b ≡ true → (b ≡ object_name) ⊎ IsInterface (world_of h) b
  above_all b e = elim (either (bytes_eq b object_name) (is_true (interface_of h b)) e) [
    | inl p ↦ inl ((bytes_eq-Decides b object_name).0 p)
    | inr p ↦ inr (is_interface (class_of h b) p)
  ]

  all_above : (b : List ℕ) → (b ≡ object_name) ⊎ IsInterface (world_of h) b → is_above_all h b ≡ true
  all_above b (inl e) = first (bytes_eq b object_name) (is_true (interface_of h b)) ((bytes_eq-Decides b object_name).1 e)
  all_above b (inr i) = other (bytes_eq b object_name) (is_true (interface_of h b)) (interface_is (class_of h b) i.0 i.1 i.2)

  subclass : (a b : List ℕ) → is_yes (subclass_answer h a b) ≡ true → IsSubclassIn (world_of h) a b
  subclass a b e = (one_answer h a b yes).1 (sym (yes_is (subclass_answer h a b) e))

  answered : (a b : List ℕ) → IsSubclassIn (world_of h) a b → is_yes (subclass_answer h a b) ≡ true
  answered a b p = ap is_yes (sym ((one_answer h a b yes).0 p))

  pub found : (a b : List ℕ) → SubclassAnswer h a b yes → true ≡ class_below h a b
  found a b p = sym (other (is_above_all h b) (is_yes (subclass_answer h a b)) (answered a b p))

  no_yes : (r : Answer) → (r ≡ Yes → ⊥) → is_yes (outcome_of r) ≡ false
  no_yes Yes n = absurd (n refl)
  no_yes No n = refl
  no_yes (Missing name) n = refl

  neither : (s t : Bool) → s ≡ false → t ≡ false → (s || t) ≡ false
  neither true t e f = cc
  neither false t e f = f

  pub not_found : (a b : List ℕ) (r : Answer) → is_above_all h b ≡ false → SubclassAnswer h a b (outcome_of r) → (r ≡ Yes → ⊥) → false ≡ class_below h a b
  not_found a b r e p n =
      sym (neither (is_above_all h b) (is_yes (subclass_answer h a b)) e
      (ap is_yes (sym ((one_answer h a b (outcome_of r)).0 p)) ∙ no_yes r n))

  holds : (x y : FieldDescriptor) → type_below h x y ≡ true → IsBelowType (world_of h) x y
  holds (primitive p) (primitive q) e = ap primitive (same_is p q e)
  holds (primitive p) (class b) e = absurd cc
  holds (primitive p) (array y) e = absurd cc
  holds (class a) (primitive q) e = absurd cc
  holds (class a) (class b) e = (
    tt,
    elim (either (is_above_all h b) (is_yes (subclass_answer h a b)) e) [
      | inl p ↦ elim (above_all b p) [ inl o ↦ inl o | inr i ↦ inr (inl i) ]
      | inr p ↦ inr (inr (subclass a b p))
    ],
  )
  holds (class a) (array y) e = absurd cc
  holds (array x) (primitive q) e = absurd cc
  holds (array x) (class b) e = (
    tt,
    elim (either (is_above_all h b) (bytes_eq b cloneable_name || bytes_eq b serializable_name) e) [
      | inl p ↦ elim (above_all b p) [ inl o ↦ inl o | inr i ↦ inr (inl i) ]
      | inr p ↦ elim (either (bytes_eq b cloneable_name) (bytes_eq b serializable_name) p) [
        | inl c ↦ inr (inr (inl ((bytes_eq-Decides b cloneable_name).0 c)))
        | inr s ↦ inr (inr (inr ((bytes_eq-Decides b serializable_name).0 s)))
      ]
    ],
  )
  holds (array x) (array y) e = holds x y e

  tests : (x y : FieldDescriptor) → IsBelowType (world_of h) x y → type_below h x y ≡ true
  tests (primitive p) (primitive q) e =
      let same : p ≡ q = cc in
      subst (λ z. same_primitive p z ≡ true) same (itself p)
  tests (primitive p) (class b) e = absurd e.0
  tests (primitive p) (array y) e = absurd e
  tests (class a) (primitive q) e = absurd cc
  tests (class a) (class b) (t, inl o) = first (is_above_all h b) _ (all_above b (inl o))
  tests (class a) (class b) (t, inr (inl i)) = first (is_above_all h b) _ (all_above b (inr i))
  tests (class a) (class b) (t, inr (inr p)) = other (is_above_all h b) _ (answered a b p)
  tests (class a) (array y) e = absurd e
  tests (array x) (primitive q) e = absurd cc
  tests (array x) (class b) (t, inl o) = first (is_above_all h b) _ (all_above b (inl o))
  tests (array x) (class b) (t, inr (inl i)) = first (is_above_all h b) _ (all_above b (inr i))
  tests (array x) (class b) (t, inr (inr (inl c))) = other (is_above_all h b) _ (first _ _ ((bytes_eq-Decides b cloneable_name).1 c))
  tests (array x) (class b) (t, inr (inr (inr s))) = other (is_above_all h b) _ (other _ _ ((bytes_eq-Decides b serializable_name).1 s))
  tests (array x) (array y) e = tests x y e

  pub decides : (x y : FieldDescriptor) → (type_below h x y ≡ true) ↔ IsBelowType (world_of h) x y
  decides x y = (holds x y, tests x y)

  -- ---- arrays by the numbers of their dimensions

  pub fewer : (d e : ℕ) (x : Base) (y : FieldDescriptor) → d < e → type_below h (dimensioned d (base_of x)) (dimensioned e y) ≡ false
  fewer zero zero x y lt = absurd (omega arith)
  fewer zero (suc e) (bases.Primitive p) y lt = refl
  fewer zero (suc e) (bases.Class a) y lt = refl
  fewer (suc d) zero x y lt = absurd (omega arith)
  fewer (suc d) (suc e) x y lt = fewer d e x y (omega arith)

  pub as_many : (d : ℕ) (x y : FieldDescriptor) → type_below h (dimensioned d x) (dimensioned d y) ≡ type_below h x y
  as_many zero x y = refl
  as_many (suc d) x y = as_many d x y

  pub more_than_primitive : (d e : ℕ) (x : FieldDescriptor) (p : Primitive) → e < d → type_below h (dimensioned d x) (dimensioned e (primitive p)) ≡ false
  more_than_primitive zero e x p lt = absurd (omega arith)
  more_than_primitive (suc d) zero x p lt = refl
  more_than_primitive (suc d) (suc e) x p lt = more_than_primitive d e x p (omega arith)

  pub more_than_class : (d e : ℕ) (x : FieldDescriptor) (b : List ℕ) → e < d → type_below h (dimensioned d x) (dimensioned e (class b)) ≡ is_above_arrays h b
  more_than_class zero e x b lt = absurd (omega arith)
  more_than_class (suc d) zero x b lt = refl
  more_than_class (suc d) (suc e) x b lt = more_than_class d e x b (omega arith)
