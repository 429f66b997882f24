-- The answers for classes and types, by the definitions of assignability.
use Rattle.std.proofs.Common.{◌≡◌, ◌≢◌, ◌↔◌, ◌||◌, ◌==◌, ℕ, List, Bool, true, false, cond, eq-eqb, Option, Some, None, IsSome, option_map, refl, ap, sym, ◌∙◌, subst, inl, inr}
use Rattle.std.specs.Str.{bytes_eq}
use Rattle.std.proofs.lemmas.Bool.{false≢true, eqb-true}
use Rattle.std.proofs.lemmas.Slice.Eq.{bytes_eq-Decides}
use Rattle.names.specs.declared.base.Primitive.{Primitive}
use Rattle.names.specs.declared.base.Primitive.TheVariants.{Byte, Char, Double, Float, Int, Long, Short, Boolean}
use Rattle.names.specs.Descriptors.{FieldDescriptor, primitive, class as class_type, array as array_type}
use Rattle.names.specs.StandardNames.{object_name, cloneable_name, serializable_name}
use Rattle.hierarchy.specs.Class.{ClassFact, class_of, interface_of}
use Rattle.hierarchy.specs.Answer.{Outcome, yes, no, missing, yes_if, subclass_answer, SubclassAnswer}
use Rattle.hierarchy.proofs.Names.{none_some}
use Rattle.hierarchy.proofs.Subclass.{one_answer, alone, absent_present}
use Rattle.frames.specs.VerificationType.{VerificationType, top, int, float, long, double, null, class, array, uninit_this, uninit}
use Rattle.frames.specs.Assignable.{lookup_answer, class_answer, is_above_arrays, same_primitive as primitives_equal, component_answer, type_answer}
use Rattle.frames.specs.Meaning.{ClassAnswer, IsAboveArrays, AreComponents, primitive_component, class_component, array_under_class, array_component, IsAssignable, to_itself, to_top, null_to_class, null_to_array, class_to_class, array_to_class, array_to_array, ComponentsCompare, component_classes, component_arrays, Compares, two_classes, two_arrays}

same_name : (a b : List ℕ) → bytes_eq a b ≡ true → a ≡ b
same_name a b = (bytes_eq-Decides a b).0

other_name : (a b : List ℕ) → bytes_eq a b ≡ false → a ≢ b
other_name a b h e = false≢true (sym h ∙ (bytes_eq-Decides a b).1 e)

-- a class that is there or not, as an interface or not
present_of : (o : Option ClassFact) (t : Bool) → option_map (λ c. c.interface) o ≡ Some t → IsSome o
present_of None t e = absurd (none_some e)
present_of (Some c) t e = refl

absent_of : (o : Option ClassFact) → option_map (λ c. c.interface) o ≡ None → o ≡ None
absent_of None e = refl
absent_of (Some c) e = cc

module _ (h : List ClassFact) (a b : List ℕ) where
  -- the answers where b is a class that is no interface
  below_holds : a ≢ b → b ≢ object_name → interface_of h b ≡ Some false → (r : Outcome) → SubclassAnswer h a b r → ClassAnswer h a b r
  below_holds n m e yes p = inr (inr (inr (present_of (class_of h b) false e, p)))
  below_holds n m e no p = (n, m, present_of (class_of h b) false e, λ f. cc, p.0, p.1)
  below_holds n m e (missing name) p = (n, m, inr (present_of (class_of h b) false e, (λ f. cc), p.2, p.0))

  class_holds : ClassAnswer h a b (class_answer h a b)
  class_holds = by (bytes_eq a b) refl (bytes_eq b object_name) refl (interface_of h b) refl
    where
      by : (t : Bool) → bytes_eq a b ≡ t → (u : Bool) → bytes_eq b object_name ≡ u → (o : Option Bool) → interface_of h b ≡ o → ClassAnswer h a b (cond (t || u) yes (lookup_answer h a b o))
      by true p u q o e = inl (same_name a b p)
      by false p true q o e = inr (inl (same_name b object_name q))
      by false p false q None e = (other_name a b p, other_name b object_name q, inl (absent_of (class_of h b) e, refl))
      by false p false q (Some true) e = inr (inr (inl e))
      by false p false q (Some false) e = below_holds (other_name a b p) (other_name b object_name q) e (subclass_answer h a b) ((one_answer h a b (subclass_answer h a b)).1 refl)

  absent_interface : (o : Option ClassFact) → o ≡ None → option_map (λ c. c.interface) o ≡ Some true → ⊥
  absent_interface None e f = none_some f
  absent_interface (Some c) e f = cc

  yes_no : ClassAnswer h a b yes → ClassAnswer h a b no → ⊥
  yes_no (inl e) n = n.0 e
  yes_no (inr (inl e)) n = n.1 e
  yes_no (inr (inr (inl e))) n = n.3 e
  yes_no (inr (inr (inr p))) n = n.5 p.1

  yes_missing : (m : List ℕ) → ClassAnswer h a b yes → ClassAnswer h a b (missing m) → ⊥
  yes_missing m (inl e) n = n.0 e
  yes_missing m (inr (inl e)) n = n.1 e
  yes_missing m (inr (inr (inl e))) (x, y, inl p) = absent_interface (class_of h b) p.0 e
  yes_missing m (inr (inr (inl e))) (x, y, inr p) = p.1 e
  yes_missing m (inr (inr (inr q))) (x, y, inl p) = absent_present (class_of h b) p.0 q.0
  yes_missing m (inr (inr (inr q))) (x, y, inr p) = x (alone h a b p.2 q.1)

  no_missing : (m : List ℕ) → ClassAnswer h a b no → ClassAnswer h a b (missing m) → ⊥
  no_missing m n (x, y, inl p) = absent_present (class_of h b) p.0 n.2
  no_missing m n (x, y, inr p) = absent_present (class_of h a) p.2 n.4

  missing_missing : (m k : List ℕ) → ClassAnswer h a b (missing m) → ClassAnswer h a b (missing k) → m ≡ k
  missing_missing m k (x, y, inl p) (z, w, inl q) = p.1 ∙ sym q.1
  missing_missing m k (x, y, inl p) (z, w, inr q) = absurd (absent_present (class_of h b) p.0 q.0)
  missing_missing m k (x, y, inr p) (z, w, inl q) = absurd (absent_present (class_of h b) q.0 p.0)
  missing_missing m k (x, y, inr p) (z, w, inr q) = p.3 ∙ sym q.3

  class_one : (r s : Outcome) → ClassAnswer h a b r → ClassAnswer h a b s → r ≡ s
  class_one yes yes p q = refl
  class_one yes no p q = absurd (yes_no p q)
  class_one yes (missing m) p q = absurd (yes_missing m p q)
  class_one no yes p q = absurd (yes_no q p)
  class_one no no p q = refl
  class_one no (missing m) p q = absurd (no_missing m p q)
  class_one (missing m) yes p q = absurd (yes_missing m q p)
  class_one (missing m) no p q = absurd (no_missing m q p)
  class_one (missing m) (missing k) p q = ap missing (missing_missing m k p q)

pub one_class_answer : (h : List ClassFact) (a b : List ℕ) (r : Outcome) → ClassAnswer h a b r ↔ (r ≡ class_answer h a b)
one_class_answer h a b r = (λ p. class_one h a b r (class_answer h a b) p (class_holds h a b), λ e. subst (ClassAnswer h a b) (sym e) (class_holds h a b))

-- primitive types that are equal
primitive_itself : (p : Primitive) → primitives_equal p p ≡ true
primitive_itself Byte = refl
primitive_itself Char = refl
primitive_itself Double = refl
primitive_itself Float = refl
primitive_itself Int = refl
primitive_itself Long = refl
primitive_itself Short = refl
primitive_itself Boolean = refl

primitive_same : (p q : Primitive) → primitives_equal p q ≡ true → p ≡ q
primitive_same Byte Byte e = refl
primitive_same Char Char e = refl
primitive_same Double Double e = refl
primitive_same Float Float e = refl
primitive_same Int Int e = refl
primitive_same Long Long e = refl
primitive_same Short Short e = refl
primitive_same Boolean Boolean e = refl
primitive_same _ _ e = absurd (false≢true e)

pub no_is_yes : no ≡ yes → ⊥
no_is_yes e = cc

no_is_missing : {n : List ℕ} → no ≡ missing n → ⊥
no_is_missing e = cc

yes_is_missing : {n : List ℕ} → yes ≡ missing n → ⊥
yes_is_missing e = cc

yes_of : (t : Bool) → yes_if t ≡ yes → t ≡ true
yes_of true e = refl
yes_of false e = cc

not_missing : (t : Bool) (n : List ℕ) → yes_if t ≡ missing n → ⊥
not_missing true n e = cc
not_missing false n e = cc

above_arrays : (b : List ℕ) → is_above_arrays b ≡ true → IsAboveArrays b
above_arrays b e = by (bytes_eq b object_name) refl (bytes_eq b cloneable_name) refl (bytes_eq b serializable_name) refl e
  where
    by : (t : Bool) → bytes_eq b object_name ≡ t → (u : Bool) → bytes_eq b cloneable_name ≡ u → (v : Bool) → bytes_eq b serializable_name ≡ v → (t || (u || v)) ≡ true → IsAboveArrays b
    by true p u q v r e = inl (same_name b object_name p)
    by false p true q v r e = inr (inl (same_name b cloneable_name q))
    by false p false q true r e = inr (inr (same_name b serializable_name r))
    by false p false q false r e = absurd (false≢true e)

arrays_above : (b : List ℕ) → IsAboveArrays b → is_above_arrays b ≡ true
arrays_above b (inl e) = rw e refl
arrays_above b (inr (inl e)) = rw e refl
arrays_above b (inr (inr e)) = rw e refl

component_itself : (h : List ClassFact) (x : FieldDescriptor) → component_answer h x x ≡ yes
component_itself h (primitive p) = ap yes_if (primitive_itself p)
component_itself h (class_type a) = sym ((one_class_answer h a a yes).0 (inl refl))
component_itself h (array_type x) = component_itself h x

pub type_itself : (h : List ClassFact) (a : VerificationType) → type_answer h a a ≡ yes
type_itself h top = refl
type_itself h int = refl
type_itself h float = refl
type_itself h long = refl
type_itself h double = refl
type_itself h null = refl
type_itself h (class a) = sym ((one_class_answer h a a yes).0 (inl refl))
type_itself h (array x) = component_itself h x
type_itself h uninit_this = refl
type_itself h (uninit p) = ap yes_if (eq-eqb p p refl)

-- which components are yes
components_yes : (h : List ClassFact) (x y : FieldDescriptor) → component_answer h x y ≡ yes → AreComponents h x y
components_yes h (primitive p) (primitive q) e = subst (λ r. AreComponents h (primitive p) (primitive r)) (primitive_same p q (yes_of (primitives_equal p q) e)) primitive_component
components_yes h (class_type a) (class_type b) e = class_component ((one_class_answer h a b yes).1 (sym e))
components_yes h (array_type x) (class_type b) e = array_under_class (above_arrays b (yes_of (is_above_arrays b) e))
components_yes h (array_type x) (array_type y) e = array_component (components_yes h x y e)
components_yes h _ _ e = absurd (no_is_yes e)

yes_components : (h : List ClassFact) (x y : FieldDescriptor) → AreComponents h x y → component_answer h x y ≡ yes
yes_components h x y (primitive_component {p = p}) = ap yes_if (primitive_itself p)
yes_components h x y (class_component {a = a} {b = b} p) = sym ((one_class_answer h a b yes).0 p)
yes_components h x y (array_under_class {b = b} p) = ap yes_if (arrays_above b p)
yes_components h x y (array_component {x = v} {y = w} p) = yes_components h v w p

types_yes : (h : List ClassFact) (x y : VerificationType) → type_answer h x y ≡ yes → IsAssignable h x y
types_yes h _ top e = to_top
types_yes h int int e = to_itself
types_yes h float float e = to_itself
types_yes h long long e = to_itself
types_yes h double double e = to_itself
types_yes h null null e = to_itself
types_yes h null (class b) e = null_to_class
types_yes h null (array y) e = null_to_array
types_yes h (class a) (class b) e = class_to_class ((one_class_answer h a b yes).1 (sym e))
types_yes h (array x) (class b) e = array_to_class (above_arrays b (yes_of (is_above_arrays b) e))
types_yes h (array x) (array y) e = array_to_array (components_yes h x y e)
types_yes h uninit_this uninit_this e = to_itself
types_yes h (uninit p) (uninit q) e = subst (λ r. IsAssignable h (uninit p) (uninit r)) (eqb-true p q (yes_of (p == q) e)) to_itself
types_yes h _ _ e = absurd (no_is_yes e)

yes_types : (h : List ClassFact) (x y : VerificationType) → IsAssignable h x y → type_answer h x y ≡ yes
yes_types h x y to_itself = type_itself h x
yes_types h x y to_top = refl
yes_types h x y null_to_class = refl
yes_types h x y null_to_array = refl
yes_types h x y (class_to_class {a = a} {b = b} p) = sym ((one_class_answer h a b yes).0 p)
yes_types h x y (array_to_class {b = b} p) = ap yes_if (arrays_above b p)
yes_types h x y (array_to_array {x = v} {y = w} p) = yes_components h v w p

-- which components are missing a class
components_missing : (h : List ClassFact) (x y : FieldDescriptor) (n : List ℕ) → component_answer h x y ≡ missing n → (a : List ℕ) × (b : List ℕ) × ComponentsCompare x y a b × ClassAnswer h a b (missing n)
components_missing h (primitive p) (primitive q) n e = absurd (not_missing (primitives_equal p q) n e)
components_missing h (class_type a) (class_type b) n e = (a, b, component_classes, (one_class_answer h a b (missing n)).1 (sym e))
components_missing h (array_type x) (class_type b) n e = absurd (not_missing (is_above_arrays b) n e)
components_missing h (array_type x) (array_type y) n e = let r = components_missing h x y n e in (r.0, r.1, component_arrays r.2, r.3)
components_missing h _ _ n e = absurd (no_is_missing e)

missing_components : (h : List ClassFact) (x y : FieldDescriptor) (n a b : List ℕ) → ComponentsCompare x y a b → ClassAnswer h a b (missing n) → component_answer h x y ≡ missing n
missing_components h x y n a b component_classes m = sym ((one_class_answer h a b (missing n)).0 m)
missing_components h x y n a b (component_arrays {x = v} {y = w} c) m = missing_components h v w n a b c m

types_missing : (h : List ClassFact) (x y : VerificationType) (n : List ℕ) → type_answer h x y ≡ missing n → (a : List ℕ) × (b : List ℕ) × Compares x y a b × ClassAnswer h a b (missing n)
types_missing h _ top n e = absurd (yes_is_missing e)
types_missing h int int n e = absurd (yes_is_missing e)
types_missing h float float n e = absurd (yes_is_missing e)
types_missing h long long n e = absurd (yes_is_missing e)
types_missing h double double n e = absurd (yes_is_missing e)
types_missing h null null n e = absurd (yes_is_missing e)
types_missing h null (class b) n e = absurd (yes_is_missing e)
types_missing h null (array y) n e = absurd (yes_is_missing e)
types_missing h (class a) (class b) n e = (a, b, two_classes, (one_class_answer h a b (missing n)).1 (sym e))
types_missing h (array x) (class b) n e = absurd (not_missing (is_above_arrays b) n e)
types_missing h (array x) (array y) n e = let r = components_missing h x y n e in (r.0, r.1, two_arrays r.2, r.3)
types_missing h uninit_this uninit_this n e = absurd (yes_is_missing e)
types_missing h (uninit p) (uninit q) n e = absurd (not_missing (p == q) n e)
types_missing h _ _ n e = absurd (no_is_missing e)

missing_types : (h : List ClassFact) (x y : VerificationType) (n a b : List ℕ) → Compares x y a b → ClassAnswer h a b (missing n) → type_answer h x y ≡ missing n
missing_types h x y n a b two_classes m = sym ((one_class_answer h a b (missing n)).0 m)
missing_types h x y n a b (two_arrays {x = v} {y = w} c) m = missing_components h v w n a b c m

pub types_mean : (h : List ClassFact) (x y : VerificationType) → ((type_answer h x y ≡ yes) ↔ IsAssignable h x y) × ((n : List ℕ) → (type_answer h x y ≡ missing n) ↔ ((a : List ℕ) × (b : List ℕ) × Compares x y a b × ClassAnswer h a b (missing n)))
types_mean h x y = ((types_yes h x y, yes_types h x y), λ n. (types_missing h x y n, λ r. missing_types h x y n r.0 r.1 r.2 r.3))
