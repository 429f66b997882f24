-- Classes of which `new` makes objects and constructors are called, by their numbers.
use Rattle.std.specs.Prelude.{not}
use Rattle.std.proofs.Common.{◌≡◌, ◌∙◌, ◌&&◌, ℕ, Bool, true, false, nat_eq, List, [], Option, Some, None, refl, sym, ap, subst, arith, inl, inr}
use Rattle.std.specs.Str.{bytes_eq}
use Rattle.std.proofs.lemmas.Bool.{true≢false, cases_Bool, cond-false}
use Rattle.std.proofs.lemmas.Bool.Decides.{nat_tests}
use Rattle.std.proofs.lemmas.Slice.Eq.{bytes_eq-Decides}
use Rattle.names.specs.ReferenceTypes.{ReferenceType, class_type, array_type, is_class_type}
use Rattle.pool.specs.ConstantMeanings.{MethodConstant}
use Rattle.classfile.specs.Methods.{class_named}
use Rattle.hierarchy.proofs.Names.{none_some}
use Rattle.frames.specs.VerificationType.{VerificationType, class}
use Rattle.type_numbers.specs.Numbers.{Numbering, IsNumber}
use Rattle.type_numbers.proofs.Decoded.{one_type}
use Rattle.type_numbers.proofs.LawsOfNumbers.{one_number}
use Rattle.rules.specs.Constants.{constructor_call, has_room_for_receiver, new_object}
use Rattle.rules.specs.TypingRules.{arguments_on, constructs, refuses}

pub record IsClassType (t : ReferenceType) : Type 0 where
  pub name : List ℕ
  pub is : t ≡ class_type name

pub class_type_is : (t : ReferenceType) → is_class_type t ≡ true → IsClassType t
class_type_is (class_type name) e = record { name = name; is = refl }
class_type_is (array_type x) e = absurd (true≢false (sym e))

pub array_unnamed : (o : Option ReferenceType) (t : ReferenceType) → o ≡ Some t → is_class_type t ≡ false → class_named o ≡ None
array_unnamed o (class_type name) e n = absurd (true≢false n)
array_unnamed o (array_type x) e n = ap class_named e

abbrev name_of : VerificationType → List ℕ → List ℕ
name_of (class name) other = name
name_of _ other = other

same_name : (a b : List ℕ) → class a ≡ class b → a ≡ b
same_name a b e = ap (λ t. name_of t a) e

-- equal numbers are equal classes
pub same_class : (s : Numbering) (n m : ℕ) (a b : List ℕ) → IsNumber s n (class a) → IsNumber s m (class b) → nat_eq n m ≡ bytes_eq a b
same_class s n m a b h k = elim (cases_Bool (nat_eq n m)) [
  | inl t ↦ (let e : n ≡ m = grind (arith, nat_tests, t) in t ∙ sym (equal_names (same_name a b (one_type s n (class a) (class b) h (subst (λ j. IsNumber s j (class b)) (sym e) k)))))
  | inr f ↦ f ∙ sym (other (bytes_eq a b) refl f)
]
  where
    equal_names : a ≡ b → bytes_eq a b ≡ true
    equal_names e = (bytes_eq-Decides a b).1 e

    other : (c : Bool) → bytes_eq a b ≡ c → nat_eq n m ≡ false → bytes_eq a b ≡ false
    other false e f = e
    other true e f =
        let same : a ≡ b = (bytes_eq-Decides a b).0 e in
        let one : n ≡ m = one_number s n m (class a) h (subst (λ x. IsNumber s m (class x)) (sym same) k) in
        let yes : nat_eq n m ≡ true = grind (arith, nat_tests, one) in
        absurd (true≢false (sym yes ∙ f))

-- an object is made of a class
pub none_made : (o : Option ReferenceType) → class_named o ≡ None → new_object o ≡ refuses 66
none_made None e = refl
none_made (Some (class_type name)) e = absurd (none_some (sym e))
none_made (Some (array_type x)) e = refl

-- ---- constructors that are named

pub record NamesConstructor (b : Bool) (t : ReferenceType) : Type 0 where
  pub name : List ℕ
  pub is : t ≡ class_type name
  pub allowed : b ≡ true

pub names_constructor : (b : Bool) (t : ReferenceType) → (is_class_type t && b) ≡ true → NamesConstructor b t
names_constructor b (class_type name) e = record { name = name; is = refl; allowed = e }
names_constructor b (array_type x) e = absurd (true≢false (sym e))

pub no_constructor : (c : MethodConstant) (t : ReferenceType) → (is_class_type t && (not c.interface && has_room_for_receiver c)) ≡ false → constructor_call c t ≡ refuses 66
no_constructor c (class_type name) e = cond-false (not c.interface && has_room_for_receiver c) (constructs name (arguments_on c.type.params [])) (refuses 66) e
no_constructor c (array_type x) e = refl
