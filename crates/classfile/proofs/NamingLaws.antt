-- The tests of names that compute are the forms of names.
use Rattle.std.proofs.Common.{◌≡◌, ◌<◌, ℕ, Bool, true, false, not, List, [], ◌∷◌, length, Option, Some, None, Result, Ok, Err, refl, arith}
use Rattle.std.specs.Option.{is_none}
use Rattle.std.specs.Result.{is_ok}
use Rattle.names.specs.declared.fault.NameFault.{NameFault}
use Rattle.names.specs.Descriptors.{FieldDescriptor, MethodDescriptor}
use Rattle.std.proofs.lemmas.Bool.{and_parts, and_from, false≢true}
use Rattle.std.proofs.lemmas.List.Sums.{AllPass-from_list_all, list_all-from_AllPass}
use Rattle.std.specs.List.{list_all}
use Rattle.names.specs.Names.{is_name_unit, is_angle, IsUnqualifiedName, IsMethodName, IsClassName}
use Rattle.names.proofs.ClassNameLaws.{class_name_from_ends, class_name_ends}
use Rattle.classfile.specs.Naming.{is_some_text, is_class_name, is_unqualified_name, is_method_name, has_no_result}

-- two answers to the same question
pub same : {P : Type 0} (a b : Bool) → (a ≡ true → P) → (P → a ≡ true) → (b ≡ true → P) → (P → b ≡ true) → a ≡ b
same true true f g h k = refl
same true false f g h k = absurd (false≢true (k (f refl)))
same false true f g h k = absurd (false≢true (g (h refl)))
same false false f g h k = refl

some : (bytes : List ℕ) → is_some_text bytes ≡ true → 0 < length bytes
some [] h = absurd (false≢true h)
some (b ∷ bytes) h = omega arith

is_some : (bytes : List ℕ) → 0 < length bytes → is_some_text bytes ≡ true
is_some [] h = absurd (omega arith)
is_some (b ∷ bytes) h = refl

pub class_name_is : (bytes : List ℕ) → is_class_name bytes ≡ true → IsClassName bytes
class_name_is bytes h = class_name_from_ends bytes h

pub is_class_name_so : (bytes : List ℕ) → IsClassName bytes → is_class_name bytes ≡ true
is_class_name_so bytes h = class_name_ends bytes h

pub unqualified_is : (bytes : List ℕ) → is_unqualified_name bytes ≡ true → IsUnqualifiedName bytes
unqualified_is bytes h =
    let p = and_parts (is_some_text bytes) (list_all is_name_unit bytes) h in
    record { some = some bytes p.0; each = AllPass-from_list_all is_name_unit bytes p.1 }

pub is_unqualified_so : (bytes : List ℕ) → IsUnqualifiedName bytes → is_unqualified_name bytes ≡ true
is_unqualified_so bytes h = and_from (is_some_text bytes) (list_all is_name_unit bytes) (is_some bytes h.some) (list_all-from_AllPass is_name_unit bytes h.each)

pub method_name_is : (bytes : List ℕ) → is_method_name bytes ≡ true → IsMethodName bytes
method_name_is bytes h =
    let p = and_parts (is_unqualified_name bytes) (list_all (λ u. not (is_angle u)) bytes) h in
    record { unqualified = unqualified_is bytes p.0; no_angle = AllPass-from_list_all (λ u. not (is_angle u)) bytes p.1 }

pub is_method_name_so : (bytes : List ℕ) → IsMethodName bytes → is_method_name bytes ≡ true
is_method_name_so bytes h =
    and_from (is_unqualified_name bytes) (list_all (λ u. not (is_angle u)) bytes) (is_unqualified_so bytes h.unqualified)
    (list_all-from_AllPass (λ u. not (is_angle u)) bytes h.no_angle)

-- ---- what a descriptor's answer holds

pub ok_value : {X : Type 0} (r : Result X NameFault) → is_ok r ≡ true → (x : X) × (r ≡ Ok x)
ok_value (Ok x) e = (x, refl)
ok_value (Err e) h = absurd (false≢true h)

pub void_value : (r : Result MethodDescriptor NameFault) → has_no_result r ≡ true → (m : MethodDescriptor) × (r ≡ Ok m) × (m.result ≡ None)
void_value (Ok m) e = (m, refl, none m.result e)
  where
    none : (o : Option FieldDescriptor) → is_none o ≡ true → o ≡ None
    none None e = refl
    none (Some t) e = absurd (false≢true e)
void_value (Err e) h = absurd (false≢true h)
