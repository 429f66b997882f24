-- A refused look-up tells the first index on its path at which nothing fitting stands.
use Rattle.std.proofs.Common.{◌≡◌, ℕ, ◌-◌, ◌⊎◌, inl, inr, Bool, true, false, cond, List, [], ◌∷◌, ◌++◌, Option, Some, None, Result, Ok, Err, refl, sym, ap, subst, ◌∙◌, arith}
use Rattle.std.specs.Prelude.{nat_eq, slice_get}
use Rattle.pool.specs.declared.fault.PoolFault.{PoolFault}
use Rattle.pool.specs.declared.fault.PoolFault.TheVariants.{BadIndex, WrongKind}
use Rattle.pool.specs.Entries.{Entry, Utf8, Class, NameAndType, Fieldref, Methodref, InterfaceMethodref, Dynamic, InvokeDynamic, Unusable}
use Rattle.pool.specs.Lookups.{and_then, usable, entry_at, text_in, text_at, class_name_in, class_name_at, Named, named, name_and_type_in, name_and_type_at, FieldOf, member, field_ref_in, field_ref_at, MethodOf, method, method_ref_in, method_ref_at, dynamic_in, dynamic_at, invoke_dynamic_in, invoke_dynamic_at, StandsAt}
use Rattle.pool.specs.RefusedLookups.{Wanted, a_text, a_class, a_name_and_type, a_field, a_method, a_dynamic, an_invoke_dynamic, Step, leads, IsFirstMissing, nothing, unfit, behind}
use Rattle.pool.proofs.LookupLaws.{entry_stands, stands_entry, text_stands, class_stands}

-- ---- two steps

abbrev bad : {A : Type 0} → PoolFault → Result A PoolFault
bad fault = Err fault

same_fault : {A : Type 0} (f g : PoolFault) → bad {A = A} f ≡ bad g → f ≡ g
same_fault f g h = cc

refused : {A B : Type 0} (r : Result A PoolFault) (next : A → Result B PoolFault) (fault : PoolFault) → and_then r next ≡ Err fault
    → (r ≡ Err fault) ⊎ ((a : A) × (r ≡ Ok a) × (next a ≡ Err fault))
refused (Ok a) next fault h = inr (a, refl, h)
refused (Err e) next fault h = inl (ap Err (same_fault e fault h))

no_both : {A : Type 0} (r : Result A PoolFault) (a : A) (fault : PoolFault) → r ≡ Ok a → r ≡ Err fault → ⊥
no_both r a fault h k = absurd cc

-- ---- an entry

bad_use : (index : ℕ) (o : Option Entry) (fault : PoolFault) → usable index o ≡ Err fault → BadIndex index ≡ fault
bad_use index None fault h = same_fault (BadIndex index) fault h
bad_use index (Some Unusable) fault h = same_fault (BadIndex index) fault h
bad_use index (Some e) fault h = absurd cc

bad_entry : (es : List Entry) (index : ℕ) (fault : PoolFault) → entry_at es index ≡ Err fault → BadIndex index ≡ fault
unfolding entry_at
bad_entry es index fault h = by_zero (nat_eq index 0) h
  where
    by_zero : (b : Bool) → cond b (Err (BadIndex index)) (usable index (slice_get es (index - 1))) ≡ Err fault → BadIndex index ≡ fault
    by_zero true k = same_fault (BadIndex index) fault k
    by_zero false k = bad_use index (slice_get es (index - 1)) fault k

entry_missing : (es : List Entry) (index : ℕ) (wanted : Wanted) (rest : List Step) (fault : PoolFault) → entry_at es index ≡ Err fault → IsFirstMissing es ((index, wanted) ∷ rest) fault
entry_missing es index wanted rest fault h =
    subst (λ f. IsFirstMissing es ((index, wanted) ∷ rest) f) (bad_entry es index fault h)
    (nothing index wanted rest (λ e s. no_both (entry_at es index) e fault (stands_entry es index e s) h))

-- ---- a text

text_unfit : (es : List Entry) (index : ℕ) (rest : List Step) (fault : PoolFault) (e : Entry) → StandsAt es index e → text_in index e ≡ Err fault → IsFirstMissing es ((index, a_text) ∷ rest) fault
text_unfit es index rest fault (Utf8 bytes) s h = absurd cc
text_unfit es index rest fault e s h =
    subst (λ f. IsFirstMissing es ((index, a_text) ∷ rest) f) (same_fault (WrongKind index) fault h) (unfit index a_text rest e s refl)

pub text_missing : (es : List Entry) (index : ℕ) (rest : List Step) (fault : PoolFault) → text_at es index ≡ Err fault → IsFirstMissing es ((index, a_text) ∷ rest) fault
unfolding text_at
text_missing es index rest fault h = by_part (refused (entry_at es index) (text_in index) fault h)
  where
    by_part : (entry_at es index ≡ Err fault) ⊎ ((e : Entry) × (entry_at es index ≡ Ok e) × (text_in index e ≡ Err fault)) → IsFirstMissing es ((index, a_text) ∷ rest) fault
    by_part (inl k) = entry_missing es index a_text rest fault k
    by_part (inr k) = text_unfit es index rest fault k.0 (entry_stands es index k.0 k.1) k.2

text_on : (es : List Entry) (index : ℕ) (rest : List Step) (bytes : List ℕ) (fault : PoolFault) → text_at es index ≡ Ok bytes → IsFirstMissing es rest fault
    → IsFirstMissing es ((index, a_text) ∷ rest) fault
text_on es index rest bytes fault h more = behind index a_text rest (Utf8 bytes) [] fault (text_stands es index bytes h) refl more

-- ---- the name of a class

class_unfit : (es : List Entry) (index : ℕ) (rest : List Step) (fault : PoolFault) (e : Entry) → StandsAt es index e → class_name_in es index e ≡ Err fault → IsFirstMissing es ((index, a_class) ∷ rest) fault
class_unfit es index rest fault (Class name) s h =
    behind index a_class rest (Class name) ((name, a_text) ∷ []) fault s refl (text_missing es name rest fault h)
class_unfit es index rest fault e s h =
    subst (λ f. IsFirstMissing es ((index, a_class) ∷ rest) f) (same_fault (WrongKind index) fault h) (unfit index a_class rest e s refl)

pub class_missing : (es : List Entry) (index : ℕ) (rest : List Step) (fault : PoolFault) → class_name_at es index ≡ Err fault → IsFirstMissing es ((index, a_class) ∷ rest) fault
unfolding class_name_at
class_missing es index rest fault h = by_part (refused (entry_at es index) (class_name_in es index) fault h)
  where
    by_part : (entry_at es index ≡ Err fault) ⊎ ((e : Entry) × (entry_at es index ≡ Ok e) × (class_name_in es index e ≡ Err fault)) → IsFirstMissing es ((index, a_class) ∷ rest) fault
    by_part (inl k) = entry_missing es index a_class rest fault k
    by_part (inr k) = class_unfit es index rest fault k.0 (entry_stands es index k.0 k.1) k.2

class_on : (es : List Entry) (index : ℕ) (rest : List Step) (bytes : List ℕ) (fault : PoolFault) → class_name_at es index ≡ Ok bytes → IsFirstMissing es rest fault
    → IsFirstMissing es ((index, a_class) ∷ rest) fault
class_on es index rest bytes fault h more =
    let s = class_stands es index bytes h in
    behind index a_class rest (Class s.name) ((s.name, a_text) ∷ []) fault s.entry refl (behind s.name a_text rest (Utf8 bytes) [] fault s.text refl more)

-- ---- a name and a descriptor

pub named_missing : (es : List Entry) (name descriptor : ℕ) (rest : List Step) (fault : PoolFault) → named es name descriptor ≡ Err fault
    → IsFirstMissing es ((name, a_text) ∷ (descriptor, a_text) ∷ rest) fault
unfolding named
named_missing es name descriptor rest fault h =
    by_name (refused (text_at es name) (λ n. and_then (text_at es descriptor) (λ d. Ok (record { name = n; descriptor = d }))) fault h)
  where
    by_descriptor : (n : List ℕ) → text_at es name ≡ Ok n
        → (text_at es descriptor ≡ Err fault) ⊎ ((d : List ℕ) × (text_at es descriptor ≡ Ok d) × ((let r : Result Named PoolFault = Ok (record { name = n; descriptor = d }) in r) ≡ Err fault))
        → IsFirstMissing es ((name, a_text) ∷ (descriptor, a_text) ∷ rest) fault
    by_descriptor n here (inl k) = text_on es name ((descriptor, a_text) ∷ rest) n fault here (text_missing es descriptor rest fault k)
    by_descriptor n here (inr k) = let wrong = k.2 in absurd cc

    by_name : (text_at es name ≡ Err fault)
        ⊎ ((n : List ℕ) × (text_at es name ≡ Ok n) × (and_then (text_at es descriptor) (λ d. let r : Result Named PoolFault = Ok (record { name = n; descriptor = d }) in r) ≡ Err fault))
        → IsFirstMissing es ((name, a_text) ∷ (descriptor, a_text) ∷ rest) fault
    by_name (inl k) = text_missing es name ((descriptor, a_text) ∷ rest) fault k
    by_name (inr k) =
        by_descriptor k.0 k.1 (refused (text_at es descriptor) (λ d. Ok (record { name = k.0; descriptor = d })) fault k.2)

name_and_type_unfit : (es : List Entry) (index : ℕ) (rest : List Step) (fault : PoolFault) (e : Entry) → StandsAt es index e → name_and_type_in es index e ≡ Err fault
    → IsFirstMissing es ((index, a_name_and_type) ∷ rest) fault
name_and_type_unfit es index rest fault (NameAndType name descriptor) s h =
    behind index a_name_and_type rest (NameAndType name descriptor) ((name, a_text) ∷ (descriptor, a_text) ∷ []) fault s refl (named_missing es name descriptor rest fault h)
name_and_type_unfit es index rest fault e s h =
    subst (λ f. IsFirstMissing es ((index, a_name_and_type) ∷ rest) f) (same_fault (WrongKind index) fault h) (unfit index a_name_and_type rest e s refl)

pub name_and_type_missing : (es : List Entry) (index : ℕ) (rest : List Step) (fault : PoolFault) → name_and_type_at es index ≡ Err fault
    → IsFirstMissing es ((index, a_name_and_type) ∷ rest) fault
unfolding name_and_type_at
name_and_type_missing es index rest fault h = by_part (refused (entry_at es index) (name_and_type_in es index) fault h)
  where
    by_part : (entry_at es index ≡ Err fault) ⊎ ((e : Entry) × (entry_at es index ≡ Ok e) × (name_and_type_in es index e ≡ Err fault))
        → IsFirstMissing es ((index, a_name_and_type) ∷ rest) fault
    by_part (inl k) = entry_missing es index a_name_and_type rest fault k
    by_part (inr k) = name_and_type_unfit es index rest fault k.0 (entry_stands es index k.0 k.1) k.2

-- ---- a computed constant, and a call

dynamic_unfit : (es : List Entry) (index : ℕ) (rest : List Step) (fault : PoolFault) (e : Entry) → StandsAt es index e → dynamic_in es index e ≡ Err fault → IsFirstMissing es ((index, a_dynamic) ∷ rest) fault
dynamic_unfit es index rest fault (Dynamic bootstrap name_and_type) s h =
    behind index a_dynamic rest (Dynamic bootstrap name_and_type) ((name_and_type, a_name_and_type) ∷ []) fault s refl (name_and_type_missing es name_and_type rest fault h)
dynamic_unfit es index rest fault e s h =
    subst (λ f. IsFirstMissing es ((index, a_dynamic) ∷ rest) f) (same_fault (WrongKind index) fault h) (unfit index a_dynamic rest e s refl)

pub dynamic_missing : (es : List Entry) (index : ℕ) (rest : List Step) (fault : PoolFault) → dynamic_at es index ≡ Err fault → IsFirstMissing es ((index, a_dynamic) ∷ rest) fault
unfolding dynamic_at
dynamic_missing es index rest fault h = by_part (refused (entry_at es index) (dynamic_in es index) fault h)
  where
    by_part : (entry_at es index ≡ Err fault) ⊎ ((e : Entry) × (entry_at es index ≡ Ok e) × (dynamic_in es index e ≡ Err fault)) → IsFirstMissing es ((index, a_dynamic) ∷ rest) fault
    by_part (inl k) = entry_missing es index a_dynamic rest fault k
    by_part (inr k) = dynamic_unfit es index rest fault k.0 (entry_stands es index k.0 k.1) k.2

invoke_dynamic_unfit : (es : List Entry) (index : ℕ) (rest : List Step) (fault : PoolFault) (e : Entry) → StandsAt es index e → invoke_dynamic_in es index e ≡ Err fault → IsFirstMissing es ((index, an_invoke_dynamic) ∷ rest) fault
invoke_dynamic_unfit es index rest fault (InvokeDynamic bootstrap name_and_type) s h =
    behind index an_invoke_dynamic rest (InvokeDynamic bootstrap name_and_type) ((name_and_type, a_name_and_type) ∷ []) fault s refl (name_and_type_missing es name_and_type rest fault h)
invoke_dynamic_unfit es index rest fault e s h =
    subst (λ f. IsFirstMissing es ((index, an_invoke_dynamic) ∷ rest) f) (same_fault (WrongKind index) fault h) (unfit index an_invoke_dynamic rest e s refl)

pub invoke_dynamic_missing : (es : List Entry) (index : ℕ) (rest : List Step) (fault : PoolFault) → invoke_dynamic_at es index ≡ Err fault → IsFirstMissing es ((index, an_invoke_dynamic) ∷ rest) fault
unfolding invoke_dynamic_at
invoke_dynamic_missing es index rest fault h = by_part (refused (entry_at es index) (invoke_dynamic_in es index) fault h)
  where
    by_part : (entry_at es index ≡ Err fault) ⊎ ((e : Entry) × (entry_at es index ≡ Ok e) × (invoke_dynamic_in es index e ≡ Err fault)) → IsFirstMissing es ((index, an_invoke_dynamic) ∷ rest) fault
    by_part (inl k) = entry_missing es index an_invoke_dynamic rest fault k
    by_part (inr k) = invoke_dynamic_unfit es index rest fault k.0 (entry_stands es index k.0 k.1) k.2

-- ---- a field or a method of a class

member_missing : (es : List Entry) (class name_and_type : ℕ) (rest : List Step) (fault : PoolFault) → member es class name_and_type ≡ Err fault
    → IsFirstMissing es ((class, a_class) ∷ (name_and_type, a_name_and_type) ∷ rest) fault
unfolding member
member_missing es class name_and_type rest fault h =
    by_class (refused (class_name_at es class) (λ c. and_then (name_and_type_at es name_and_type) (λ n. Ok (record { class = c; name = n.name; descriptor = n.descriptor }))) fault h)
  where
    by_named : (c : List ℕ) → class_name_at es class ≡ Ok c
        → (name_and_type_at es name_and_type ≡ Err fault)
        ⊎ ((n : Named) × (name_and_type_at es name_and_type ≡ Ok n) × ((let r : Result FieldOf PoolFault = Ok (record { class = c; name = n.name; descriptor = n.descriptor }) in r) ≡ Err fault))
        → IsFirstMissing es ((class, a_class) ∷ (name_and_type, a_name_and_type) ∷ rest) fault
    by_named c here (inl k) =
        class_on es class ((name_and_type, a_name_and_type) ∷ rest) c fault here (name_and_type_missing es name_and_type rest fault k)
    by_named c here (inr k) = let wrong = k.2 in absurd cc

    by_class : (class_name_at es class ≡ Err fault)
        ⊎ ((c : List ℕ) × (class_name_at es class ≡ Ok c)
        × (and_then (name_and_type_at es name_and_type) (λ n. let r : Result FieldOf PoolFault = Ok (record { class = c; name = n.name; descriptor = n.descriptor }) in r) ≡ Err fault))
        → IsFirstMissing es ((class, a_class) ∷ (name_and_type, a_name_and_type) ∷ rest) fault
    by_class (inl k) = class_missing es class ((name_and_type, a_name_and_type) ∷ rest) fault k
    by_class (inr k) =
        by_named k.0 k.1 (refused (name_and_type_at es name_and_type) (λ n. Ok (record { class = k.0; name = n.name; descriptor = n.descriptor })) fault k.2)

field_unfit : (es : List Entry) (index : ℕ) (rest : List Step) (fault : PoolFault) (e : Entry) → StandsAt es index e → field_ref_in es index e ≡ Err fault → IsFirstMissing es ((index, a_field) ∷ rest) fault
field_unfit es index rest fault (Fieldref class name_and_type) s h =
    behind index a_field rest (Fieldref class name_and_type) ((class, a_class) ∷ (name_and_type, a_name_and_type) ∷ []) fault s refl (member_missing es class name_and_type rest fault h)
field_unfit es index rest fault e s h =
    subst (λ f. IsFirstMissing es ((index, a_field) ∷ rest) f) (same_fault (WrongKind index) fault h) (unfit index a_field rest e s refl)

pub field_missing : (es : List Entry) (index : ℕ) (rest : List Step) (fault : PoolFault) → field_ref_at es index ≡ Err fault → IsFirstMissing es ((index, a_field) ∷ rest) fault
unfolding field_ref_at
field_missing es index rest fault h = by_part (refused (entry_at es index) (field_ref_in es index) fault h)
  where
    by_part : (entry_at es index ≡ Err fault) ⊎ ((e : Entry) × (entry_at es index ≡ Ok e) × (field_ref_in es index e ≡ Err fault)) → IsFirstMissing es ((index, a_field) ∷ rest) fault
    by_part (inl k) = entry_missing es index a_field rest fault k
    by_part (inr k) = field_unfit es index rest fault k.0 (entry_stands es index k.0 k.1) k.2

-- a method is refused where its class, name or type is
of_member : (es : List Entry) (interface : Bool) (class name_and_type : ℕ) (fault : PoolFault) → method es interface class name_and_type ≡ Err fault → member es class name_and_type ≡ Err fault
unfolding method
of_member es interface class name_and_type fault h =
    by_part (refused (member es class name_and_type) (λ m. Ok (record { interface = interface; class = m.class; name = m.name; descriptor = m.descriptor })) fault h)
  where
    by_part : (member es class name_and_type ≡ Err fault)
        ⊎ ((m : FieldOf) × (member es class name_and_type ≡ Ok m)
        × ((let r : Result MethodOf PoolFault = Ok (record { interface = interface; class = m.class; name = m.name; descriptor = m.descriptor }) in r) ≡ Err fault))
        → member es class name_and_type ≡ Err fault
    by_part (inl k) = k
    by_part (inr k) = let wrong = k.2 in absurd cc

method_unfit : (es : List Entry) (index : ℕ) (rest : List Step) (fault : PoolFault) (e : Entry) → StandsAt es index e → method_ref_in es index e ≡ Err fault → IsFirstMissing es ((index, a_method) ∷ rest) fault
method_unfit es index rest fault (Methodref class name_and_type) s h =
    behind index a_method rest (Methodref class name_and_type) ((class, a_class) ∷ (name_and_type, a_name_and_type) ∷ []) fault s refl
    (member_missing es class name_and_type rest fault (of_member es false class name_and_type fault h))
method_unfit es index rest fault (InterfaceMethodref class name_and_type) s h =
    behind index a_method rest (InterfaceMethodref class name_and_type) ((class, a_class) ∷ (name_and_type, a_name_and_type) ∷ []) fault s refl
    (member_missing es class name_and_type rest fault (of_member es true class name_and_type fault h))
method_unfit es index rest fault e s h =
    subst (λ f. IsFirstMissing es ((index, a_method) ∷ rest) f) (same_fault (WrongKind index) fault h) (unfit index a_method rest e s refl)

pub method_missing : (es : List Entry) (index : ℕ) (rest : List Step) (fault : PoolFault) → method_ref_at es index ≡ Err fault → IsFirstMissing es ((index, a_method) ∷ rest) fault
unfolding method_ref_at
method_missing es index rest fault h = by_part (refused (entry_at es index) (method_ref_in es index) fault h)
  where
    by_part : (entry_at es index ≡ Err fault) ⊎ ((e : Entry) × (entry_at es index ≡ Ok e) × (method_ref_in es index e ≡ Err fault)) → IsFirstMissing es ((index, a_method) ∷ rest) fault
    by_part (inl k) = entry_missing es index a_method rest fault k
    by_part (inr k) = method_unfit es index rest fault k.0 (entry_stands es index k.0 k.1) k.2

-- ---- one at most

same_entry : (es : List Entry) (index : ℕ) (d e : Entry) → StandsAt es index d → StandsAt es index e → d ≡ e
same_entry es index d e s t =
    let place : s.place ≡ t.place = omega (arith, s.counted, t.counted) in
    same_some d e (sym s.here ∙ ap (slice_get es) place ∙ t.here)
  where
    same_some : (d e : Entry) → (let o : Option Entry = Some d in o) ≡ Some e → d ≡ e
    same_some d e h = cc

same_steps : (a b : List Step) → (let o : Option (List Step) = Some a in o) ≡ Some b → a ≡ b
same_steps a b h = cc

no_steps : (a : List Step) → (let o : Option (List Step) = None in o) ≡ Some a → ⊥
no_steps a h = absurd cc

pub one_missing : (es : List Entry) (path : List Step) (f g : PoolFault) → IsFirstMissing es path f → IsFirstMissing es path g → f ≡ g
one_missing es _ _ _ (nothing index wanted rest none) (nothing _ _ _ also) = refl
one_missing es _ _ _ (nothing index wanted rest none) (unfit _ _ _ e s u) = absurd (none e s)
one_missing es _ _ _ (nothing index wanted rest none) (behind _ _ _ e more fault s u next) = absurd (none e s)
one_missing es _ _ _ (unfit index wanted rest e s u) (nothing _ _ _ none) = absurd (none e s)
one_missing es _ _ _ (unfit index wanted rest e s u) (unfit _ _ _ d t v) = refl
one_missing es _ _ _ (unfit index wanted rest e s u) (behind _ _ _ d more fault t v next) =
    absurd (no_steps more (sym u ∙ ap (leads wanted) (same_entry es index e d s t) ∙ v))
one_missing es _ _ _ (behind index wanted rest e more fault s u next) (nothing _ _ _ none) = absurd (none e s)
one_missing es _ _ _ (behind index wanted rest e more fault s u next) (unfit _ _ _ d t v) =
    absurd (no_steps more (sym v ∙ ap (leads wanted) (same_entry es index d e t s) ∙ u))
one_missing es _ _ _ (behind index wanted rest e more fault s u next) (behind _ _ _ d others other t v then) =
    let same = same_steps others more (sym v ∙ ap (leads wanted) (same_entry es index d e t s) ∙ u) in
    one_missing es (more ++ rest) fault other next (subst (λ m. IsFirstMissing es (m ++ rest) other) same then)
