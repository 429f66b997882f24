-- Each class is well formed or has a first fault: its tables are searched one after the other.
use Rattle.std.proofs.Common.{◌≡◌, ◌<◌, ◌+◌, ℕ, zero, suc, List, length, Option, Some, None, Ok, Err, refl, arith, ◌⊎◌, inl, inr}
use Rattle.std.specs.Prelude.{slice_get}
use Rattle.classfile.specs.declared.form_fault.FormFault.TheVariants.{Broken}
use Rattle.classfile.specs.declared.form_fault.FormRule.{FormRule}
use Rattle.classfile.specs.declared.form_fault.Place.{Place}
use Rattle.classfile.specs.declared.form_fault.Place.TheVariants as places
use Rattle.classfile.specs.Values.{Class}
use Rattle.classfile.specs.WellFormed.{fault_at, WellFormed, IsFirstFault}
use Rattle.classfile.specs.FormLaws.{FormedOrFaulty}
use Rattle.classfile.proofs.FirstFaults.{pool_told, class_told, fields_told, all_told}
use Rattle.classfile.proofs.Places.{all_entries, earlier_entries, entry_past, field_past, method_past, none_at_all, none_more}

-- the first of the places of one kind that has a fault
abbrev Found : Class → (ℕ → Place) → Type 0
Found c place = (rule : FormRule) × (n : ℕ) × (fault_at c (place n) ≡ Some rule) × ((k : ℕ) → k < n → fault_at c (place k) ≡ None)

abbrev HasNone : Class → (ℕ → Place) → Type 0
HasNone c place = (n : ℕ) → fault_at c (place n) ≡ None

up_to : (c : Class) (place : ℕ → Place) (n : ℕ) → ((k : ℕ) → k < n → fault_at c (place k) ≡ None) ⊎ Found c place
up_to c place zero = inl (λ k lt. absurd (omega (arith, lt)))
up_to c place (suc n) = elim (up_to c place n) [ inl below ↦ here below (fault_at c (place n)) refl | inr found ↦ inr found ]
  where
    here : ((k : ℕ) → k < n → fault_at c (place k) ≡ None) → (o : Option FormRule) → fault_at c (place n) ≡ o
        → ((k : ℕ) → k < suc n → fault_at c (place k) ≡ None) ⊎ Found c place
    here below None none = inl (λ k lt. none_more c place n below none k (omega (arith, lt)))
    here below (Some rule) some = inr (rule, n, some, below)

in_table : {X : Type 0} (c : Class) (place : ℕ → Place) (xs : List X) → ((k : ℕ) → slice_get xs k ≡ None → fault_at c (place k) ≡ None)
    → HasNone c place ⊎ Found c place
in_table c place xs past =
    elim (up_to c place (length xs)) [ inl below ↦ inl (none_at_all c place xs past (length xs) (omega arith) below) | inr found ↦ inr found ]

abbrev Answer : Class → Type 0
Answer c = WellFormed c ⊎ ((rule : FormRule) × (place : Place) × IsFirstFault c rule place)

by_methods : (c : Class) → HasNone c (λ n. places.Pool n) → fault_at c places.Class ≡ None → HasNone c (λ n. places.Field n)
    → HasNone c (λ n. places.Method n) ⊎ Found c (λ n. places.Method n) → Answer c
by_methods c pool class fields (inl none) = inl (all_told c pool (λ k. class) fields (Ok tt) none)
by_methods c pool class fields (inr (rule, n, here, below)) =
    inr (rule, places.Method n, all_told c pool (λ k. class) fields (Err (Broken rule (places.Method n))) (n, refl, here, below))

of_partss : (c : Class) → HasNone c (λ n. places.Pool n) → fault_at c places.Class ≡ None
    → HasNone c (λ n. places.Field n) ⊎ Found c (λ n. places.Field n) → Answer c
of_partss c pool class (inl fields) = by_methods c pool class fields (in_table c (λ n. places.Method n) c.methods (method_past c))
of_partss c pool class (inr (rule, n, here, below)) =
    inr (rule, places.Field n, fields_told c pool (λ k. class) (Broken rule (places.Field n)) (n, refl, here, below))

by_class : (c : Class) → HasNone c (λ n. places.Pool n) → (o : Option FormRule) → fault_at c places.Class ≡ o → Answer c
by_class c pool None class = of_partss c pool class (in_table c (λ n. places.Field n) c.fields (field_past c))
by_class c pool (Some rule) here =
    inr (rule, places.Class, class_told c pool (Broken rule places.Class) (0, refl, here, λ k lt. absurd (omega (arith, lt))))

by_pool : (c : Class) → HasNone c (λ k. places.Pool (k + 1)) ⊎ Found c (λ k. places.Pool (k + 1)) → Answer c
by_pool c (inl each) = by_class c (all_entries c each) (fault_at c places.Class) refl
by_pool c (inr (rule, n, here, below)) =
    inr (rule, places.Pool (n + 1), pool_told c (Broken rule (places.Pool (n + 1))) (n + 1, refl, here, earlier_entries c n below))

pub formed_or_faulty : FormedOrFaulty
formed_or_faulty c = by_pool c (in_table c (λ k. places.Pool (k + 1)) c.constant_pool (entry_past c))
