-- The places of a class file one after the other, and the first that has a fault.
use Rattle.std.proofs.Common.{◌≡◌, ◌<◌, ◌≤◌, ℕ, Some, None, Result, Ok, Err, MatchResult, refl, sym, ap, ◌∙◌, subst, arith, ◌⊎◌, inl, inr}
use Rattle.std.proofs.lemmas.Bool.{cases_lt}
use Rattle.std.proofs.lemmas.Option.{none-some}
use Rattle.classfile.specs.declared.form_fault.FormFault.{FormFault}
use Rattle.classfile.specs.declared.form_fault.FormFault.TheVariants.{OutOfMemory, Broken}
use Rattle.classfile.specs.declared.form_fault.FormRule.{FormRule}
use Rattle.classfile.specs.declared.form_fault.Place.{Place}
use Rattle.classfile.specs.declared.form_fault.Place.TheVariants as places
use Rattle.classfile.specs.Values.{Class}
use Rattle.classfile.specs.WellFormed.{fault_at, IsBefore, WellFormed, IsFirstFault, Passes, TellsFirst}
use Rattle.classfile.specs.FormLaws.{OneFirstFault}

-- ---- the steps

first_field : (c : Class) (rule : FormRule) (n : ℕ) → ((i : ℕ) → fault_at c (places.Pool i) ≡ None) → fault_at c places.Class ≡ None
    → fault_at c (places.Field n) ≡ Some rule → ((k : ℕ) → k < n → fault_at c (places.Field k) ≡ None) → IsFirstFault c rule (places.Field n)
first_field c rule n pool class here below = record { here = here; earlier = before }
  where
    before : (p : Place) → IsBefore p (places.Field n) → fault_at c p ≡ None
    before (places.Pool i) b = pool i
    before places.Class b = class
    before (places.Field k) b = below k b
    before (places.Method k) b = absurd b

first_method : (c : Class) (rule : FormRule) (n : ℕ) → ((i : ℕ) → fault_at c (places.Pool i) ≡ None) → fault_at c places.Class ≡ None
    → ((i : ℕ) → fault_at c (places.Field i) ≡ None) → fault_at c (places.Method n) ≡ Some rule → ((k : ℕ) → k < n → fault_at c (places.Method k) ≡ None)
    → IsFirstFault c rule (places.Method n)
first_method c rule n pool class fields here below = record { here = here; earlier = before }
  where
    before : (p : Place) → IsBefore p (places.Method n) → fault_at c p ≡ None
    before (places.Pool i) b = pool i
    before places.Class b = class
    before (places.Field k) b = fields k
    before (places.Method k) b = below k b

first_class : (c : Class) (rule : FormRule) → ((i : ℕ) → fault_at c (places.Pool i) ≡ None) → fault_at c places.Class ≡ Some rule → IsFirstFault c rule places.Class
first_class c rule pool here = record { here = here; earlier = before }
  where
    before : (p : Place) → IsBefore p places.Class → fault_at c p ≡ None
    before (places.Pool i) b = pool i
    before places.Class b = absurd b
    before (places.Field k) b = absurd b
    before (places.Method k) b = absurd b

first_entry : (c : Class) (rule : FormRule) (n : ℕ) → fault_at c (places.Pool n) ≡ Some rule → ((k : ℕ) → k < n → fault_at c (places.Pool k) ≡ None) → IsFirstFault c rule (places.Pool n)
first_entry c rule n here below = record { here = here; earlier = before }
  where
    before : (p : Place) → IsBefore p (places.Pool n) → fault_at c p ≡ None
    before (places.Pool i) b = below i b
    before places.Class b = absurd b
    before (places.Field k) b = absurd b
    before (places.Method k) b = absurd b

pub pool_told : (c : Class) (e : FormFault) → Passes c (λ n. places.Pool n) (Err e) → TellsFirst c e
pool_told c OutOfMemory h = tt
pool_told c (Broken rule p) (n, is, here, below) = subst (IsFirstFault c rule) (sym is) (first_entry c rule n here below)

pub class_told : (c : Class) → ((i : ℕ) → fault_at c (places.Pool i) ≡ None) → (e : FormFault) → Passes c (λ n. places.Class) (Err e) → TellsFirst c e
class_told c pool OutOfMemory h = tt
class_told c pool (Broken rule p) (n, is, here, below) = subst (IsFirstFault c rule) (sym is) (first_class c rule pool here)

pub fields_told : (c : Class) → ((i : ℕ) → fault_at c (places.Pool i) ≡ None) → (ℕ → fault_at c places.Class ≡ None)
    → (e : FormFault) → Passes c (λ n. places.Field n) (Err e) → TellsFirst c e
fields_told c pool class OutOfMemory h = tt
fields_told c pool class (Broken rule p) (n, is, here, below) = subst (IsFirstFault c rule) (sym is) (first_field c rule n pool (class 0) here below)

methods_told : (c : Class) → ((i : ℕ) → fault_at c (places.Pool i) ≡ None) → (ℕ → fault_at c places.Class ≡ None)
    → ((i : ℕ) → fault_at c (places.Field i) ≡ None) → (e : FormFault) → Passes c (λ n. places.Method n) (Err e) → TellsFirst c e
methods_told c pool class fields OutOfMemory h = tt
methods_told c pool class fields (Broken rule p) (n, is, here, below) = subst (IsFirstFault c rule) (sym is) (first_method c rule n pool (class 0) fields here below)

pub all_told : (c : Class) → ((i : ℕ) → fault_at c (places.Pool i) ≡ None) → (ℕ → fault_at c places.Class ≡ None)
    → ((i : ℕ) → fault_at c (places.Field i) ≡ None) → (r : Result (Unit {0}) FormFault) → Passes c (λ n. places.Method n) r → MatchResult r (λ _. WellFormed c) (TellsFirst c)
all_told c pool class fields (Ok done) methods = record { everywhere = each }
  where
    each : (p : Place) → fault_at c p ≡ None
    each (places.Pool i) = pool i
    each places.Class = class 0
    each (places.Field i) = fields i
    each (places.Method i) = methods i
all_told c pool class fields (Err e) h = methods_told c pool class fields e h

-- ---- one first fault

data Apart (p q : Place) : Type 0 where
  before : IsBefore p q → Apart p q
  same : p ≡ q → Apart p q
  behind : IsBefore q p → Apart p q

numbers : (place : ℕ → Place) (m n : ℕ) → (m < n → IsBefore (place m) (place n)) → (n < m → IsBefore (place n) (place m)) → Apart (place m) (place n)
numbers place m n less more = by_less (cases_lt m n) (cases_lt n m)
  where
    by_less : (m < n) ⊎ (n ≤ m) → (n < m) ⊎ (m ≤ n) → Apart (place m) (place n)
    by_less (inl lt) h = before (less lt)
    by_less (inr le) (inl lt) = behind (more lt)
    by_less (inr le) (inr ge) = let e : m ≡ n = omega (arith, le, ge) in same (ap place e)

apart : (p q : Place) → Apart p q
apart (places.Pool m) (places.Pool n) = numbers places.Pool m n (λ h. h) (λ h. h)
apart (places.Pool m) places.Class = before tt
apart (places.Pool m) (places.Field n) = before tt
apart (places.Pool m) (places.Method n) = before tt
apart places.Class (places.Pool n) = behind tt
apart places.Class places.Class = same refl
apart places.Class (places.Field n) = before tt
apart places.Class (places.Method n) = before tt
apart (places.Field m) (places.Pool n) = behind tt
apart (places.Field m) places.Class = behind tt
apart (places.Field m) (places.Field n) = numbers places.Field m n (λ h. h) (λ h. h)
apart (places.Field m) (places.Method n) = before tt
apart (places.Method m) (places.Pool n) = behind tt
apart (places.Method m) places.Class = behind tt
apart (places.Method m) (places.Field n) = behind tt
apart (places.Method m) (places.Method n) = numbers places.Method m n (λ h. h) (λ h. h)

some_same : (r s : FormRule) → Some r ≡ Some s → r ≡ s
some_same r s e = cc

pub one_fault : OneFirstFault
one_fault c r s p q f g = by_place (apart p q)
  where
    by_place : Apart p q → (r ≡ s) × (p ≡ q)
    by_place (before b) = absurd (none-some r (sym (g.earlier p b) ∙ f.here))
    by_place (same e) = (some_same r s (sym f.here ∙ ap (fault_at c) e ∙ g.here), e)
    by_place (behind b) = absurd (none-some s (sym (f.earlier q b) ∙ g.here))
