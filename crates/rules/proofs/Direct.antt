-- The classes whose methods `invokespecial` may call by an InterfaceMethodref, and the notes about texts.
use Rattle.std.proofs.Common.{◌≡◌, ◌∙◌, ◌⊎◌, inl, inr, ℕ, zero, suc, Bool, true, false, not, ◌&&◌, ◌||◌, if◌then◌else◌, List, [], ◌∷◌, replicate, slice_get, slice_set, Option, Some, None, Result, Ok, Err, IfOk, refl, sym, ap, subst}
use Rattle.names.specs.MetNames.{is_met}
use Rattle.names.specs.ReferenceTypes.{ReferenceType, class_type, array_type, is_class_type}
use Rattle.pool.specs.Entries.{Entry}
use Rattle.pool.specs.Lookups.{text_at}
use Rattle.pool.specs.ConstantMeanings.{MethodConstant, method_at}
use Rattle.classfile.specs.declared.class_file.ClassFile.{ClassFile}
use Rattle.rules.specs.declared.direct_classes.DirectClasses.{DirectClasses}
use Rattle.classfile.specs.Methods.{Method}
use Rattle.insn.specs.Meanings.{Act}
use Rattle.insn.specs.Meanings as acts
use Rattle.rules.specs.Naming.{method_index}
use Rattle.rules.specs.Ways.{special_index}
use Rattle.rules.specs.Interfaces.{is_direct, is_direct_name, is_indirect, calls_indirect}
use Rattle.rules.specs.Guards.{interface_name, is_direct_of, AreDirect}
use Rattle.rules.proofs.Guarding.{method_named}

-- an entry of a list in which one was replaced is the new one, or stood there before
put_cases : {A : Type 0} (xs : List A) (at : ℕ) (x : A) (i : ℕ) (y : A) → slice_get (slice_set xs at x) i ≡ Some y → ((i ≡ at) × (x ≡ y)) ⊎ (slice_get xs i ≡ Some y)
put_cases [] at x i y e = inr e
put_cases (z ∷ xs) zero x zero y e = inl (refl, cc)
put_cases (z ∷ xs) zero x (suc i) y e = inr e
put_cases (z ∷ xs) (suc at) x zero y e = inr e
put_cases (z ∷ xs) (suc at) x (suc i) y e = next (put_cases xs at x i y e)
  where
    next : ((i ≡ at) × (x ≡ y)) ⊎ (slice_get xs i ≡ Some y) → ((suc i ≡ suc at) × (x ≡ y)) ⊎ (slice_get xs i ≡ Some y)
    next (inl h) = inl (ap suc h.0, h.1)
    next (inr h) = inr h

pub or_none : (b : Bool) → (b || false) ≡ b
or_none true = refl
or_none false = refl

pub one_text : {E : Type 0} (a b : List ℕ) → ◌≡◌ {A = Result (List ℕ) E} (Ok a) (Ok b) → a ≡ b
one_text a b e = cc

pub no_text : {E : Type 0} (e : E) (a : List ℕ) → ◌≡◌ {A = Result (List ℕ) E} (Err e) (Ok a) → ⊥
no_text e a k = cc

-- nothing is noted at first
pub none_noted : (n place : ℕ) (answer : Bool) → slice_get (replicate n None) place ≡ Some (Some answer) → ⊥
none_noted zero place answer e = cc
none_noted (suc n) zero answer e = cc
none_noted (suc n) (suc place) answer e = none_noted n place answer e

-- a right answer is noted
pub noted : (c : ClassFile) (old new : DirectClasses) (at : ℕ) (answer : Bool) → AreDirect c old → ((name : List ℕ) → text_at c.constant_pool at ≡ Ok name → answer ≡ is_direct_of c name)
    → new.names ≡ old.names → new.answers.items ≡ slice_set old.answers.items at (Some answer) → AreDirect c new
noted c old new at answer is right names items = record {
  names = λ name. ap (λ z. is_met z name) names ∙ is.names name;
  answers = λ place b name e there. by place b name (put_cases old.answers.items at (Some answer) place (Some b) (ap (λ z. slice_get z place) (sym items) ∙ e)) there;
}
  where
    some_bool : (x y : Bool) → Some x ≡ Some y → x ≡ y
    some_bool x y e = cc

    by : (place : ℕ) (b : Bool) (name : List ℕ) → ((place ≡ at) × (Some answer ≡ Some b)) ⊎ (slice_get old.answers.items place ≡ Some (Some b)) → text_at c.constant_pool place ≡ Ok name → b ≡ is_direct_of c name
    by place b name (inl h) there = sym (some_bool answer b h.1) ∙ right name (ap (text_at c.constant_pool) (sym h.0) ∙ there)
    by place b name (inr h) there = is.answers place b name h there

-- ---- a method by its constant

-- a class that is no array
record IsNamed (t : ReferenceType) : Type 0 where
  name : List ℕ
  is : t ≡ class_type name

named_class : (t : ReferenceType) → is_class_type t ≡ true → IsNamed t
named_class (class_type name) e = record { name = name; is = refl }
named_class (array_type component) e = absurd (cc)

none_where : (b : Bool) (index : ℕ) → (if b then Some index else None) ≡ None → b ≡ false
none_where true index e = absurd (cc)
none_where false index e = refl

some_where : (b : Bool) (index i : ℕ) → (if b then Some index else None) ≡ Some i → (b ≡ true) × (index ≡ i)
some_where true index i e = (refl, cc)
some_where false index i e = absurd (cc)

module _ (m : Method Act) (i : ℕ) (c : MethodConstant) (here : method_at m.constant_pool i ≡ Some c) (of_class : is_class_type c.class ≡ true) where
  -- it is none of an interface
  pub not_interface : interface_name m.constant_pool i ≡ None → false ≡ is_indirect m (Some c)
  not_interface none =
      let class = named_class c.class of_class in
      let there = method_named m.constant_pool i c class.name here class.is in
      let own : c.interface ≡ false = none_where c.interface there.index (sym there.leads ∙ none) in
      sym (ap (λ b. b && not (is_direct m c.class)) own)

  -- the name of its interface stands at this index
  pub other_interface : (index : ℕ) → interface_name m.constant_pool i ≡ Some index → (answer : Bool) → ((name : List ℕ) → text_at m.constant_pool index ≡ Ok name → answer ≡ is_direct_name m name)
      → not answer ≡ is_indirect m (Some c)
  other_interface index some answer right =
      let class = named_class c.class of_class in
      let there = method_named m.constant_pool i c class.name here class.is in
      let is = some_where c.interface there.index index (sym there.leads ∙ some) in
      let told : answer ≡ is_direct_name m class.name = right class.name (subst (λ k. text_at m.constant_pool k ≡ Ok class.name) is.1 there.text) in
      ap not (told ∙ ap (is_direct m) (sym class.is)) ∙ sym (ap (λ b. b && not (is_direct m c.class)) is.0)

-- it is what `invokespecial` calls
pub special_called : (m : Method Act) (a : Act) (i : ℕ) (c : MethodConstant) (b : Bool) → special_index a ≡ Some i → m.release ≡ true → method_at m.constant_pool i ≡ Some c → b ≡ is_indirect m (Some c)
    → b ≡ calls_indirect m a
special_called m (acts.InvokeSpecial j) i c b at release here e =
    let same : j ≡ i = cc in
    e ∙ sym (ap (λ r. r && is_indirect m (method_at m.constant_pool j)) release ∙ ap (λ k. is_indirect m (method_at m.constant_pool k)) same ∙ ap (is_indirect m) here)
special_called m a i c b at release here e = absurd (cc)

pub when_ok : {A E : Type 0} (P Q : A → Type 0) (r : Result A E) → ((a : A) → P a → Q a) → IfOk r P → IfOk r Q
when_ok P Q (Ok a) f p = f a p
when_ok P Q (Err e) f p = tt

pub special_method : (a : Act) (i : ℕ) → special_index a ≡ Some i → method_index a ≡ Some i
special_method (acts.InvokeSpecial j) i e = e
special_method a i e = absurd (cc)
