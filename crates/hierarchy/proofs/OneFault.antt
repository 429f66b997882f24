-- A list of classes has one fault at most: it keeps the rules in front of the one that it breaks.
use Rattle.std.proofs.Common.{◌≡◌, ◌≢◌, ℕ, ◌+◌, ◌<◌, List, Some, refl, sym, subst, ◌∙◌, ap, inl, inr, arith}
use Rattle.std.specs.Prelude.{◌⊎◌, slice_get}
use Rattle.std.proofs.lemmas.Bool.{cases_order}
use Rattle.std.proofs.lemmas.Option.{slice_get_within}
use Rattle.hierarchy.specs.declared.fault.HierarchyFault.{HierarchyFault}
use Rattle.hierarchy.specs.declared.fault.HierarchyFault.TheVariants.{OutOfMemory, ClassTwice, Cycle, SuperMissing, NoObject, BadArrayInterface, TooManyClasses, InterfaceSuper}
use Rattle.hierarchy.specs.Class.{ClassFact}
use Rattle.hierarchy.specs.Rules.{IsTwice, IsOnCycle, LacksSuper, IsBadArrayInterface, HasWrongSuper, NoClass, IsFirst, IsHierarchy}
use Rattle.hierarchy.specs.Faults.{Rule, once, no_cycle, superclasses, object, array_interfaces, few_classes, interfaces, rule_number, Keeps, Breaks, KeepsBefore, FaultOf, number_of, fault_class, OneFault}

module _ (P : ClassFact → Type 0) (classes : List ClassFact) where
  pub none_first : (name : List ℕ) → NoClass P classes → IsFirst P classes name → ⊥
  none_first name none first = none first.0 (slice_get_within classes first.0 first.1 first.2) first.1 first.2 first.4

  some_same : (c d : ClassFact) → Some c ≡ Some d → c ≡ d
  some_same c d e = cc

  one_first : (a b : List ℕ) → IsFirst P classes a → IsFirst P classes b → a ≡ b
  one_first a b x y = by (cases_order x.0 y.0)
    where
      by : (x.0 ≡ y.0) ⊎ ((x.0 < y.0) ⊎ (y.0 < x.0)) → a ≡ b
      by (inl e) =
          let same : x.1 ≡ y.1 = some_same x.1 y.1 (sym x.2 ∙ ap (slice_get classes) e ∙ y.2) in
          sym x.3 ∙ ap (λ c. c.name) same ∙ y.3
      by (inr (inl lt)) = absurd (y.5 x.0 lt x.1 x.2 x.4)
      by (inr (inr lt)) = absurd (x.5 y.0 lt y.1 y.2 y.4)

same_rule : (one other : Rule) → rule_number one ≡ rule_number other → one ≡ other
same_rule once once e = refl
same_rule no_cycle no_cycle e = refl
same_rule superclasses superclasses e = refl
same_rule object object e = refl
same_rule array_interfaces array_interfaces e = refl
same_rule few_classes few_classes e = refl
same_rule interfaces interfaces e = refl
same_rule _ _ e = absurd (omega (arith, e))

-- the rules before one are kept, and it is
pub one_more : (classes : List ClassFact) (rule : Rule) → KeepsBefore classes (rule_number rule) → Keeps classes rule → KeepsBefore classes (rule_number rule + 1)
one_more classes rule before kept other lt = by (cases_order (rule_number other) (rule_number rule))
  where
    by : (rule_number other ≡ rule_number rule) ⊎ ((rule_number other < rule_number rule) ⊎ (rule_number rule < rule_number other)) → Keeps classes other
    by (inl e) = subst (Keeps classes) (sym (same_rule other rule e)) kept
    by (inr (inl less)) = before other less
    by (inr (inr more)) = absurd (omega (arith, lt, more))

-- no rule has a lesser number
pub none_before : (classes : List ClassFact) → KeepsBefore classes 40
none_before classes once lt = absurd (omega (arith, lt))
none_before classes no_cycle lt = absurd (omega (arith, lt))
none_before classes superclasses lt = absurd (omega (arith, lt))
none_before classes object lt = absurd (omega (arith, lt))
none_before classes array_interfaces lt = absurd (omega (arith, lt))
none_before classes few_classes lt = absurd (omega (arith, lt))
none_before classes interfaces lt = absurd (omega (arith, lt))

pub all_kept : (classes : List ClassFact) → IsHierarchy classes → (rule : Rule) → Keeps classes rule
all_kept classes h once = h.one_each
all_kept classes h no_cycle = h.acyclic
all_kept classes h superclasses = h.rooted
all_kept classes h object = h.object
all_kept classes h array_interfaces = h.arrays
all_kept classes h few_classes = h.few
all_kept classes h interfaces = h.interfaces

module _ (classes : List ClassFact) where
  -- a rule is not both kept and broken
  pub kept_or_broken : (fault : HierarchyFault) → Breaks classes fault → ((rule : Rule) → rule_number rule ≡ number_of fault → Keeps classes rule) → ⊥
  kept_or_broken OutOfMemory p k = p
  kept_or_broken (ClassTwice name) p k = none_first (IsTwice classes) classes name.now (k once refl) p
  kept_or_broken (Cycle name) p k = none_first (IsOnCycle classes) classes name.now (k no_cycle refl) p
  kept_or_broken (SuperMissing name) p k = none_first (LacksSuper classes) classes name.now (k superclasses refl) p
  kept_or_broken NoObject p k = p (k object refl)
  kept_or_broken (BadArrayInterface name) p k = none_first IsBadArrayInterface classes name.now (k array_interfaces refl) p
  kept_or_broken TooManyClasses p k = let few = k few_classes refl in absurd (omega (arith, few, p))
  kept_or_broken (InterfaceSuper name) p k = none_first HasWrongSuper classes name.now (k interfaces refl) p

  pub parts : (fault : HierarchyFault) → fault ≢ OutOfMemory → FaultOf classes fault → Breaks classes fault × KeepsBefore classes (number_of fault)
  parts OutOfMemory n f = absurd (n refl)
  parts (ClassTwice name) n f = f
  parts (Cycle name) n f = f
  parts (SuperMissing name) n f = f
  parts NoObject n f = f
  parts (BadArrayInterface name) n f = f
  parts TooManyClasses n f = f
  parts (InterfaceSuper name) n f = f

  -- a later fault says that the rule of an earlier one is kept
  not_later : (fault other : HierarchyFault) → number_of fault < number_of other → Breaks classes fault → KeepsBefore classes (number_of other) → ⊥
  not_later fault other lt p q = kept_or_broken fault p (λ rule e. q rule (omega (arith, lt, e)))

  -- of one number
  same_named : (fault other : HierarchyFault) → number_of fault ≡ number_of other → Breaks classes fault → Breaks classes other → fault_class fault ≡ fault_class other
  same_named OutOfMemory OutOfMemory e p q = refl
  same_named (ClassTwice a) (ClassTwice b) e p q = ap Some (one_first (IsTwice classes) classes a.now b.now p q)
  same_named (Cycle a) (Cycle b) e p q = ap Some (one_first (IsOnCycle classes) classes a.now b.now p q)
  same_named (SuperMissing a) (SuperMissing b) e p q = ap Some (one_first (LacksSuper classes) classes a.now b.now p q)
  same_named NoObject NoObject e p q = refl
  same_named (BadArrayInterface a) (BadArrayInterface b) e p q = ap Some (one_first IsBadArrayInterface classes a.now b.now p q)
  same_named TooManyClasses TooManyClasses e p q = refl
  same_named (InterfaceSuper a) (InterfaceSuper b) e p q = ap Some (one_first HasWrongSuper classes a.now b.now p q)
  same_named _ _ e p q = absurd (omega (arith, e))

  pub broken : (fault : HierarchyFault) → fault ≢ OutOfMemory → FaultOf classes fault → IsHierarchy classes → ⊥
  broken fault n f h = kept_or_broken fault (parts fault n f).0 (λ rule e. all_kept classes h rule)

pub one_fault : OneFault
one_fault classes fault other n m p q = by (cases_order (number_of fault) (number_of other)) (parts classes fault n p) (parts classes other m q)
  where
    by : (number_of fault ≡ number_of other) ⊎ ((number_of fault < number_of other) ⊎ (number_of other < number_of fault))
        → Breaks classes fault × KeepsBefore classes (number_of fault) → Breaks classes other × KeepsBefore classes (number_of other)
        → (number_of fault ≡ number_of other) × (fault_class fault ≡ fault_class other)
    by (inl e) one two = (e, same_named classes fault other e one.0 two.0)
    by (inr (inl lt)) one two = absurd (not_later classes fault other lt one.0 two.1)
    by (inr (inr lt)) one two = absurd (not_later classes other fault lt two.0 one.1)
