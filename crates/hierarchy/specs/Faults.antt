-- Which fault of a list of classes is returned: that of the first rule that the list breaks, in the order of their
-- numbers, with the name of the first class that breaks it, in the list's order. No section of the standard numbers
-- these faults.
use Rattle.std.specs.Prelude.{◌≡◌, ◌≢◌, ◌↔◌, ℕ, ◌≤◌, ◌<◌, List, Option, Some, None, length}
use Rattle.hierarchy.specs.declared.fault.HierarchyFault.{HierarchyFault}
use Rattle.hierarchy.specs.declared.fault.HierarchyFault.TheVariants.{OutOfMemory, ClassTwice, Cycle, SuperMissing, NoObject, BadArrayInterface, TooManyClasses, InterfaceSuper}
use Rattle.hierarchy.specs.Class.{ClassFact}
use Rattle.hierarchy.specs.Rules.{IsTwice, IsOnCycle, LacksSuper, HasObject, IsBadArrayInterface, HasWrongSuper, NoClass, IsFirst, IsHierarchy}

-- the rules of a hierarchy
pub data Rule : Type 0 where
  once no_cycle superclasses object array_interfaces few_classes interfaces : Rule

-- the number by which a list that breaks the rule is refused
abbrev pub rule_number : Rule → ℕ
rule_number once = 40
rule_number no_cycle = 41
rule_number superclasses = 42
rule_number object = 43
rule_number array_interfaces = 44
rule_number few_classes = 45
rule_number interfaces = 46

-- a list keeps the rule
abbrev pub Keeps : List ClassFact → Rule → Type 0
Keeps classes once = NoClass (IsTwice classes) classes
Keeps classes no_cycle = NoClass (IsOnCycle classes) classes
Keeps classes superclasses = NoClass (LacksSuper classes) classes
Keeps classes object = HasObject classes
Keeps classes array_interfaces = NoClass IsBadArrayInterface classes
Keeps classes few_classes = length classes ≤ 65535
Keeps classes interfaces = NoClass HasWrongSuper classes

-- a list breaks the rule of the fault: the first class by which it does has the name
abbrev pub Breaks : List ClassFact → HierarchyFault → Type 0
Breaks classes OutOfMemory = ⊥
Breaks classes (ClassTwice name) = IsFirst (IsTwice classes) classes name.now
Breaks classes (Cycle name) = IsFirst (IsOnCycle classes) classes name.now
Breaks classes (SuperMissing name) = IsFirst (LacksSuper classes) classes name.now
Breaks classes NoObject = HasObject classes → ⊥
Breaks classes (BadArrayInterface name) = IsFirst IsBadArrayInterface classes name.now
Breaks classes TooManyClasses = 65535 < length classes
Breaks classes (InterfaceSuper name) = IsFirst HasWrongSuper classes name.now

-- a list keeps all rules before the one of this number
abbrev pub KeepsBefore : List ClassFact → ℕ → Type 0
KeepsBefore classes number = (rule : Rule) → rule_number rule < number → Keeps classes rule

-- the number of the refusal
abbrev pub number_of : HierarchyFault → ℕ
number_of OutOfMemory = 1
number_of (ClassTwice _) = 40
number_of (Cycle _) = 41
number_of (SuperMissing _) = 42
number_of NoObject = 43
number_of (BadArrayInterface _) = 44
number_of TooManyClasses = 45
number_of (InterfaceSuper _) = 46

-- the class that a fault names
abbrev pub fault_class : HierarchyFault → Option (List ℕ)
fault_class OutOfMemory = None
fault_class (ClassTwice name) = Some name.now
fault_class (Cycle name) = Some name.now
fault_class (SuperMissing name) = Some name.now
fault_class NoObject = None
fault_class (BadArrayInterface name) = Some name.now
fault_class TooManyClasses = None
fault_class (InterfaceSuper name) = Some name.now

-- Memory ran out, of which nothing is said; or the rule is broken, and none before it is.
abbrev pub FaultOf : List ClassFact → HierarchyFault → Type 0
FaultOf classes OutOfMemory = Unit {0}
FaultOf classes fault = Breaks classes fault × KeepsBefore classes (number_of fault)

-- a hierarchy is a list that keeps all rules
abbrev pub RulesMakeHierarchies : Type 0
RulesMakeHierarchies = (classes : List ClassFact) → IsHierarchy classes ↔ ((rule : Rule) → Keeps classes rule)

-- a list that is refused is not a hierarchy, apart from memory running out
abbrev pub FaultsBreakRules : Type 0
FaultsBreakRules = (classes : List ClassFact) (fault : HierarchyFault) → fault ≢ OutOfMemory → FaultOf classes fault
    → IsHierarchy classes → ⊥

-- a list has one fault at most, apart from memory running out, and it names one class
abbrev pub OneFault : Type 0
OneFault =
    (classes : List ClassFact) (fault other : HierarchyFault) → fault ≢ OutOfMemory → other ≢ OutOfMemory
    → FaultOf classes fault → FaultOf classes other
    → (number_of fault ≡ number_of other) × (fault_class fault ≡ fault_class other)
