-- Well-formed class files (JVMS 4.1 to 4.7): no rule is broken at any place. Otherwise the first place where one is
-- broken is told, with the least number that is broken there.
use Rattle.std.specs.Prelude.{◌≡◌, ℕ, zero, suc, ◌<◌, List, [], take, slice_get, Option, Some, None, ⊤, Result, Ok, Err}
use Rattle.std.specs.Option.{option_map_or}
use Rattle.classfile.specs.declared.form_fault.FormRule.{FormRule}
use Rattle.classfile.specs.declared.form_fault.FormFault.{FormFault}
use Rattle.classfile.specs.declared.form_fault.FormFault.TheVariants.{OutOfMemory, Broken}
use Rattle.classfile.specs.declared.form_fault.Place.{Place}
use Rattle.classfile.specs.declared.form_fault.Place.TheVariants as places
use Rattle.classfile.specs.Values.{Class, Member}
use Rattle.classfile.specs.Conditions.{Condition, rule_number, broken_rule}
use Rattle.classfile.specs.ConstantForm.{constant_conditions}
use Rattle.classfile.specs.Flags.{has, INTERFACE}
use Rattle.classfile.specs.ClassForm.{class_conditions}
use Rattle.classfile.specs.release.Places as release
use Rattle.classfile.specs.release.Places.{rule_of_release}
use Rattle.classfile.specs.MemberForm.{is_repeated, field_conditions, method_conditions}

-- what may be wrong with the entry at an index, which counts from 1
abbrev pub entry_conditions : Class → ℕ → List Condition
entry_conditions c zero = []
entry_conditions c (suc k) = option_map_or (constant_conditions c.major_version c.constant_pool)
    (slice_get c.constant_pool k) []

abbrev pub conditions_of_field : Class → ℕ → Member → List Condition
conditions_of_field c n m = field_conditions c.constant_pool (is_repeated c.constant_pool (take n c.fields) m) m

abbrev pub conditions_of_method : Class → ℕ → Member → List Condition
conditions_of_method c n m =
    method_conditions c.constant_pool (has c.access_flags INTERFACE)
    (is_repeated c.constant_pool (take n c.methods) m) m

-- Where nothing stands, nothing is wrong. Fields and methods count from 0.
unfoldable pub conditions_at : Class → Place → List Condition
conditions_at c (places.Pool index) = entry_conditions c index
conditions_at c places.Class = class_conditions c
conditions_at c (places.Field n) = option_map_or (conditions_of_field c n) (slice_get c.fields n) []
conditions_at c (places.Method n) = option_map_or (conditions_of_method c n) (slice_get c.methods n) []

-- the first of two rules that there is
abbrev pub first_rule : Option FormRule → Option FormRule → Option FormRule
first_rule (Some rule) other = Some rule
first_rule None other = other

-- The rule that is reported at a place. One of a release is told where no other is broken there.
unfoldable pub fault_at : Class → Place → Option FormRule
fault_at c place =
    first_rule (broken_rule (conditions_at c place)) (rule_of_release c (release.conditions_at c place))

-- the pool goes before the class, the class before its fields, and they before its methods
abbrev pub IsBefore : Place → Place → Type 0
IsBefore (places.Pool i) (places.Pool j) = i < j
IsBefore (places.Pool i) q = ⊤
IsBefore places.Class (places.Field m) = ⊤
IsBefore places.Class (places.Method m) = ⊤
IsBefore (places.Field n) (places.Field m) = n < m
IsBefore (places.Field n) (places.Method m) = ⊤
IsBefore (places.Method n) (places.Method m) = n < m
IsBefore p q = ⊥

pub record WellFormed (c : Class) : Type 0 where
  pub everywhere : (p : Place) → fault_at c p ≡ None

pub record IsFirstFault (c : Class) (rule : FormRule) (place : Place) : Type 0 where
  pub here : fault_at c place ≡ Some rule
  pub earlier : (p : Place) → IsBefore p place → fault_at c p ≡ None

-- ---- what a fault tells

abbrev pub form_fault_number : FormFault → ℕ
form_fault_number OutOfMemory = 1
form_fault_number (Broken rule place) = rule_number rule

abbrev pub form_fault_place : FormFault → Option Place
form_fault_place OutOfMemory = None
form_fault_place (Broken rule place) = Some place

-- ---- steps

-- of the places of one kind, by their numbers, none has a fault; or the first that has one is reported; or memory ran
-- out
abbrev pub Passes : Class → (ℕ → Place) → Result (Unit {0}) FormFault → Type 0
Passes c place (Ok done) = (n : ℕ) → fault_at c (place n) ≡ None
Passes c place (Err OutOfMemory) = Unit {0}
Passes c place (Err (Broken rule p)) = (n : ℕ) × (p ≡ place n) × (fault_at c (place n) ≡ Some rule)
    × ((k : ℕ) → k < n → fault_at c (place k) ≡ None)

-- what is said where the check did not run out of memory
abbrev pub TellsFirst : Class → FormFault → Type 0
TellsFirst c OutOfMemory = Unit {0}
TellsFirst c (Broken rule place) = IsFirstFault c rule place
