-- The faults that a place of a class file may have, as a list of conditions with their numbers, and which of them is
-- told.
use Rattle.std.specs.Prelude.{◌≡◌, ℕ, ◌≤◌, ◌⊎◌, Bool, true, ◌&&◌, nat_lt, if◌then◌else◌, List, [], ◌∷◌, Option, Some, None}
use Rattle.classfile.specs.declared.form_fault.FormRule.{FormRule}
use Rattle.classfile.specs.declared.form_fault.FormRule.TheVariants.{BadIndex, WrongKind, BadName, BadDescriptor, BadFlags, Twice, CodeMissing, CodeNotAllowed, BadSuper, BadCodeLength, AttributeTwice, BadDebugTable, BadBootstrap}

abbrev pub rule_number : FormRule → ℕ
rule_number BadIndex = 20
rule_number WrongKind = 21
rule_number BadName = 22
rule_number BadDescriptor = 23
rule_number BadFlags = 24
rule_number Twice = 25
rule_number CodeMissing = 26
rule_number CodeNotAllowed = 27
rule_number BadSuper = 28
rule_number BadCodeLength = 29
rule_number AttributeTwice = 30
rule_number BadDebugTable = 87
rule_number BadBootstrap = 90

-- a rule, and whether it is broken
abbrev pub Condition : Type 0
Condition = FormRule × Bool

-- the first rule of the list that is broken
abbrev pub broken_rule : List Condition → Option FormRule
broken_rule [] = None
broken_rule (c ∷ others) = if c.1 then Some c.0 else broken_rule others

-- ---- where the numbers rise it is the one of the least number

-- the rule is in the list, and broken
abbrev pub IsBroken : List Condition → FormRule → Type 0
IsBroken [] rule = ⊥
IsBroken (c ∷ others) rule = ((c.0 ≡ rule) × (c.1 ≡ true)) ⊎ IsBroken others rule

-- of the rules that are broken it has the least number
pub record IsLeastBroken (conditions : List Condition) (rule : FormRule) : Type 0 where
  pub broken : IsBroken conditions rule
  pub least : (other : FormRule) → IsBroken conditions other → rule_number rule ≤ rule_number other

-- none of the rules is broken
pub record HasNoBroken (conditions : List Condition) : Type 0 where
  pub none : (rule : FormRule) → IsBroken conditions rule → ⊥

-- each number is larger than those before it, all of which are below this one
abbrev pub rises_from : ℕ → List Condition → Bool
rises_from n [] = true
rises_from n (c ∷ others) = nat_lt n (rule_number c.0) && rises_from (rule_number c.0) others
