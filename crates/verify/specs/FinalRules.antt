-- The rules on final classes and methods: no class has a final one as its direct superclass (JVMS 4.10.1,
-- classIsNotFinal), and no method overrides a final one (4.10, 5.4.5).
use Rattle.std.specs.Prelude.{ℕ, Bool, false, List, Option, Some, None, option_map, if◌then◌else◌}
use Rattle.hierarchy.specs.Class.{ClassFact, class_of}
use Rattle.hierarchy.specs.Overrides.{overriding_method}
use Rattle.verify.specs.declared.final_rules.FinalRule.{FinalRule}
use Rattle.verify.specs.declared.final_rules.FinalRule.TheVariants.{FinalSuper, FinalOverridden}

abbrev pub is_known_final : Option ClassFact → Bool
is_known_final None = false
is_known_final (Some fact) = fact.is_final

abbrev pub is_final_super : List ClassFact → Option (List ℕ) → Bool
is_final_super classes None = false
is_final_super classes (Some name) = is_known_final (class_of classes name)

-- the class of the hierarchy that is the superclass which a summary names
abbrev pub has_final_super : List ClassFact → ClassFact → Bool
has_final_super classes fact = is_final_super classes fact.superclass

-- the first of the rules that the class breaks, if it breaks one
abbrev pub final_rule : List ClassFact → ClassFact → Option FinalRule
final_rule classes fact =
    if has_final_super classes fact then Some FinalSuper
    else option_map (λ method. FinalOverridden method) (overriding_method classes fact)

abbrev pub final_rule_number : FinalRule → ℕ
final_rule_number FinalSuper = 81
final_rule_number (FinalOverridden method) = 85
