-- Which rule of a release is told of a place of a class (JVMS 4.1 to 4.7).
use Rattle.std.specs.Prelude.{ℕ, zero, suc, List, [], slice_get, Option, Some, None, if◌then◌else◌}
use Rattle.std.specs.Option.{option_map_or}
use Rattle.classfile.specs.declared.form_fault.FormRule.{FormRule}
use Rattle.classfile.specs.declared.form_fault.Place.{Place}
use Rattle.classfile.specs.declared.form_fault.Place.TheVariants as places
use Rattle.classfile.specs.Conditions.{Condition, broken_rule}
use Rattle.classfile.specs.Values.{Class}
use Rattle.classfile.specs.release.Constants.{constant_conditions}
use Rattle.classfile.specs.release.ClassRules.{class_conditions}
use Rattle.classfile.specs.release.MemberRules.{field_conditions, method_conditions}

abbrev pub entry_conditions : Class → ℕ → List Condition
entry_conditions c zero = []
entry_conditions c (suc k) = option_map_or (constant_conditions c)
    (slice_get c.constant_pool k) []

unfoldable pub conditions_at : Class → Place → List Condition
conditions_at c (places.Pool index) = entry_conditions c index
conditions_at c places.Class = class_conditions c
conditions_at c (places.Field n) = option_map_or (field_conditions c) (slice_get c.fields n) []
conditions_at c (places.Method n) = option_map_or (method_conditions c) (slice_get c.methods n) []

-- of a class that is read as a release has it
abbrev pub rule_of_release : Class → List Condition → Option FormRule
rule_of_release c conditions = if c.release then broken_rule conditions else None
