-- Which rule is told of each place, where what stands there is at hand. Words of the code's own steps.
use Rattle.std.specs.Prelude.{Bool, Option}
use Rattle.pool.specs.Entries.{Entry}
use Rattle.classfile.specs.declared.form_fault.FormRule.{FormRule}
use Rattle.classfile.specs.Values.{Class, Member}
use Rattle.classfile.specs.Conditions.{broken_rule}
use Rattle.classfile.specs.ConstantForm.{constant_conditions}
use Rattle.classfile.specs.Flags.{has, INTERFACE}
use Rattle.classfile.specs.ClassForm.{class_conditions}
use Rattle.classfile.specs.MemberForm.{field_conditions, method_conditions}
use Rattle.classfile.specs.release.ClassRules as classes
use Rattle.classfile.specs.release.Constants as constants
use Rattle.classfile.specs.release.MemberRules as members
use Rattle.classfile.specs.release.Places.{rule_of_release}
use Rattle.classfile.specs.WellFormed.{first_rule}

-- the rule that is told of an entry, of the class, of a field and of a method
abbrev pub entry_told : Class → Entry → Option FormRule
entry_told c e = first_rule (broken_rule (constant_conditions c.major_version c.constant_pool e))
    (rule_of_release c (constants.constant_conditions c e))

abbrev pub class_told : Class → Option FormRule
class_told c = first_rule (broken_rule (class_conditions c)) (rule_of_release c (classes.class_conditions c))

abbrev pub field_told : Class → Bool → Member → Option FormRule
field_told c repeated m = first_rule (broken_rule (field_conditions c.constant_pool repeated m))
    (rule_of_release c (members.field_conditions c m))

abbrev pub method_told : Class → Bool → Member → Option FormRule
method_told c repeated m =
    first_rule (broken_rule (method_conditions c.constant_pool (has c.access_flags INTERFACE) repeated m))
    (rule_of_release c (members.method_conditions c m))
