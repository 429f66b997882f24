-- The numbers of the types that the rules of a method's instructions ask for.
use Rattle.std.specs.Prelude.{option_map}
use Rattle.names.specs.StandardNames.{object_name, throwable_name}
use Rattle.classfile.specs.Methods.{Method}
use Rattle.insn.specs.Meanings.{Act}
use Rattle.frames.specs.VerificationType.{class as class_of}
use Rattle.frames.specs.Slots.{descriptor_type}
use Rattle.type_numbers.specs.Numbers.{Numbering, IsNumber, IsNumberOf}
use Rattle.type_numbers.specs.Constants.{IsTable}
use Rattle.numbered_rules.specs.Expected.{objects as array_of_objects}
use Rattle.numbered_rules.specs.declared.rule_numbers.RuleNumbers.{RuleNumbers}

-- these are the constants of the method's class, and the numbers of the types
pub record AreRuleNumbers (s : Numbering) (m : Method Act) (x : RuleNumbers) : Type 0 where
  pub table : IsTable s m.constant_pool x.table.now
  pub object : IsNumber s x.object (class_of object_name)
  pub objects : IsNumber s x.objects array_of_objects
  pub throwable : IsNumber s x.throwable (class_of throwable_name)
  pub class : IsNumber s x.class (class_of m.class)
  pub superclass : IsNumberOf s x.superclass (option_map class_of m.superclass)
  pub returned : IsNumberOf s x.returned (option_map descriptor_type m.type.result)
