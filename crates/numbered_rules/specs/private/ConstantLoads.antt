-- Constants that are loaded, where their kind gives them no type.
use Rattle.std.specs.Prelude.{ℕ, Bool, true, false, if◌then◌else◌, Option, Some}
use Rattle.names.specs.Descriptors.{FieldDescriptor}
use Rattle.pool.specs.Entries as entries
use Rattle.pool.specs.Entries.{Entry}
use Rattle.classfile.specs.Bootstraps.{has_bootstrap}
use Rattle.classfile.specs.Methods.{Method}
use Rattle.insn.specs.Meanings.{Act}
use Rattle.rules.specs.ReasonNumbers.{wrong_constant}
use Rattle.rules.specs.TypingRules.{TypingRule, refuses, where_judged}
use Rattle.rules.specs.Constants.{load_constant, load_dynamic, load_wide_constant}

abbrev pub units_by : Bool → ℕ
units_by wide = if wide then 2 else 1

-- a Dynamic of a type that takes so many units
abbrev pub load_computed : Method Act → ℕ → Option FieldDescriptor → Option Entry → TypingRule
load_computed m units type (Some (entries.Dynamic bootstrap name)) =
    where_judged m.dynamic (load_dynamic units (has_bootstrap m.constant_pool m.bootstraps bootstrap) type)
load_computed m units type _ = refuses wrong_constant

-- a constant of two units, or of one
abbrev pub load_by : Bool → Method Act → Option FieldDescriptor → Option Entry → TypingRule
load_by true m type o = load_wide_constant m type o
load_by false m type o = load_constant m type o
