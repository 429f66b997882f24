use Rattle.names.proofs.NamesOfUnits.{unqualified_name_of_units, method_name_of_units, class_name_of_units}
use Rattle.names.proofs.name.names_by_units.Goals as goal

pub returns-clause-unqualified : goal.returns-clause-unqualified
returns-clause-unqualified c = unqualified_name_of_units

pub returns-clause-method : goal.returns-clause-method
returns-clause-method c = method_name_of_units

pub returns-clause-class : goal.returns-clause-class
returns-clause-class c = class_name_of_units
