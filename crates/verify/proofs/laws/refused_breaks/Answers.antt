use Rattle.verify.proofs.verdicts.Breaks.{conditions_are_fields, refused_breaks, map_refused_breaks}
use Rattle.verify.proofs.laws.refused_breaks.Goals as goal

pub returns-clause-fields : goal.returns-clause-fields
returns-clause-fields c = conditions_are_fields

pub returns-clause-refusal : goal.returns-clause-refusal
returns-clause-refusal c = refused_breaks

pub returns-clause-stack_map : goal.returns-clause-stack_map
returns-clause-stack_map c = map_refused_breaks
