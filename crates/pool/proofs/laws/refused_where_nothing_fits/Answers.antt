use Rattle.std.proofs.Common.{[]}
use Rattle.pool.proofs.RefusedLookups.{text_missing, class_missing, named_missing, name_and_type_missing, field_missing, method_missing, dynamic_missing, invoke_dynamic_missing, one_missing}
use Rattle.pool.proofs.laws.refused_where_nothing_fits.Goals as goal

pub returns-clause-refused : goal.returns-clause-refused
returns-clause-refused c = record {
  text = λ es index fault h. text_missing es index [] fault h;
  class_name = λ es index fault h. class_missing es index [] fault h;
  both = λ es name descriptor fault h. named_missing es name descriptor [] fault h;
  name_and_type = λ es index fault h. name_and_type_missing es index [] fault h;
  field_ref = λ es index fault h. field_missing es index [] fault h;
  method_ref = λ es index fault h. method_missing es index [] fault h;
  dynamic = λ es index fault h. dynamic_missing es index [] fault h;
  invoke_dynamic = λ es index fault h. invoke_dynamic_missing es index [] fault h;
}

pub returns-clause-one : goal.returns-clause-one
returns-clause-one c = one_missing
