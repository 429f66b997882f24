use Rattle.pool.proofs.LookupLaws.{entry_stands, stands_entry, text_stands, stands_text, class_stands, stands_class, name_and_type_stands, stands_name_and_type, field_stands, stands_field, method_stands, stands_method, dynamic_stands, stands_dynamic, invoke_dynamic_stands, stands_invoke_dynamic}
use Rattle.pool.proofs.laws.found_where_it_stands.Goals as goal

pub returns-clause-entry : goal.returns-clause-entry
returns-clause-entry c = λ es index e. (entry_stands es index e, stands_entry es index e)

pub returns-clause-text : goal.returns-clause-text
returns-clause-text c = λ es index bytes. (text_stands es index bytes, stands_text es index bytes)

pub returns-clause-class_name : goal.returns-clause-class_name
returns-clause-class_name c = λ es index bytes. (class_stands es index bytes, stands_class es index bytes)

pub returns-clause-name_and_type : goal.returns-clause-name_and_type
returns-clause-name_and_type c = λ es index x. (name_and_type_stands es index x, stands_name_and_type es index x)

pub returns-clause-field_ref : goal.returns-clause-field_ref
returns-clause-field_ref c = λ es index x. (field_stands es index x, stands_field es index x)

pub returns-clause-method_ref : goal.returns-clause-method_ref
returns-clause-method_ref c = λ es index x. (method_stands es index x, stands_method es index x)

pub returns-clause-dynamic : goal.returns-clause-dynamic
returns-clause-dynamic c = λ es index x. (dynamic_stands es index x, stands_dynamic es index x)

pub returns-clause-invoke_dynamic : goal.returns-clause-invoke_dynamic
returns-clause-invoke_dynamic c = λ es index x. (invoke_dynamic_stands es index x, stands_invoke_dynamic es index x)
