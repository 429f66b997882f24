use Rattle.std.proofs.Common.{◌↔◌, IsTrue, ℕ, List, Bool, ap, ◌∙◌}
use Rattle.std.specs.Option.{is_none}
use Rattle.std.specs.Result.{is_ok}
use Rattle.names.specs.Reading.{field_answer, method_answer}
use Rattle.classfile.specs.Naming.{is_field_descriptor, is_method_descriptor, is_void_descriptor, has_no_result}
use Rattle.classfile.specs.FormLaws.{SpellsSomeField, SpellsSomeMethod, SpellsSomeVoidMethod}
use Rattle.classfile.proofs.NamingLaws.{class_name_is, is_class_name_so, unqualified_is, is_unqualified_so, method_name_is, is_method_name_so, ok_value, void_value}
use Rattle.classfile.proofs.laws.tests_are_forms.Goals as goal

pub returns-clause-names : goal.returns-clause-names
returns-clause-names c = record {
  class_name = λ bytes. (class_name_is bytes, is_class_name_so bytes);
  unqualified_name = λ bytes. (unqualified_is bytes, is_unqualified_so bytes);
  method_name = λ bytes. (method_name_is bytes, is_method_name_so bytes);
}

pub returns-clause-descriptors : goal.returns-clause-descriptors
returns-clause-descriptors c = record { field = fields; method = methods; void = voids }
  where
    fields : (bytes : List ℕ) → IsTrue (is_field_descriptor bytes) ↔ SpellsSomeField bytes
    fields bytes = (
      λ h. let v = ok_value (field_answer bytes) h in let s = (c.field_answers.ensures.named bytes v.0).0 v.1 in record { type = v.0; spelled = s.0; within = s.1 },
      λ s. ap is_ok ((c.field_answers.ensures.named bytes s.type).1 (s.spelled, s.within)),
    )

    methods : (receiver : Bool) (bytes : List ℕ) → IsTrue (is_method_descriptor receiver bytes) ↔ SpellsSomeMethod receiver bytes
    methods receiver bytes = (
      λ h. let v = ok_value (method_answer receiver bytes) h in let s = (c.method_answers.ensures.named receiver bytes v.0).0 v.1 in record { types = v.0; spelled = s.0; within = s.1; fits = s.2 },
      λ s. ap is_ok ((c.method_answers.ensures.named receiver bytes s.types).1 (s.spelled, s.within, s.fits)),
    )

    voids : (receiver : Bool) (bytes : List ℕ) → IsTrue (is_void_descriptor receiver bytes) ↔ SpellsSomeVoidMethod receiver bytes
    voids receiver bytes = (
      λ h. let v = void_value (method_answer receiver bytes) h in let s = (c.method_answers.ensures.named receiver bytes v.0).0 v.1 in
          record { method = record { types = v.0; spelled = s.0; within = s.1; fits = s.2 }; void = v.2 },
      λ s. ap has_no_result ((c.method_answers.ensures.named receiver bytes s.method.types).1 (s.method.spelled, s.method.within, s.method.fits)) ∙ ap is_none s.void,
    )
