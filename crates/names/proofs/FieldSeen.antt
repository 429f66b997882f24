-- A text that is one type is a field's descriptor, and each answer's meaning.
use Rattle.std.proofs.Common.{◌≡◌, ℕ, ◌≤◌, true, List, length, drop, Result, Ok, Err, refl, ap, ◌∙◌}
use Rattle.std.specs.Result.{is_ok}
use Rattle.std.proofs.lemmas.Bool.{cond-false, false≢true}
use Rattle.std.proofs.lemmas.List.{nil_from_length}
use Rattle.names.specs.declared.fault.NameFault.{NameFault}
use Rattle.names.specs.declared.descriptor.FieldType.{FieldType}
use Rattle.names.specs.Answers.{IsFieldAnswer}
use Rattle.names.specs.Descriptors.{FieldDescriptor, SpellsField, dimensions}
use Rattle.names.specs.Reading.{Reading, found, whole, is_deep, limited_field, field_answer}
use Rattle.names.specs.private.TypeEnds.{ReadsType}
use Rattle.names.proofs.AnswerLaws.{field_answered, field_spelled}
use Rattle.names.proofs.ShapeSeen.{nothing_over}

pub one_type_is : (bytes : List ℕ) (end : ℕ) → ReadsType bytes 0 end → end ≡ length bytes → is_ok (field_answer bytes) ≡ true
unfolding field_answer
one_type_is bytes end t all =
    ap (λ (r : Reading FieldDescriptor). is_ok (limited_field (whole bytes r))) (t.reads ∙ ap (found t.type) (nil_from_length (drop end bytes) (nothing_over bytes end all)))
    ∙ ap is_ok (cond-false (is_deep t.type) _ _ t.shallow)

pub spelled_is_ok : (bytes : List ℕ) (t : FieldDescriptor) → SpellsField bytes t → dimensions t ≤ 255 → is_ok (field_answer bytes) ≡ true
spelled_is_ok bytes t s within = ap is_ok (field_spelled bytes t s within)

pub ok_is_spelled : (bytes : List ℕ) → is_ok (field_answer bytes) ≡ true → (t : FieldDescriptor) × SpellsField bytes t × (dimensions t ≤ 255)
ok_is_spelled bytes h = by_answer (field_answer bytes) refl h
  where
    by_answer : (r : Result FieldDescriptor NameFault) → field_answer bytes ≡ r → is_ok r ≡ true → (t : FieldDescriptor) × SpellsField bytes t × (dimensions t ≤ 255)
    by_answer (Ok t) e k = let p = field_answered bytes t e in (t, p.0, p.1)
    by_answer (Err f) e k = absurd (false≢true k)

pub answer_is_ok : (bytes : List ℕ) (r : Result FieldType NameFault) → IsFieldAnswer bytes r → is_ok (field_answer bytes) ≡ is_ok r
answer_is_ok bytes (Ok f) h = ap is_ok h
answer_is_ok bytes (Err e) h = ap is_ok h
