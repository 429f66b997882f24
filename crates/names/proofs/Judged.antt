-- From answers in words that compute to the words of the grammar.
use Rattle.std.proofs.Common.{◌≡◌, ℕ, ◌-◌, ◌<◌, ◌≤◌, Bool, true, false, List, [], ◌∷◌, length, Result, Ok, Err, refl, sym, ap, ◌∙◌, arith, inl, inr, ◌⊎◌}
use Rattle.std.specs.Prelude.{map, vec_len, IfOk, IfErr, IsOkAnd, IsErrAnd, MatchResult}
use Rattle.std.proofs.lemmas.Bool.{lt-ltb, le-ltb, cond-true, cond-false}
use Rattle.std.proofs.lemmas.List.{length-append, length-map, nil_from_length}
use Rattle.names.specs.declared.fault.NameFault.{NameFault}
use Rattle.names.specs.declared.fault.NameFault.TheVariants.{OutOfMemory, BadDescriptor, TooManyDimensions}
use Rattle.names.specs.declared.descriptor.FieldType.{FieldType}
use Rattle.names.specs.declared.descriptor.MethodType.{MethodType}
use Rattle.names.specs.declared.reading.FieldRead.{FieldRead}
use Rattle.names.specs.Descriptors.{FieldDescriptor, MethodDescriptor, SpellsField, SpellsMethod, dimensions, method_width, AreWithinDimensions}
use Rattle.names.specs.Faults.{IsFieldFault, IsMethodFault}
use Rattle.names.specs.Types.{type_of, method_of}
use Rattle.names.specs.ReadTypes.{type_read, IsLimited}
use Rattle.names.specs.Answers.{IsFieldAnswer, IsMethodAnswer}
use Rattle.names.specs.Reading.{Reading, found, outside, whole, is_deep, limited_field, limited_method, field_answer, method_answer, read_field, read_method}
use Rattle.names.proofs.AnswerLaws.{field_answered, field_spelled, field_refused, field_fault, method_answered, method_spelled, method_refused, method_fault}
use Rattle.names.proofs.FieldReader.{field_reader}
use Rattle.names.proofs.MethodReader.{method_reader}
use Rattle.names.proofs.Written.{dimensions_of_dimensioned, many_are_wide}

-- ---- steps of judging a field

pub rest_within : (bytes rest : List ℕ) (t : FieldDescriptor) → read_field bytes ≡ found t rest → length rest ≤ length bytes
rest_within bytes rest t e = let s = field_reader.sound bytes rest t e in omega (arith, ap length s.parts, length-append s.front rest)

pub stop_within : (bytes rest : List ℕ) → read_field bytes ≡ outside rest → length rest ≤ length bytes
stop_within bytes rest e = let s = field_reader.stops bytes rest e in omega (arith, ap length s.parts, length-append s.front rest)

pub answer_outside : (bytes rest : List ℕ) → read_field bytes ≡ outside rest → field_answer bytes ≡ Err (BadDescriptor (length bytes - length rest))
unfolding field_answer
answer_outside bytes rest e = ap (λ (r : Reading FieldDescriptor). limited_field (whole bytes r)) e

pub whole_over : {A : Type 0} (bytes rest : List ℕ) (a : A) → (length rest ≡ 0 → ⊥) → whole bytes (found a rest) ≡ Err (BadDescriptor (length bytes - length rest))
whole_over bytes [] a some = absurd (some refl)
whole_over bytes (b ∷ rest) a some = refl

pub answer_over : (bytes rest : List ℕ) (t : FieldDescriptor) → read_field bytes ≡ found t rest → (length rest ≡ 0 → ⊥) → field_answer bytes ≡ Err (BadDescriptor (length bytes - length rest))
unfolding field_answer
answer_over bytes rest t e some = ap (λ (r : Reading FieldDescriptor). limited_field (whole bytes r)) e ∙ ap limited_field (whole_over bytes rest t some)

answer_limited : (bytes rest : List ℕ) (t : FieldDescriptor) → read_field bytes ≡ found t rest → length rest ≡ 0 → field_answer bytes ≡ limited_field (Ok t)
unfolding field_answer
answer_limited bytes rest t e none =
    ap (λ (r : Reading FieldDescriptor). limited_field (whole bytes r)) e ∙ ap (λ (x : List ℕ). limited_field (whole bytes (found t x))) (nil_from_length rest none)

-- what the limit says of a type with so many dimensions
pub deep_read : (f : FieldRead) → 255 < f.dims → is_deep (type_read f) ≡ true
deep_read f h = lt-ltb 255 (dimensions (type_read f)) (omega (arith, dimensions_of_dimensioned f.dims f.base))

pub shallow_read : (f : FieldRead) → f.dims ≤ 255 → is_deep (type_read f) ≡ false
shallow_read f h = le-ltb 255 (dimensions (type_read f)) (omega (arith, dimensions_of_dimensioned f.dims f.base))

pub judged_field : (bytes rest : List ℕ) (f : FieldRead) (r : Result FieldType NameFault) → read_field bytes ≡ found (type_read f) rest → length rest ≡ 0
    → IfOk r (λ g. (type_of g ≡ type_read f) × (f.dims ≤ 255)) → IfErr r (λ e. (e ≡ TooManyDimensions) × (255 < f.dims)) → IsFieldAnswer bytes r
judged_field bytes rest f (Ok g) e none within deep =
    answer_limited bytes rest (type_read f) e none ∙ cond-false (is_deep (type_read f)) _ _ (shallow_read f within.1) ∙ ap Ok (sym within.0)
judged_field bytes rest f (Err g) e none within deep =
    answer_limited bytes rest (type_read f) e none ∙ cond-true (is_deep (type_read f)) _ _ (deep_read f deep.1) ∙ ap Err (sym deep.0)

-- ---- the public words

pub field_is_found : (bytes : List ℕ) (r : Result FieldType NameFault) → IsFieldAnswer bytes r → IfOk r (λ f. SpellsField bytes (type_of f))
field_is_found bytes (Ok f) h = (field_answered bytes (type_of f) h).0
field_is_found bytes (Err e) h = tt

same_named : (s t : FieldDescriptor) → (let x : Result FieldDescriptor NameFault = Ok s in x) ≡ Ok t → s ≡ t
same_named s t e = cc

no_named : (t : FieldDescriptor) (e : NameFault) → (let x : Result FieldDescriptor NameFault = Ok t in x) ≡ Err e → ⊥
no_named t e is = cc

same_fault : (d e : NameFault) → (let x : Result FieldDescriptor NameFault = Err d in x) ≡ Err e → d ≡ e
same_fault d e is = cc

pub field_is_accepted : (bytes : List ℕ) (r : Result FieldType NameFault) → IsFieldAnswer bytes r → (t : FieldDescriptor) → SpellsField bytes t → dimensions t ≤ 255 → IsOkAnd r (λ f. type_of f ≡ t)
field_is_accepted bytes (Ok f) h t s le = same_named (type_of f) t (sym h ∙ field_spelled bytes t s le)
field_is_accepted bytes (Err e) h t s le = no_named t e (sym (field_spelled bytes t s le) ∙ h)

pub field_is_faulty : (bytes : List ℕ) (r : Result FieldType NameFault) → IsFieldAnswer bytes r → IfErr r (λ e. IsFieldFault bytes e)
field_is_faulty bytes (Ok f) h = tt
field_is_faulty bytes (Err e) h = field_refused bytes e h

pub field_is_refused : (bytes : List ℕ) (r : Result FieldType NameFault) → IsFieldAnswer bytes r → (e : NameFault) → IsFieldFault bytes e → r ≡ Err e
field_is_refused bytes (Ok f) h e k = absurd (no_named (type_of f) e (sym h ∙ field_fault bytes e k))
field_is_refused bytes (Err d) h e k = ap Err (same_fault d e (sym h ∙ field_fault bytes e k))

-- ---- the same of methods

same_method : (m n : MethodDescriptor) → (let x : Result MethodDescriptor NameFault = Ok m in x) ≡ Ok n → m ≡ n
same_method m n e = cc

no_method : (m : MethodDescriptor) (e : NameFault) → (let x : Result MethodDescriptor NameFault = Ok m in x) ≡ Err e → ⊥
no_method m e is = cc

same_refusal : (d e : NameFault) → (let x : Result MethodDescriptor NameFault = Err d in x) ≡ Err e → d ≡ e
same_refusal d e is = cc

pub method_is_found : (receiver : Bool) (bytes : List ℕ) (r : Result MethodType NameFault) → IsMethodAnswer receiver bytes r → IfOk r (λ m. SpellsMethod bytes (method_of m))
method_is_found receiver bytes (Ok m) h = (method_answered receiver bytes (method_of m) h).0
method_is_found receiver bytes (Err e) h = tt

pub method_is_accepted : (receiver : Bool) (bytes : List ℕ) (r : Result MethodType NameFault) → IsMethodAnswer receiver bytes r → (m : MethodDescriptor) → SpellsMethod bytes m → AreWithinDimensions m → method_width m receiver ≤ 255
    → MatchResult r (λ v. method_of v ≡ m) (λ e. e ≡ OutOfMemory)
method_is_accepted receiver bytes (Ok v) h m s w le = same_method (method_of v) m (sym h ∙ method_spelled receiver bytes m s w le)
method_is_accepted receiver bytes (Err e) (inl memory) m s w le = memory
method_is_accepted receiver bytes (Err e) (inr h) m s w le = absurd (no_method m e (sym (method_spelled receiver bytes m s w le) ∙ h))

pub method_is_faulty : (receiver : Bool) (bytes : List ℕ) (r : Result MethodType NameFault) → IsMethodAnswer receiver bytes r → IfErr r (λ e. (e ≡ OutOfMemory) ⊎ IsMethodFault receiver bytes e)
method_is_faulty receiver bytes (Ok m) h = tt
method_is_faulty receiver bytes (Err e) (inl memory) = inl memory
method_is_faulty receiver bytes (Err e) (inr h) = inr (method_refused receiver bytes e h)

pub method_is_refused : (receiver : Bool) (bytes : List ℕ) (r : Result MethodType NameFault) → IsMethodAnswer receiver bytes r → (e : NameFault) → IsMethodFault receiver bytes e → IsErrAnd r (λ d. (d ≡ OutOfMemory) ⊎ (d ≡ e))
method_is_refused receiver bytes (Ok m) h e k = no_method (method_of m) e (sym h ∙ method_fault receiver bytes e k)
method_is_refused receiver bytes (Err d) (inl memory) e k = inl memory
method_is_refused receiver bytes (Err d) (inr h) e k = inr (same_refusal d e (sym h ∙ method_fault receiver bytes e k))

-- ---- steps of judging a method

pub method_rest_within : (bytes rest : List ℕ) (m : MethodDescriptor) → read_method bytes ≡ found m rest → length rest ≤ length bytes
method_rest_within bytes rest m e = let s = method_reader.sound bytes rest m e in omega (arith, ap length s.parts, length-append s.front rest)

pub method_answer_outside : (receiver : Bool) (bytes rest : List ℕ) → read_method bytes ≡ outside rest → method_answer receiver bytes ≡ Err (BadDescriptor (length bytes - length rest))
unfolding method_answer
method_answer_outside receiver bytes rest e = ap (λ (r : Reading MethodDescriptor). limited_method receiver (whole bytes r)) e

pub method_answer_over : (receiver : Bool) (bytes rest : List ℕ) (m : MethodDescriptor) → read_method bytes ≡ found m rest → (length rest ≡ 0 → ⊥) → method_answer receiver bytes ≡ Err (BadDescriptor (length bytes - length rest))
unfolding method_answer
method_answer_over receiver bytes rest m e some = ap (λ (r : Reading MethodDescriptor). limited_method receiver (whole bytes r)) e ∙ ap (limited_method receiver) (whole_over bytes rest m some)

pub method_answer_limited : (receiver : Bool) (bytes rest : List ℕ) (m : MethodDescriptor) → read_method bytes ≡ found m rest → length rest ≡ 0 → method_answer receiver bytes ≡ limited_method receiver (Ok m)
unfolding method_answer
method_answer_limited receiver bytes rest m e none =
    ap (λ (r : Reading MethodDescriptor). limited_method receiver (whole bytes r)) e ∙ ap (λ (x : List ℕ). limited_method receiver (whole bytes (found m x))) (nil_from_length rest none)

pub judged_method : (receiver : Bool) (bytes rest : List ℕ) (m : MethodDescriptor) (r : Result MethodType NameFault) → read_method bytes ≡ found m rest → length rest ≡ 0 → IsLimited receiver m r → IsMethodAnswer receiver bytes r
judged_method receiver bytes rest m (Ok v) e none h = method_answer_limited receiver bytes rest m e none ∙ h
judged_method receiver bytes rest m (Err d) e none h = inr (method_answer_limited receiver bytes rest m e none ∙ h)

pub method_is_within : (receiver : Bool) (bytes : List ℕ) (r : Result MethodType NameFault) → IsMethodAnswer receiver bytes r → IfOk r (λ m. AreWithinDimensions (method_of m) × (method_width (method_of m) receiver ≤ 255))
method_is_within receiver bytes (Ok m) h = let p = method_answered receiver bytes (method_of m) h in (p.1, p.2)
method_is_within receiver bytes (Err e) h = tt

pub method_has_few : (receiver : Bool) (bytes : List ℕ) (r : Result MethodType NameFault) → IsMethodAnswer receiver bytes r → IfOk r (λ m. vec_len m.params ≤ 255)
method_has_few receiver bytes (Ok m) h =
    let p = method_answered receiver bytes (method_of m) h in
    omega (arith, p.2, many_are_wide (map type_of m.params.items), length-map m.params.items type_of, m.params.ok.0)
method_has_few receiver bytes (Err e) h = tt
