-- The answer for a text is the one that the grammar and the limits say.
use Rattle.std.proofs.Common.{◌≡◌, ℕ, ◌<◌, ◌≤◌, Bool, true, false, cond, ltb, List, [], ◌∷◌, get_or, Result, Ok, Err, refl, sym, ap, subst, ◌∙◌, inl, inr}
use Rattle.std.specs.List.{Any, list_any}
use Rattle.std.proofs.lemmas.Bool.{cases_Bool, ltb-true, ltb-false, lt-ltb, le-ltb, cond-true, cond-false, or_parts}
use Rattle.std.proofs.lemmas.List.Folds.{list_any_none, Any-from_list_any, list_any-from_Any}
use Rattle.std.proofs.lemmas.List.Elements.{All-from_recursion}
use Rattle.std.specs.List.{AllByRecursion}
use Rattle.names.specs.declared.fault.NameFault.{NameFault}
use Rattle.names.specs.declared.fault.NameFault.TheVariants.{OutOfMemory, BadText, BadDescriptor, TooManyDimensions, TooWide}
use Rattle.names.specs.Descriptors.{FieldDescriptor, MethodDescriptor, SpellsField, SpellsMethod, dimensions, field_types, method_width, IsWithinDimensions, AreWithinDimensions}
use Rattle.names.specs.Faults.{IsFieldFault, IsMethodFault, SpellsDeepField, SpellsDeepMethod, SpellsWideMethod}
use Rattle.names.specs.Reading.{whole, is_deep, limited_field, limited_method, field_answer, method_answer, read_field, read_method}
use Rattle.names.proofs.Readers.{spelled_is_whole, whole_is_spelled, not_whole_is_bad, bad_is_not_read, one_value}
use Rattle.names.proofs.FieldReader.{field_reader}
use Rattle.names.proofs.MethodReader.{method_reader}

pub one_field : (bytes : List ℕ) (s t : FieldDescriptor) → SpellsField bytes s → SpellsField bytes t → s ≡ t
one_field bytes s t h k = one_value read_field SpellsField field_reader bytes s t h k

pub one_method : (bytes : List ℕ) (m n : MethodDescriptor) → SpellsMethod bytes m → SpellsMethod bytes n → m ≡ n
one_method bytes m n h k = one_value read_method SpellsMethod method_reader bytes m n h k

-- ---- limits

all_shallow : (types : List FieldDescriptor) → list_any is_deep types ≡ false → AllByRecursion IsWithinDimensions types
all_shallow [] h = tt
all_shallow (t ∷ types) h =
    let p = or_parts (is_deep t) (list_any is_deep types) h in
    (ltb-false 255 (dimensions t) p.0, all_shallow types p.1)

pub shallow : (m : MethodDescriptor) → list_any is_deep (field_types m) ≡ false → AreWithinDimensions m
shallow m h = All-from_recursion IsWithinDimensions (field_types m) (all_shallow (field_types m) h)

pub not_deep : (m : MethodDescriptor) → AreWithinDimensions m → list_any is_deep (field_types m) ≡ false
not_deep m h = list_any_none is_deep (field_types m) (λ k d lt. le-ltb 255 (dimensions (get_or (field_types m) k d)) (h k d lt))

deep_type : (types : List FieldDescriptor) → list_any is_deep types ≡ true → Any (λ t. 255 < dimensions t) types
deep_type types h =
    let w = Any-from_list_any is_deep types h in
    (w.0, w.1, w.2, w.3, ltb-true 255 (dimensions w.1) w.4)

deep_found : (types : List FieldDescriptor) → Any (λ t. 255 < dimensions t) types → list_any is_deep types ≡ true
deep_found types w = list_any-from_Any is_deep types (w.0, w.1, w.2, w.3, lt-ltb 255 (dimensions w.1) w.4)

-- ---- fields

abbrev FieldResult : Type 0
FieldResult = Result FieldDescriptor NameFault

abbrev refused_field : NameFault → FieldResult
refused_field e = Err e

abbrev named_field : FieldDescriptor → FieldResult
named_field t = Ok t

same_fault : (d e : NameFault) → refused_field d ≡ Err e → d ≡ e
same_fault d e is = cc

same_field : (s t : FieldDescriptor) → named_field s ≡ Ok t → s ≡ t
same_field s t is = cc

field_limits : (o : FieldResult) (t : FieldDescriptor) → limited_field o ≡ Ok t → (o ≡ Ok t) × (dimensions t ≤ 255)
field_limits (Err e) t is = absurd cc
field_limits (Ok s) t is =
    elim (cases_Bool (is_deep s)) [
      | inl deep ↦ absurd (let no_type : refused_field TooManyDimensions ≡ Ok t = sym (cond-true (is_deep s) _ _ deep) ∙ is in cc)
      | inr fits ↦
          let same = same_field s t (sym (cond-false (is_deep s) _ _ fits) ∙ is) in
          (ap named_field same, subst (λ (x : FieldDescriptor). dimensions x ≤ 255) same (ltb-false 255 (dimensions s) fits))
    ]

pub field_answered : (bytes : List ℕ) (t : FieldDescriptor) → field_answer bytes ≡ Ok t → SpellsField bytes t × (dimensions t ≤ 255)
unfolding field_answer
field_answered bytes t is =
    let p = field_limits (whole bytes (read_field bytes)) t is in
    (whole_is_spelled read_field SpellsField field_reader bytes t p.0, p.1)

pub field_spelled : (bytes : List ℕ) (t : FieldDescriptor) → SpellsField bytes t → dimensions t ≤ 255 → field_answer bytes ≡ Ok t
unfolding field_answer
field_spelled bytes t h le = ap limited_field (spelled_is_whole read_field SpellsField field_reader bytes t h) ∙ cond-false (is_deep t) _ _ (le-ltb 255 (dimensions t) le)

pub field_refused : (bytes : List ℕ) (e : NameFault) → field_answer bytes ≡ Err e → IsFieldFault bytes e
unfolding field_answer
field_refused bytes e is = by_answer (whole bytes (read_field bytes)) refl is
  where
    by_answer : (o : FieldResult) → whole bytes (read_field bytes) ≡ o → limited_field o ≡ Err e → IsFieldFault bytes e
    by_answer (Err d) was is =
        let bad = not_whole_is_bad read_field SpellsField field_reader bytes d was in
        subst (IsFieldFault bytes) (sym bad.is ∙ same_fault d e is) bad.bad
    by_answer (Ok t) was is =
        elim (cases_Bool (is_deep t)) [
          | inl deep ↦ subst (IsFieldFault bytes) (same_fault TooManyDimensions e (sym (cond-true (is_deep t) _ _ deep) ∙ is))
              (let w : SpellsDeepField bytes = record { type = t; spelled = whole_is_spelled read_field SpellsField field_reader bytes t was; deep = ltb-true 255 (dimensions t) deep } in w)
          | inr fits ↦ absurd (let no_fault : named_field t ≡ Err e = sym (cond-false (is_deep t) _ _ fits) ∙ is in cc)
        ]

pub field_fault : (bytes : List ℕ) (e : NameFault) → IsFieldFault bytes e → field_answer bytes ≡ Err e
unfolding field_answer
field_fault bytes OutOfMemory h = absurd h
field_fault bytes (BadText place) h = absurd h
field_fault bytes (BadDescriptor place) h = ap limited_field (bad_is_not_read read_field SpellsField field_reader bytes place h)
field_fault bytes TooManyDimensions h =
    ap limited_field (spelled_is_whole read_field SpellsField field_reader bytes h.type h.spelled) ∙ cond-true (is_deep h.type) _ _ (lt-ltb 255 (dimensions h.type) h.deep)
field_fault bytes TooWide h = absurd h

-- ---- methods

abbrev MethodResult : Type 0
MethodResult = Result MethodDescriptor NameFault

abbrev refused_method : NameFault → MethodResult
refused_method e = Err e

abbrev named_method : MethodDescriptor → MethodResult
named_method m = Ok m

same_method_fault : (d e : NameFault) → refused_method d ≡ Err e → d ≡ e
same_method_fault d e is = cc

same_method : (m n : MethodDescriptor) → named_method m ≡ Ok n → m ≡ n
same_method m n is = cc

abbrev is_too_deep : MethodDescriptor → Bool
is_too_deep m = list_any is_deep (field_types m)

abbrev is_too_wide : Bool → MethodDescriptor → Bool
is_too_wide receiver m = ltb 255 (method_width m receiver)

-- the limits' cases
data Limited (receiver : Bool) (m : MethodDescriptor) : MethodResult → Type 0 where
  deep : Any (λ t. 255 < dimensions t) (field_types m) → Limited receiver m (Err TooManyDimensions)
  wide : AreWithinDimensions m → 255 < method_width m receiver → Limited receiver m (Err TooWide)
  fits : AreWithinDimensions m → method_width m receiver ≤ 255 → Limited receiver m (Ok m)

limited : (receiver : Bool) (m : MethodDescriptor) → Limited receiver m (limited_method receiver (Ok m))
limited receiver m = by_depth (is_too_deep m) refl
  where
    by_width : AreWithinDimensions m → (b : Bool) → is_too_wide receiver m ≡ b → Limited receiver m (cond b (Err TooWide) (Ok m))
    by_width h true e = wide h (ltb-true _ _ e)
    by_width h false e = fits h (ltb-false _ _ e)

    by_depth : (b : Bool) → is_too_deep m ≡ b → Limited receiver m (cond b (Err TooManyDimensions) (cond (is_too_wide receiver m) (Err TooWide) (Ok m)))
    by_depth true e = deep (deep_type (field_types m) e)
    by_depth false e = by_width (shallow m e) (is_too_wide receiver m) refl

pub method_answered : (receiver : Bool) (bytes : List ℕ) (m : MethodDescriptor) → method_answer receiver bytes ≡ Ok m → SpellsMethod bytes m × AreWithinDimensions m × (method_width m receiver ≤ 255)
unfolding method_answer
method_answered receiver bytes m is = by_answer (whole bytes (read_method bytes)) refl is
  where
    by_limit : (n : MethodDescriptor) → SpellsMethod bytes n → (o : MethodResult) → Limited receiver n o → o ≡ Ok m → SpellsMethod bytes m × AreWithinDimensions m × (method_width m receiver ≤ 255)
    by_limit n h _ (deep d) e = absurd cc
    by_limit n h _ (wide w k) e = absurd cc
    by_limit n h _ (fits w k) e = subst (λ (x : MethodDescriptor). SpellsMethod bytes x × AreWithinDimensions x × (method_width x receiver ≤ 255)) (same_method n m e) (h, w, k)

    by_answer : (o : MethodResult) → whole bytes (read_method bytes) ≡ o → limited_method receiver o ≡ Ok m → SpellsMethod bytes m × AreWithinDimensions m × (method_width m receiver ≤ 255)
    by_answer (Err e) was is = absurd cc
    by_answer (Ok n) was is = by_limit n (whole_is_spelled read_method SpellsMethod method_reader bytes n was) (limited_method receiver (Ok n)) (limited receiver n) is

pub method_refused : (receiver : Bool) (bytes : List ℕ) (e : NameFault) → method_answer receiver bytes ≡ Err e → IsMethodFault receiver bytes e
unfolding method_answer
method_refused receiver bytes e is = by_answer (whole bytes (read_method bytes)) refl is
  where
    by_limit : (n : MethodDescriptor) → SpellsMethod bytes n → (o : MethodResult) → Limited receiver n o → o ≡ Err e → IsMethodFault receiver bytes e
    by_limit n h _ (deep d) is =
        subst (IsMethodFault receiver bytes) (same_method_fault TooManyDimensions e is) (let w : SpellsDeepMethod bytes = record { type = n; spelled = h; deep = d } in w)
    by_limit n h _ (wide w k) is =
        subst (IsMethodFault receiver bytes) (same_method_fault TooWide e is) (let v : SpellsWideMethod receiver bytes = record { type = n; spelled = h; within = w; wide = k } in v)
    by_limit n h _ (fits w k) is = absurd cc

    by_answer : (o : MethodResult) → whole bytes (read_method bytes) ≡ o → limited_method receiver o ≡ Err e → IsMethodFault receiver bytes e
    by_answer (Err d) was is =
        let bad = not_whole_is_bad read_method SpellsMethod method_reader bytes d was in
        subst (IsMethodFault receiver bytes) (sym bad.is ∙ same_method_fault d e is) bad.bad
    by_answer (Ok n) was is = by_limit n (whole_is_spelled read_method SpellsMethod method_reader bytes n was) (limited_method receiver (Ok n)) (limited receiver n) is

pub method_spelled : (receiver : Bool) (bytes : List ℕ) (m : MethodDescriptor) → SpellsMethod bytes m → AreWithinDimensions m → method_width m receiver ≤ 255 → method_answer receiver bytes ≡ Ok m
unfolding method_answer
method_spelled receiver bytes m h w le =
    ap (limited_method receiver) (spelled_is_whole read_method SpellsMethod method_reader bytes m h)
    ∙ cond-false (is_too_deep m) _ _ (not_deep m w)
    ∙ cond-false (is_too_wide receiver m) _ _ (le-ltb 255 (method_width m receiver) le)

pub method_fault : (receiver : Bool) (bytes : List ℕ) (e : NameFault) → IsMethodFault receiver bytes e → method_answer receiver bytes ≡ Err e
unfolding method_answer
method_fault receiver bytes OutOfMemory h = absurd h
method_fault receiver bytes (BadText place) h = absurd h
method_fault receiver bytes (BadDescriptor place) h = ap (limited_method receiver) (bad_is_not_read read_method SpellsMethod method_reader bytes place h)
method_fault receiver bytes TooManyDimensions h =
    ap (limited_method receiver) (spelled_is_whole read_method SpellsMethod method_reader bytes h.type h.spelled) ∙ cond-true (is_too_deep h.type) _ _ (deep_found (field_types h.type) h.deep)
method_fault receiver bytes TooWide h =
    ap (limited_method receiver) (spelled_is_whole read_method SpellsMethod method_reader bytes h.type h.spelled)
    ∙ cond-false (is_too_deep h.type) _ _ (not_deep h.type h.within)
    ∙ cond-true (is_too_wide receiver h.type) _ _ (lt-ltb 255 (method_width h.type receiver) h.wide)
