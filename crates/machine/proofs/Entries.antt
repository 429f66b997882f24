-- The exception table, and how long code is.
use Rattle.std.specs.Prelude.{nat_eq, nat_lt, ◌||◌}
use Rattle.std.specs.Option.{option_and_then}
use Rattle.std.specs.List.{list_any}
use Rattle.std.proofs.Common.{◌≡◌, ℕ, ◌+◌, ◌<◌, ◌≤◌, Bool, true, false, List, [], ◌∷◌, ◌++◌, length, get_or, drop, map, slice_get, Option, Some, None, refl, sym, ◌∙◌, ap, arith}
use Rattle.std.proofs.lemmas.Bool.Decides.{nat_tests}
use Rattle.std.proofs.lemmas.List.{drop_more, drop_all, append_assoc, append-nil, map-append}
use Rattle.names.specs.ReferenceTypes.{ReferenceType}
use Rattle.pool.specs.Entries.{Entry}
use Rattle.classfile.specs.AttributeForm.{on_body, has_bad_length, have_bad_length}
use Rattle.classfile.specs.MethodParts.{code_at}
use Rattle.classfile.specs.WellFormed.{WellFormed, conditions_of_method}
use Rattle.classfile.proofs.FormedMethods.{formed_method}
use Rattle.classfile.proofs.FormedNames.{none_holds}
use Rattle.classfile.proofs.Places.{own_rule, method_is}
use Rattle.classfile.specs.declared.code.ExceptionHandler.{ExceptionHandler}
use Rattle.classfile.specs.declared.form_fault.Place.TheVariants as places
use Rattle.classfile.specs.Values.{of_parts, of_numbers, raw, Handler, CodeBody, Attribute, Member, Class}
use Rattle.classfile.specs.Views.{handler_view}
use Rattle.classfile.specs.Methods.{ExceptionEntry, IsEntry, caught_type, entry_with, exception_entries, code_of}
use Rattle.machine.specs.declared.body.ExceptionEntry.{ExceptionEntry as RawEntry}
use Rattle.machine.specs.Bodies.{entry_view}

-- these, and then those, if they are there
abbrev pub onto : List ExceptionEntry → Option (List ExceptionEntry) → Option (List ExceptionEntry)
onto xs None = None
onto xs (Some ys) = Some (xs ++ ys)

pub onto_entry : (xs : List ExceptionEntry) (h : Handler) (e : ExceptionEntry) (c : Option ReferenceType) (o : Option (List ExceptionEntry)) → c ≡ Some e.caught → e ≡ record { from = h.start_pc; to = h.end_pc; handler = h.handler_pc; caught = e.caught }
    → onto xs (entry_with h c o) ≡ onto (xs ++ e ∷ []) o
onto_entry xs h e c None is same = ap (λ z. onto xs (entry_with h z None)) is
onto_entry xs h e c (Some ys) is same =
    ap (λ z. onto xs (entry_with h z (Some ys))) is ∙ ap (λ z. Some (xs ++ z ∷ ys)) (sym same) ∙ ap Some (sym (append_assoc xs (e ∷ []) ys))

module _ (pool : List Entry) (table : List ExceptionHandler) (i : ℕ) where
  module _ (d : ExceptionHandler) (lt : i < length table) where
    here : exception_entries pool (map handler_view (drop i table)) ≡ entry_with (handler_view (get_or table i d)) (caught_type pool (get_or table i d).catch_type) (exception_entries pool (map handler_view (drop (i + 1) table)))
    here = ap (λ z. exception_entries pool (map handler_view z)) (drop_more table i d lt)

    pub entry_next : (was now : List RawEntry) (e : RawEntry) → now ≡ was ++ e ∷ [] → IsEntry pool (handler_view (get_or table i d)) (entry_view e)
        → onto (map entry_view was) (exception_entries pool (map handler_view (drop i table))) ≡ onto (map entry_view now) (exception_entries pool (map handler_view (drop (i + 1) table)))
    entry_next was now e pushed is =
        ap (onto (map entry_view was)) here
        ∙ onto_entry (map entry_view was) (handler_view (get_or table i d)) (entry_view e) _ (exception_entries pool (map handler_view (drop (i + 1) table))) is.caught is.is
        ∙ ap (λ z. onto z (exception_entries pool (map handler_view (drop (i + 1) table)))) (sym (ap (map entry_view) pushed ∙ map-append entry_view was (e ∷ [])))

    pub entry_none : (was : List RawEntry) → caught_type pool (get_or table i d).catch_type ≡ None → onto (map entry_view was) (exception_entries pool (map handler_view (drop i table))) ≡ None
    entry_none was e = ap (onto (map entry_view was)) (here ∙ ap (λ z. entry_with (handler_view (get_or table i d)) z (exception_entries pool (map handler_view (drop (i + 1) table)))) e)

  pub entry_end : (was : List RawEntry) → length table ≤ i → onto (map entry_view was) (exception_entries pool (map handler_view (drop i table))) ≡ Some (map entry_view was)
  entry_end was le = ap (λ z. onto (map entry_view was) (exception_entries pool (map handler_view z))) (drop_all i table le) ∙ ap Some (append-nil (map entry_view was))

-- ---- how long code is

right_of : (a b : Bool) → (a || b) ≡ false → b ≡ false
right_of true b e = cc
right_of false b e = e

left_of : (a b : Bool) → (a || b) ≡ false → a ≡ false
left_of true b e = cc
left_of false b e = refl

code_passes : (test : CodeBody → Bool) (attributes : List Attribute) (body : CodeBody) → code_of attributes ≡ Some body → list_any (on_body test) attributes ≡ false → test body ≡ false
code_passes test [] body is h = absurd cc
code_passes test (of_parts name code ∷ attributes) body is h =
    let same : code ≡ body = cc in
    sym (ap test same) ∙ left_of (test code) (list_any (on_body test) attributes) h
code_passes test (of_numbers name numbers ∷ attributes) body is h = code_passes test attributes body is h
code_passes test (raw name bytes ∷ attributes) body is h = code_passes test attributes body is h

few : (n : ℕ) → (nat_eq n 0 || nat_lt 65535 n) ≡ false → n ≤ 65535
few n e = let f : nat_lt 65535 n ≡ false = right_of (nat_eq n 0) (nat_lt 65535 n) e in grind (arith, nat_tests, f)

fits : (c : Class) → WellFormed c → (n : ℕ) (m : Member) (body : CodeBody) → slice_get c.methods n ≡ Some m → code_of m.attributes ≡ Some body → length body.code ≤ 65535
unfolding have_bad_length
fits c formed n m body here coded =
    let none = none_holds (conditions_of_method c n m) (own_rule _ _ (sym (method_is c n m here) ∙ formed.everywhere (places.Method n))) in
    few (length body.code) (code_passes has_bad_length m.attributes body coded none.1.1.1.1.1.1.1.1.0)

found_member : (o : Option Member) (body : CodeBody) → option_and_then (λ m. code_of m.attributes) o ≡ Some body → (m : Member) × (o ≡ Some m) × (code_of m.attributes ≡ Some body)
found_member None body e = absurd cc
found_member (Some m) body e = (m, refl, e)

pub code_fits : (c : Class) → WellFormed c → (n : ℕ) (body : CodeBody) → code_at c n ≡ Some body → length body.code ≤ 65535
code_fits c formed n body e =
    let m = found_member (slice_get c.methods n) body e in
    fits c formed n m.0 body m.1 m.2

pub entries_there : (c : Class) → WellFormed c → (n : ℕ) (body : CodeBody) → code_at c n ≡ Some body → exception_entries c.constant_pool body.exception_table ≡ None → ⊥
entries_there c formed n body e none =
    let m = found_member (slice_get c.methods n) body e in
    let named = formed_method c formed n m.0 body m.1 m.2 in
    cc (named.entries_are, none)
