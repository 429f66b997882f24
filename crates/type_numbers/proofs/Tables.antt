-- Tables that have what each constant of a pool is, at its index.
use Rattle.std.proofs.Common.{◌≡◌, ◌∙◌, ◌⊎◌, inl, inr, ℕ, zero, suc, ◌+◌, ◌-◌, ◌<◌, ◌≤◌, false, cond, nat_eq, List, [], ◌∷◌, ◌++◌, length, Option, Some, None, Result, Ok, Err, OnOk, option_map, slice_get, get_or, refl, sym, ap, subst, arith, length-append}
use Rattle.std.specs.declared.alloc.AllocError.{AllocError}
use Rattle.std.specs.Option.{option_and_then}
use Rattle.std.proofs.lemmas.Bool.{cases_lt}
use Rattle.std.proofs.lemmas.Bool.Decides.{nat_tests}
use Rattle.std.proofs.lemmas.List.{get_or_append_left, get_or_past, length-map}
use Rattle.std.proofs.lemmas.Option.{slice_get_within, slice_get-map, slice_get_read}
use Rattle.std.proofs.Math.Seq.{get_or-append_seam}
use Rattle.names.specs.ReferenceTypes.{reference_type}
use Rattle.pool.specs.declared.constant.Constant.{Constant}
use Rattle.pool.specs.declared.fault.PoolFault.TheVariants.{BadIndex}
use Rattle.pool.specs.Views.{view, views}
use Rattle.pool.specs.Entries.{Entry}
use Rattle.pool.specs.Entries as entries
use Rattle.pool.specs.Lookups.{and_then, usable, entry_at, class_name_in, class_name_at, field_ref_in, field_ref_at, method_ref_in, method_ref_at, dynamic_in, dynamic_at, invoke_dynamic_in, invoke_dynamic_at}
use Rattle.pool.specs.ConstantMeanings.{found, field_constant, method_constant, dynamic_type, call_site}
use Rattle.frames.specs.Slots.{to_reference, descriptor_type}
use Rattle.hierarchy.proofs.Names.{slice_none, some_same}
use Rattle.type_numbers.specs.declared.constant_table.ConstantTable.{ConstantTable}
use Rattle.type_numbers.specs.declared.method_numbers.DescriptorNumbers.{DescriptorNumbers}
use Rattle.type_numbers.specs.declared.method_numbers.MethodNumbers.{MethodNumbers}
use Rattle.type_numbers.specs.declared.named_constant.NamedConstant.{NamedConstant}
use Rattle.type_numbers.specs.declared.named_constant.NamedConstant.TheVariants.{Other}
use Rattle.type_numbers.specs.Numbers.{Numbering, Extends}
use Rattle.type_numbers.specs.Constants.{Meaning, IsDescribed, IsTable, meaning_at, class_number_of, field_class_of, field_held_of, method_class_of, method_types_of, field_class, field_held, method_class, method_type, loaded_of, loaded_type, computed_of, site_types_of, site_type, arguments_of, constant_in, constants_of}
use Rattle.type_numbers.specs.MethodNumbers.{GoesOn, row_of}
use Rattle.type_numbers.specs.private.Entries.{IsEntryDescribed, class_by, field_by, method_by, computed_by, site_by, meaning_by}
use Rattle.type_numbers.proofs.FieldEntries.{number_of_stays}
use Rattle.type_numbers.proofs.MethodEntries.{nothing_described}
use Rattle.type_numbers.proofs.MethodReadings.{goes_nowhere, types_of_on}

-- ---- a constant by its entry

class_usable : (pool : List Entry) (index : ℕ) (e : Entry) → option_and_then reference_type (found (and_then (usable index (Some e)) (class_name_in pool index))) ≡ class_by pool e
class_usable pool index entries.Unusable = refl
class_usable pool index (entries.Class name) = refl
class_usable pool index _ = refl

field_usable : (pool : List Entry) (index : ℕ) (e : Entry) → option_and_then field_constant (found (and_then (usable index (Some e)) (field_ref_in pool index))) ≡ field_by pool e
field_usable pool index entries.Unusable = refl
field_usable pool index (entries.Fieldref class name_and_type) = refl
field_usable pool index _ = refl

method_usable : (pool : List Entry) (index : ℕ) (e : Entry) → option_and_then method_constant (found (and_then (usable index (Some e)) (method_ref_in pool index))) ≡ method_by pool e
method_usable pool index entries.Unusable = refl
method_usable pool index (entries.Methodref class name_and_type) = refl
method_usable pool index (entries.InterfaceMethodref class name_and_type) = refl
method_usable pool index _ = refl

loaded_usable : (index : ℕ) (e : Entry) → option_and_then loaded_type (found (usable index (Some e))) ≡ loaded_type e
loaded_usable index entries.Unusable = refl
loaded_usable index _ = refl

computed_usable : (pool : List Entry) (index : ℕ) (e : Entry) → option_and_then dynamic_type (found (and_then (usable index (Some e)) (dynamic_in pool index))) ≡ computed_by pool e
computed_usable pool index entries.Unusable = refl
computed_usable pool index (entries.Dynamic bootstrap name_and_type) = refl
computed_usable pool index _ = refl

site_usable : (pool : List Entry) (index : ℕ) (e : Entry) → option_and_then call_site (found (and_then (usable index (Some e)) (invoke_dynamic_in pool index))) ≡ site_by pool e
site_usable pool index entries.Unusable = refl
site_usable pool index (entries.InvokeDynamic bootstrap name_and_type) = refl
site_usable pool index _ = refl

-- what stands at an index, from 1 on
entry_after : (pool : List Entry) (k : ℕ) (o : Option Entry) → slice_get pool k ≡ o → entry_at pool (suc k) ≡ usable (suc k) o
unfolding entry_at
entry_after pool k o e =
    let z : nat_eq (suc k) 0 ≡ false = grind (arith, nat_tests) in
    let m : suc k - 1 ≡ k = omega arith in
    (λ i. cond (z i) (Err (BadIndex (suc k))) (usable (suc k) (slice_get pool (m i)))) ∙ ap (usable (suc k)) e

meaning_there : (pool : List Entry) (k : ℕ) (e : Entry) → slice_get pool k ≡ Some e → meaning_at pool (suc k) ≡ meaning_by pool e
unfolding class_name_at field_ref_at method_ref_at dynamic_at invoke_dynamic_at
meaning_there pool k e is =
    let at = entry_after pool k (Some e) is in
    let class = ap (λ r. option_and_then reference_type (found (and_then r (class_name_in pool (suc k))))) at ∙ class_usable pool (suc k) e in
    let field = ap (λ r. option_and_then field_constant (found (and_then r (field_ref_in pool (suc k))))) at ∙ field_usable pool (suc k) e in
    let method = ap (λ r. option_and_then method_constant (found (and_then r (method_ref_in pool (suc k))))) at ∙ method_usable pool (suc k) e in
    let loaded = ap (λ r. option_and_then loaded_type (found r)) at ∙ loaded_usable (suc k) e in
    let computed = ap (λ r. option_and_then dynamic_type (found (and_then r (dynamic_in pool (suc k))))) at ∙ computed_usable pool (suc k) e in
    let site = ap (λ r. option_and_then call_site (found (and_then r (invoke_dynamic_in pool (suc k))))) at ∙ site_usable pool (suc k) e in
    λ i. record { class = class i; field = field i; method = method i; loaded = loaded i; computed = computed i; site = site i }

-- where no constant stands, nothing is meant
abbrev no_meaning : Meaning
no_meaning = record { class = None; field = None; method = None; loaded = None; computed = None; site = None }

meaning_past : (pool : List Entry) (k : ℕ) → slice_get pool k ≡ None → meaning_at pool (suc k) ≡ no_meaning
unfolding class_name_at field_ref_at method_ref_at dynamic_at invoke_dynamic_at
meaning_past pool k is =
    let at = entry_after pool k None is in
    let class = ap (λ r. option_and_then reference_type (found (and_then r (class_name_in pool (suc k))))) at in
    let field = ap (λ r. option_and_then field_constant (found (and_then r (field_ref_in pool (suc k))))) at in
    let method = ap (λ r. option_and_then method_constant (found (and_then r (method_ref_in pool (suc k))))) at in
    let loaded = ap (λ r. option_and_then loaded_type (found r)) at in
    let computed = ap (λ r. option_and_then dynamic_type (found (and_then r (dynamic_in pool (suc k))))) at in
    let site = ap (λ r. option_and_then call_site (found (and_then r (invoke_dynamic_in pool (suc k))))) at in
    λ i. record { class = class i; field = field i; method = method i; loaded = loaded i; computed = computed i; site = site i }

meaning_zero : (pool : List Entry) → meaning_at pool 0 ≡ no_meaning
unfolding class_name_at field_ref_at method_ref_at dynamic_at invoke_dynamic_at entry_at
meaning_zero pool = refl

-- ---- a table that is filled up to a place

-- the first stands for no constant, and each other for the entry before it
pub record AreFilled (s : Numbering) (row : List ℕ) (pool : List Entry) (items : List NamedConstant) (count : ℕ) : Type 0 where
  pub long : length items ≡ count + 1
  pub first : constant_in items 0 ≡ Other
  pub each : (k : ℕ) (e : Entry) → k < count → slice_get pool k ≡ Some e → IsEntryDescribed s row pool e (constant_in items (suc k))

nothing : (s : Numbering) (row : List ℕ) (m : Meaning) (c : NamedConstant) → c ≡ Other → m ≡ no_meaning → IsDescribed s row m c
nothing s row m c is none = subst (IsDescribed s row m) (sym is) (subst (λ x. IsDescribed s row x Other) (sym none) (nothing_described s row))

pub filled_table : (s : Numbering) (pool : List Entry) (t : ConstantTable) → AreFilled s (arguments_of t) pool (constants_of t) (length pool) → IsTable s pool t
filled_table s pool t h zero = nothing s (arguments_of t) (meaning_at pool 0) _ h.first (meaning_zero pool)
filled_table s pool t h (suc k) = by (slice_get pool k) refl
  where
    missed : (k < length pool) ⊎ (length pool ≤ k) → slice_get pool k ≡ None → length pool ≤ k
    missed (inl low) is = absurd (slice_none pool k low is)
    missed (inr high) is = high

    by : (o : Option Entry) → slice_get pool k ≡ o → IsDescribed s (arguments_of t) (meaning_at pool (suc k)) (constant_in (constants_of t) (suc k))
    by (Some e) is =
        let within = slice_get_within pool k e is in
        subst (λ m. IsDescribed s (arguments_of t) m (constant_in (constants_of t) (suc k))) (sym (meaning_there pool k e is)) (h.each k e within is)
    by None is =
        let past : length pool ≤ k = missed (cases_lt k (length pool)) is in
        let long = h.long in
        let out : length (constants_of t) ≤ suc k = omega arith in
        nothing s (arguments_of t) (meaning_at pool (suc k)) (constant_in (constants_of t) (suc k)) (get_or_past (constants_of t) (suc k) Other out) (meaning_past pool k is)

-- ---- one constant more

described_stays : (old new : Numbering) → Extends old new → (row later : List ℕ) → GoesOn row later → (m : Meaning) (c : NamedConstant) → IsDescribed old row m c → IsDescribed new later m c
described_stays old new more row later on m c h = record {
  class = number_of_stays old new more (class_number_of c) (option_map to_reference m.class) h.class;
  field_class = number_of_stays old new more (field_class_of c) (option_map field_class m.field) h.field_class;
  field_held = number_of_stays old new more (field_held_of c) (option_map field_held m.field) h.field_held;
  method_interface = h.method_interface;
  method_init = h.method_init;
  method_class = number_of_stays old new more (method_class_of c) (option_map method_class m.method) h.method_class;
  method_types = types_of_on old new more row later on (method_types_of c) (option_map method_type m.method) h.method_types;
  loaded = number_of_stays old new more (loaded_of c) m.loaded h.loaded;
  computed = number_of_stays old new more (computed_of c) (option_map descriptor_type m.computed) h.computed;
  site_special = h.site_special;
  site = types_of_on old new more row later on (site_types_of c) (option_map site_type m.site) h.site;
}

module _ (pool : List Entry) (items : List NamedConstant) (count : ℕ) (old new : Numbering) (more : Extends old new) (row later : List ℕ) (on : GoesOn row later) where
  pub fill_one : AreFilled old row pool items count → (all : List NamedConstant) (c : NamedConstant) (e : Entry) → all ≡ items ++ c ∷ [] → slice_get pool count ≡ Some e → IsEntryDescribed new later pool e c → AreFilled new later pool all (count + 1)
  fill_one h all c e is here described = subst (λ xs. AreFilled new later pool xs (count + 1)) (sym is) (record {
    long = length-append items (c ∷ []) ∙ ap (λ n. n + 1) h.long;
    first = let long = h.long in get_or_append_left items (c ∷ []) Other 0 (omega arith) ∙ h.first;
    each = λ k x lt at. by k x (cases_lt k count) lt at;
  })
    where
      by : (k : ℕ) (x : Entry) → (k < count) ⊎ (count ≤ k) → k < count + 1 → slice_get pool k ≡ Some x → IsEntryDescribed new later pool x (constant_in (items ++ c ∷ []) (suc k))
      by k x (inl low) lt at =
          let long = h.long in
          subst (IsEntryDescribed new later pool x) (sym (get_or_append_left items (c ∷ []) Other (suc k) (omega arith)))
          (described_stays old new more row later on (meaning_by pool x) (constant_in items (suc k)) (h.each k x low at))
      by k x (inr high) lt at =
          let long = h.long in
          let same : k ≡ count = omega arith in
          let place : suc k ≡ length items = omega arith in
          let one : e ≡ x = some_same (sym here ∙ ap (slice_get pool) (sym same) ∙ at) in
          subst (IsEntryDescribed new later pool x) (sym (ap (constant_in (items ++ c ∷ [])) place ∙ get_or-append_seam items c [] Other)) (subst (λ y. IsEntryDescribed new later pool y c) one described)

-- the empty table has the first alone
pub filled_none : (s : Numbering) (row : List ℕ) (pool : List Entry) (items : List NamedConstant) → items ≡ Other ∷ [] → AreFilled s row pool items 0
filled_none s row pool items e = subst (λ xs. AreFilled s row pool xs 0) (sym e) (record { long = refl; first = refl; each = λ k x lt at. absurd (omega (arith, lt)) })

-- an entry by its constant
pub entry_here : (cs : List Constant) (pool : List Entry) (i : ℕ) (c : Constant) → views cs ≡ pool → c ≡ get_or cs i c → i < length cs → slice_get pool i ≡ Some (view c)
entry_here cs pool i c e is h =
    ap (λ es. slice_get es i) (sym e) ∙ slice_get-map view cs i ∙ ap (option_map view) (slice_get_read cs (length cs) i c refl h is)

pub whole_pool : (cs : List Constant) (pool : List Entry) (i : ℕ) → views cs ≡ pool → i ≡ length cs → i ≡ length pool
whole_pool cs pool i e is = is ∙ sym (length-map cs view) ∙ ap length e

table_goes_on : (old new : Numbering) (pool : List Entry) (t : ConstantTable) (d : DescriptorNumbers) → Extends old new → GoesOn (arguments_of t) (row_of d) → IsTable old pool t → IsTable new pool (record { constants = t.constants; descriptors = d })
table_goes_on old new pool t d more on h index =
    described_stays old new more (arguments_of t) (row_of d) on (meaning_at pool index) (constant_in (constants_of t) index) (h index)

-- a table stands when one more descriptor was asked for
pub table_read : (old new : Numbering) (pool : List Entry) (t : ConstantTable) (d : DescriptorNumbers) → Extends old new → IsTable old pool t → (r : Result (Option MethodNumbers) AllocError) → OnOk r (GoesOn (arguments_of t) (row_of d))
    → OnOk r (IsTable new pool (record { constants = t.constants; descriptors = d }))
table_read old new pool t d more h (Ok x) on = table_goes_on old new pool t d more on h
table_read old new pool t d more h (Err e) on = tt

pub table_stays : (old new : Numbering) (pool : List Entry) (t : ConstantTable) → Extends old new → IsTable old pool t → IsTable new pool t
table_stays old new pool t more h index =
    described_stays old new more (arguments_of t) (arguments_of t) (goes_nowhere (arguments_of t)) (meaning_at pool index) (constant_in (constants_of t) index) (h index)
