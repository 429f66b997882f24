-- Dynamic and InvokeDynamic entries as they are to instructions, by the types of their descriptors.
use Rattle.std.proofs.Common.{◌≡◌, ◌∙◌, ℕ, Bool, false, List, Option, Some, None, Result, Ok, Err, option_map, refl, sym, ap, subst}
use Rattle.std.specs.Option.{option_and_then, option_map_or}
use Rattle.names.specs.Descriptors.{FieldDescriptor, MethodDescriptor}
use Rattle.names.specs.Names.{less_than}
use Rattle.names.specs.Reading.{method_answer}
use Rattle.pool.specs.declared.fault.PoolFault.{PoolFault}
use Rattle.pool.specs.Entries.{Entry}
use Rattle.pool.specs.Entries as entries
use Rattle.pool.specs.Lookups.{and_then, entry_at, named, name_and_type_in, name_and_type_at, text_at}
use Rattle.pool.specs.ConstantMeanings.{CallSite, found, dynamic_type, call_site, site_with}
use Rattle.hierarchy.proofs.Names.{none_some, some_same}
use Rattle.classfile.specs.Naming.{begins_with}
use Rattle.type_numbers.specs.declared.method_numbers.MethodNumbers.{MethodNumbers}
use Rattle.type_numbers.specs.declared.named_constant.NamedConstant.TheVariants.{Other}
use Rattle.type_numbers.specs.declared.text_numbers.Form.TheVariants.{FieldDescriptor as Descriptor}
use Rattle.type_numbers.specs.Numbers.{Numbering, IsNumberOf}
use Rattle.type_numbers.specs.Constants.{Meaning, IsDescribed, site_special, site_type}
use Rattle.type_numbers.specs.MethodNumbers.{AreTypesOf, method_in}
use Rattle.type_numbers.specs.private.Readings.{text_type, type_in}
use Rattle.type_numbers.specs.private.Entries.{IsEntryDescribed, descriptor_by, descriptor_index, dynamic_of, is_special_named, member_name, name_by, site_of}
use Rattle.type_numbers.proofs.FieldEntries.{named_by}

-- ---- the texts of a NameAndType

module _ (pool : List Entry) (name_and_type : ℕ) where
  -- the texts are there
  pub record HasDescriptor (descriptor : ℕ) : Type 0 where
    pub name : List ℕ
    pub is : name_and_type_at pool name_and_type ≡ named_by (Ok name) (text_at pool descriptor)
    pub name_is : member_name pool name_and_type ≡ Some name

  stands : name_and_type_at pool name_and_type ≡ and_then (entry_at pool name_and_type) (name_and_type_in pool name_and_type)
  unfolding name_and_type_at
  stands = refl

  named_is : (n d : ℕ) → name_and_type_in pool name_and_type (entries.NameAndType n d) ≡ named_by (text_at pool n) (text_at pool d)
  unfolding named
  named_is n d = refl

  pub has_descriptor : (descriptor : ℕ) → descriptor_index pool name_and_type ≡ Some descriptor → HasDescriptor descriptor
  has_descriptor descriptor e = by (entry_at pool name_and_type) refl e
    where
      by : (r : Result Entry PoolFault) → entry_at pool name_and_type ≡ r → descriptor_by (found r) (λ i. found (text_at pool i)) ≡ Some descriptor → HasDescriptor descriptor
      by (Ok (entries.NameAndType n d)) p e = at (text_at pool n) refl e
        where
          at : (t : Result (List ℕ) PoolFault) → text_at pool n ≡ t → option_and_then {U = ℕ} (λ _. Some d) (found t) ≡ Some descriptor → HasDescriptor descriptor
          at (Err x) is e = absurd (none_some e)
          at (Ok t) is e =
              let same : d ≡ descriptor = some_same e in
              record {
                name = t;
                is = stands ∙ ap (λ r. and_then r (name_and_type_in pool name_and_type)) p ∙ named_is n d ∙ (λ i. named_by (is i) (text_at pool (same i)));
                name_is = ap (λ r. name_by (found r) (λ i. found (text_at pool i))) p ∙ ap found is;
              }
      by _ p e = absurd (none_some e)

  pub no_descriptor : descriptor_index pool name_and_type ≡ None → found (name_and_type_at pool name_and_type) ≡ None
  no_descriptor e = ap found stands ∙ by (entry_at pool name_and_type) e
    where
      by : (r : Result Entry PoolFault) → descriptor_by (found r) (λ i. found (text_at pool i)) ≡ None → found (and_then r (name_and_type_in pool name_and_type)) ≡ None
      by (Ok (entries.NameAndType n d)) e = ap found (named_is n d) ∙ at (text_at pool n) e
        where
          at : (t : Result (List ℕ) PoolFault) → option_and_then {U = ℕ} (λ _. Some d) (found t) ≡ None → found (named_by t (text_at pool d)) ≡ None
          at (Err x) e = refl
          at (Ok t) e = absurd (none_some (sym e))
      by _ e = refl

-- ---- a Dynamic

abbrev computed : Option FieldDescriptor → Meaning
computed t = record { class = None; field = None; method = None; loaded = None; computed = t; site = None }

module _ (s : Numbering) (row : List ℕ) where
  computed_by_text : (d : Result (List ℕ) PoolFault) (name : List ℕ) (n : Option ℕ) → IsNumberOf s n (option_and_then (text_type Descriptor) (found d)) → IsDescribed s row (computed (option_and_then dynamic_type (found (named_by (Ok name) d)))) (dynamic_of n)
  computed_by_text (Ok d) name None h = record { class = tt; field_class = tt; field_held = tt; method_interface = refl; method_init = refl; method_class = tt; method_types = tt; loaded = tt; computed = h; site_special = refl; site = tt }
  computed_by_text (Ok d) name (Some n) h = record { class = tt; field_class = tt; field_held = tt; method_interface = refl; method_init = refl; method_class = tt; method_types = tt; loaded = tt; computed = h; site_special = refl; site = tt }
  computed_by_text (Err e) name None h = record { class = tt; field_class = tt; field_held = tt; method_interface = refl; method_init = refl; method_class = tt; method_types = tt; loaded = tt; computed = tt; site_special = refl; site = tt }
  computed_by_text (Err e) name (Some n) h = absurd h

  not_computed : IsDescribed s row (computed None) Other
  not_computed = record { class = tt; field_class = tt; field_held = tt; method_interface = refl; method_init = refl; method_class = tt; method_types = tt; loaded = tt; computed = tt; site_special = refl; site = tt }

  module _ (pool : List Entry) (name_and_type : ℕ) where
    pub dynamic_described : (descriptor : ℕ) → HasDescriptor pool name_and_type descriptor → (n : Option ℕ) → IsNumberOf s n (type_in Descriptor pool descriptor) → IsEntryDescribed s row pool (entries.Dynamic 0 name_and_type) (dynamic_of n)
    dynamic_described descriptor texts n h =
        subst (λ r. IsDescribed s row (computed (option_and_then dynamic_type (found r))) (dynamic_of n)) (sym texts.is) (computed_by_text (text_at pool descriptor) texts.name n h)

    pub no_dynamic : descriptor_index pool name_and_type ≡ None → IsEntryDescribed s row pool (entries.Dynamic 0 name_and_type) Other
    no_dynamic none = subst (λ o. IsDescribed s row (computed (option_and_then dynamic_type o)) Other) (sym (no_descriptor pool name_and_type none)) not_computed

-- ---- an InvokeDynamic

abbrev bound : Option CallSite → Meaning
bound c = record { class = None; field = None; method = None; loaded = None; computed = None; site = c }

type_of_site : (name : List ℕ) (t : Option MethodDescriptor) → option_map site_type (site_with name t) ≡ t
type_of_site name None = refl
type_of_site name (Some t) = refl

special_of : (special : Bool) (name : List ℕ) → special ≡ begins_with less_than name → (t : Option MethodDescriptor) (k : CallSite) → site_with name t ≡ Some k → special ≡ site_special k
special_of special name e None k is = absurd (none_some is)
special_of special name e (Some t) k is = e ∙ ap site_special (some_same is)

module _ (s : Numbering) (row : List ℕ) where
  with_types : (special : Bool) (c : Option CallSite) (x : Option MethodNumbers) → ((k : CallSite) → c ≡ Some k → special ≡ site_special k) → AreTypesOf s row x (option_map site_type c) → IsDescribed s row (bound c) (site_of special x)
  with_types special None None g h = record { class = tt; field_class = tt; field_held = tt; method_interface = refl; method_init = refl; method_class = tt; method_types = tt; loaded = tt; computed = tt; site_special = refl; site = h }
  with_types special None (Some x) g h = absurd h
  with_types special (Some k) None g h = absurd h
  with_types special (Some k) (Some x) g h = record { class = tt; field_class = tt; field_held = tt; method_interface = refl; method_init = refl; method_class = tt; method_types = tt; loaded = tt; computed = tt; site_special = ap (λ (b : Bool). Some b) (g k refl); site = h }

  site_by_text : (special : Bool) (d : Result (List ℕ) PoolFault) (name : List ℕ) (x : Option MethodNumbers) → special ≡ begins_with less_than name → AreTypesOf s row x (option_and_then (λ text. found (method_answer false text)) (found d)) → IsDescribed s row (bound (option_and_then call_site (found (named_by (Ok name) d)))) (site_of special x)
  site_by_text special (Ok d) name x e h = with_types special (site_with name (found (method_answer false d))) x (special_of special name e (found (method_answer false d))) (subst (AreTypesOf s row x) (sym (type_of_site name (found (method_answer false d)))) h)
  site_by_text special (Err r) name x e h = with_types special None x (λ k is. absurd (none_some is)) h

  module _ (pool : List Entry) (name_and_type : ℕ) where
    pub site_described : (descriptor : ℕ) → HasDescriptor pool name_and_type descriptor → (special : Bool) (x : Option MethodNumbers) → special ≡ is_special_named pool name_and_type → AreTypesOf s row x (method_in pool descriptor) → IsEntryDescribed s row pool (entries.InvokeDynamic 0 name_and_type) (site_of special x)
    site_described descriptor texts special x e h =
        subst (λ r. IsDescribed s row (bound (option_and_then call_site (found r))) (site_of special x)) (sym texts.is)
        (site_by_text special (text_at pool descriptor) texts.name x (e ∙ ap (λ o. option_map_or (begins_with less_than) o false) texts.name_is) h)

    pub no_site : descriptor_index pool name_and_type ≡ None → IsEntryDescribed s row pool (entries.InvokeDynamic 0 name_and_type) Other
    no_site none = subst (λ o. IsDescribed s row (bound (option_and_then call_site o)) Other) (sym (no_descriptor pool name_and_type none)) (with_types false None None (λ k is. absurd (none_some is)) tt)
