-- Methodref and InterfaceMethodref entries as they are to instructions, by the types of their texts.
use Rattle.std.proofs.Common.{◌≡◌, ◌∙◌, ℕ, Bool, true, false, List, Option, Some, None, Result, Ok, Err, option_map, refl, sym, ap, subst}
use Rattle.std.specs.Option.{option_and_then, option_map_or}
use Rattle.std.specs.Str.{bytes_eq}
use Rattle.names.specs.Descriptors.{MethodDescriptor}
use Rattle.names.specs.ReferenceTypes.{ReferenceType, reference_type}
use Rattle.names.specs.Reading.{method_answer}
use Rattle.names.specs.StandardNames.{init_name}
use Rattle.pool.specs.declared.fault.PoolFault.{PoolFault}
use Rattle.pool.specs.Entries.{Entry}
use Rattle.pool.specs.Lookups.{FieldOf, MethodOf, and_then, member, method, methodref, text_at}
use Rattle.pool.specs.ConstantMeanings.{MethodConstant, found, method_of_class, method_constant}
use Rattle.hierarchy.proofs.Names.{none_some}
use Rattle.frames.specs.Slots.{to_reference}
use Rattle.type_numbers.specs.declared.method_numbers.MethodNumbers.{MethodNumbers}
use Rattle.type_numbers.specs.declared.named_constant.NamedConstant.TheVariants.{Other}
use Rattle.type_numbers.specs.declared.text_numbers.Form.TheVariants.{ClassName}
use Rattle.type_numbers.specs.Numbers.{Numbering, IsNumberOf}
use Rattle.type_numbers.specs.Constants.{Meaning, IsDescribed}
use Rattle.type_numbers.specs.MethodNumbers.{AreTypesOf, method_in}
use Rattle.type_numbers.specs.private.Readings.{type_in}
use Rattle.type_numbers.specs.private.Entries.{IsEntryDescribed, is_init_named, meaning_by, member_texts, method_of}
use Rattle.type_numbers.proofs.FieldEntries.{HasTexts, class_types, member_by, no_member}

-- ---- a method by its member

abbrev with_kind : Bool → FieldOf → MethodOf
with_kind interface m = record { interface = interface; class = m.class; name = m.name; descriptor = m.descriptor }

abbrev method_from : Bool → Result FieldOf PoolFault → Option MethodConstant
method_from interface r = option_and_then method_constant (found (and_then r (λ m. Ok (with_kind interface m))))

abbrev meaning_of : Option MethodConstant → Meaning
meaning_of m = record { class = None; field = None; method = m; loaded = None; computed = None; site = None }

method_meaning : (pool : List Entry) (interface : Bool) (class name_and_type : ℕ) → meaning_by pool (methodref interface class name_and_type) ≡ meaning_of (method_from interface (member pool class name_and_type))
unfolding method
method_meaning pool true class name_and_type = refl
method_meaning pool false class name_and_type = refl

no_method_from : (interface : Bool) (r : Result FieldOf PoolFault) → found r ≡ None → method_from interface r ≡ None
no_method_from interface (Ok m) e = absurd (none_some (sym e))
no_method_from interface (Err x) e = refl

-- ---- what it is

module _ (s : Numbering) (row : List ℕ) where
  pub nothing_described : IsDescribed s row (meaning_of None) Other
  nothing_described = record { class = tt; field_class = tt; field_held = tt; method_interface = refl; method_init = refl; method_class = tt; method_types = tt; loaded = tt; computed = tt; site_special = refl; site = tt }

  by_parts : (m : MethodOf) (init : Bool) (n : Option ℕ) (x : Option MethodNumbers) (c : Option ReferenceType) (t : Option MethodDescriptor) → init ≡ bytes_eq m.name init_name → IsNumberOf s n (option_map to_reference c) → AreTypesOf s row x t
      → IsDescribed s row (meaning_of (method_of_class m c t)) (method_of m.interface init n x)
  by_parts m init None x None t e h k = nothing_described
  by_parts m init None x (Some c) t e h k = absurd h
  by_parts m init (Some n) x None t e h k = absurd h
  by_parts m init (Some n) None (Some c) None e h k = nothing_described
  by_parts m init (Some n) None (Some c) (Some t) e h k = absurd k
  by_parts m init (Some n) (Some x) (Some c) None e h k = absurd k
  by_parts m init (Some n) (Some x) (Some c) (Some t) e h k = record { class = tt; field_class = tt; field_held = tt; method_interface = refl; method_init = ap (λ (b : Bool). Some b) e; method_class = h; method_types = k; loaded = tt; computed = tt; site_special = refl; site = tt }

  by_texts : (interface init : Bool) (c d : Result (List ℕ) PoolFault) (name : List ℕ) (n : Option ℕ) (x : Option MethodNumbers) → init ≡ bytes_eq name init_name → IsNumberOf s n (option_map to_reference (option_and_then reference_type (found c)))
      → AreTypesOf s row x (option_and_then (λ text. found (method_answer false text)) (found d)) → IsDescribed s row (meaning_of (method_from interface (member_by c (Ok name) d))) (method_of interface init n x)
  by_texts interface init (Ok c) (Ok d) name n x e h k = by_parts (record { interface = interface; class = c; name = name; descriptor = d }) init n x (reference_type c) (found (method_answer false d)) e h k
  by_texts interface init (Err r) d name None x e h k = nothing_described
  by_texts interface init (Err r) d name (Some n) x e h k = absurd h
  by_texts interface init (Ok c) (Err r) name None None e h k = nothing_described
  by_texts interface init (Ok c) (Err r) name (Some n) None e h k = nothing_described
  by_texts interface init (Ok c) (Err r) name n (Some x) e h k = absurd k

  module _ (pool : List Entry) (interface : Bool) (class name_and_type : ℕ) where
    pub method_described : (name descriptor : ℕ) → HasTexts pool class name_and_type name descriptor → (init : Bool) (n : Option ℕ) (x : Option MethodNumbers) → init ≡ is_init_named pool name_and_type → IsNumberOf s n (type_in ClassName pool name) → AreTypesOf s row x (method_in pool descriptor)
        → IsEntryDescribed s row pool (methodref interface class name_and_type) (method_of interface init n x)
    method_described name descriptor texts init n x e h k =
        subst (λ m. IsDescribed s row m (method_of interface init n x)) (sym (method_meaning pool interface class name_and_type ∙ ap (λ r. meaning_of (method_from interface r)) texts.is))
        (by_texts interface init (text_at pool name) (text_at pool descriptor) texts.field_name n x
        (e ∙ ap (λ o. option_map_or (λ t. bytes_eq t init_name) o false) texts.name_is) (subst (IsNumberOf s n) (class_types pool name) h) k)

    pub no_method : member_texts pool class name_and_type ≡ None → IsEntryDescribed s row pool (methodref interface class name_and_type) Other
    no_method none =
        let e = no_method_from interface (member pool class name_and_type) (no_member pool class name_and_type none) in
        subst (λ m. IsDescribed s row m Other) (sym (method_meaning pool interface class name_and_type ∙ ap meaning_of e)) nothing_described
