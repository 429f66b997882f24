-- Entries of a pool as they are to instructions, by the types of their texts.
use Rattle.std.proofs.Common.{◌≡◌, ◌∙◌, ℕ, ◌/◌, ◌%◌, Bool, true, false, cond, nat_lt, List, Option, Some, None, Result, Ok, Err, option_map, refl, sym, ap, ap₂, subst, arith}
use Rattle.std.specs.Option.{option_and_then}
use Rattle.std.proofs.lemmas.Bool.{ltb-true, ltb-false}
use Rattle.names.specs.Descriptors.{FieldDescriptor}
use Rattle.names.specs.ReferenceTypes.{ReferenceType, class_type, array_type, reference_type}
use Rattle.names.specs.Reading.{field_answer}
use Rattle.names.specs.StandardNames.{class_name}
use Rattle.pool.specs.declared.constant.Constant.{Constant}
use Rattle.pool.specs.declared.constant.Constant.TheVariants as constants
use Rattle.pool.specs.declared.fault.PoolFault.{PoolFault}
use Rattle.pool.specs.declared.fault.PoolFault.TheVariants.{WrongKind}
use Rattle.pool.specs.Entries.{Entry}
use Rattle.pool.specs.Entries as entries
use Rattle.pool.specs.Lookups.{Named, FieldOf, and_then, entry_at, text_at, class_name_in, class_name_at, named, name_and_type_in, name_and_type_at, member}
use Rattle.pool.specs.ConstantMeanings.{found, field_of_class, field_constant}
use Rattle.pool.specs.Views.{view}
use Rattle.hierarchy.proofs.Names.{none_some, some_same}
use Rattle.frames.specs.VerificationType.{VerificationType, class as of_class}
use Rattle.frames.specs.Slots.{to_reference, descriptor_type}
use Rattle.type_numbers.specs.declared.named_constant.NamedConstant.TheVariants.{Other, Field}
use Rattle.type_numbers.specs.declared.text_numbers.Form.TheVariants.{ClassName, FieldDescriptor as Descriptor}
use Rattle.type_numbers.specs.Numbers.{Numbering, IsNumber, IsNumberOf, Extends}
use Rattle.type_numbers.specs.Constants.{field_class, field_held, loaded_type}
use Rattle.type_numbers.specs.private.Readings.{text_type, type_in}
use Rattle.type_numbers.specs.private.Entries.{IsEntryDescribed, class_as, loaded_as, class_by, field_by, field_of, member_name, name_by, names_nothing, texts_by, member_texts}
use Rattle.type_numbers.proofs.Dimensions.{class_flat, array_dims}
use Rattle.type_numbers.proofs.LawsOfNumbers.{number_stays}

pub number_of_stays : (old new : Numbering) → Extends old new → (n : Option ℕ) (t : Option VerificationType) → IsNumberOf old n t → IsNumberOf new n t
number_of_stays old new more None None h = tt
number_of_stays old new more None (Some t) h = h
number_of_stays old new more (Some n) None h = h
number_of_stays old new more (Some n) (Some t) h = number_stays old new more n t h

-- ---- a Class

pub class_types : (pool : List Entry) (name : ℕ) → type_in ClassName pool name ≡ option_map to_reference (class_by pool (entries.Class name))
class_types pool name = by (text_at pool name)
  where
    by : (r : Result (List ℕ) PoolFault) → option_and_then (text_type ClassName) (found r) ≡ option_map to_reference (option_and_then reference_type (found r))
    by (Ok text) = refl
    by (Err e) = refl

module _ (s : Numbering) (row : List ℕ) (pool : List Entry) (name : ℕ) where
  pub class_described : (n : Option ℕ) (l : ℕ) → IsNumberOf s n (type_in ClassName pool name) → IsNumber s l (of_class class_name) → IsEntryDescribed s row pool (entries.Class name) (class_as n l)
  class_described None l h k = record { class = subst (IsNumberOf s None) (class_types pool name) h; field_class = tt; field_held = tt; method_interface = refl; method_init = refl; method_class = tt; method_types = tt; loaded = k; computed = tt; site_special = refl; site = tt }
  class_described (Some n) l h k = record { class = subst (IsNumberOf s (Some n)) (class_types pool name) h; field_class = tt; field_held = tt; method_interface = refl; method_init = refl; method_class = tt; method_types = tt; loaded = k; computed = tt; site_special = refl; site = tt }

-- ---- a Fieldref

-- the class and what its field holds, where both are there and the class is no array
abbrev class_part : Option ReferenceType → Option VerificationType → Option VerificationType
class_part (Some (class_type name)) (Some held) = Some (of_class name)
class_part _ _ = None

abbrev held_part : Option ReferenceType → Option VerificationType → Option VerificationType
held_part (Some (class_type name)) (Some held) = Some held
held_part _ _ = None

class_of_field : (f : FieldOf) (c : Option ReferenceType) (t : Option FieldDescriptor) → option_map field_class (field_of_class f c t) ≡ class_part c (option_map descriptor_type t)
class_of_field f None t = refl
class_of_field f (Some (array_type x)) t = refl
class_of_field f (Some (class_type name)) None = refl
class_of_field f (Some (class_type name)) (Some t) = refl

held_of_field : (f : FieldOf) (c : Option ReferenceType) (t : Option FieldDescriptor) → option_map field_held (field_of_class f c t) ≡ held_part c (option_map descriptor_type t)
held_of_field f None t = refl
held_of_field f (Some (array_type x)) t = refl
held_of_field f (Some (class_type name)) None = refl
held_of_field f (Some (class_type name)) (Some t) = refl

class_alone : (c : Option ReferenceType) → class_part c None ≡ None
class_alone None = refl
class_alone (Some (class_type name)) = refl
class_alone (Some (array_type x)) = refl

held_alone : (c : Option ReferenceType) → held_part c None ≡ None
held_alone None = refl
held_alone (Some (class_type name)) = refl
held_alone (Some (array_type x)) = refl

-- by the texts of the class, the name and the descriptor
abbrev pub named_by : Result (List ℕ) PoolFault → Result (List ℕ) PoolFault → Result Named PoolFault
named_by n d = and_then n (λ n. and_then d (λ d. Ok (record { name = n; descriptor = d })))

abbrev pub with_class : List ℕ → Result Named PoolFault → Result FieldOf PoolFault
with_class c n = and_then n (λ n. Ok (record { class = c; name = n.name; descriptor = n.descriptor }))

abbrev pub member_by : Result (List ℕ) PoolFault → Result (List ℕ) PoolFault → Result (List ℕ) PoolFault → Result FieldOf PoolFault
member_by c n d = and_then c (λ c. with_class c (named_by n d))

classes_by : (c d : Result (List ℕ) PoolFault) (n : List ℕ) → option_map field_class (option_and_then field_constant (found (member_by c (Ok n) d))) ≡ class_part (option_and_then reference_type (found c)) (option_and_then (text_type Descriptor) (found d))
classes_by (Err e) d n = refl
classes_by (Ok c) (Err e) n = sym (class_alone (reference_type c))
classes_by (Ok c) (Ok d) n = class_of_field (record { class = c; name = n; descriptor = d }) (reference_type c) (found (field_answer d))

helds_by : (c d : Result (List ℕ) PoolFault) (n : List ℕ) → option_map field_held (option_and_then field_constant (found (member_by c (Ok n) d))) ≡ held_part (option_and_then reference_type (found c)) (option_and_then (text_type Descriptor) (found d))
helds_by (Err e) d n = refl
helds_by (Ok c) (Err e) n = sym (held_alone (reference_type c))
helds_by (Ok c) (Ok d) n = held_of_field (record { class = c; name = n; descriptor = d }) (reference_type c) (found (field_answer d))

-- a member that has no name
nameless : (c d : Result (List ℕ) PoolFault) (e : PoolFault) → found (member_by c (Err e) d) ≡ None
nameless (Ok c) d e = refl
nameless (Err x) d e = refl

failing : (c : Result (List ℕ) PoolFault) (e : PoolFault) → found (and_then c (λ c. with_class c (Err e))) ≡ None
failing (Ok c) e = refl
failing (Err x) e = refl

-- a member by its entries
abbrev member_of : List Entry → ℕ → ℕ → Result Entry PoolFault → Result Entry PoolFault → Result FieldOf PoolFault
member_of pool class name_and_type c n =
    and_then (and_then c (class_name_in pool class)) (λ c. with_class c (and_then n (name_and_type_in pool name_and_type)))

member_is : (pool : List Entry) (class name_and_type : ℕ) → member pool class name_and_type ≡ member_of pool class name_and_type (entry_at pool class) (entry_at pool name_and_type)
unfolding member class_name_at name_and_type_at
member_is pool class name_and_type = refl

member_named : (pool : List Entry) (class name_and_type c n d : ℕ) → member_of pool class name_and_type (Ok (entries.Class c)) (Ok (entries.NameAndType n d)) ≡ member_by (text_at pool c) (text_at pool n) (text_at pool d)
unfolding named
member_named pool class name_and_type c n d = refl

module _ (pool : List Entry) (class name_and_type : ℕ) where
  -- the texts are there
  pub record HasTexts (name descriptor : ℕ) : Type 0 where
    pub field_name : List ℕ
    pub is : member pool class name_and_type ≡ member_by (text_at pool name) (Ok field_name) (text_at pool descriptor)
    pub name_is : member_name pool name_and_type ≡ Some field_name

  abbrev texts_of : Result Entry PoolFault → Result Entry PoolFault → Option (ℕ × ℕ)
  texts_of c n = texts_by (found c) (found n) (λ i. found (text_at pool i))

  pub has_texts : (name descriptor : ℕ) → member_texts pool class name_and_type ≡ Some (name, descriptor) → HasTexts name descriptor
  has_texts name descriptor e = by (entry_at pool class) refl (entry_at pool name_and_type) refl e
    where
      by : (c : Result Entry PoolFault) → entry_at pool class ≡ c → (n : Result Entry PoolFault) → entry_at pool name_and_type ≡ n → texts_of c n ≡ Some (name, descriptor) → HasTexts name descriptor
      by (Ok (entries.Class c)) p (Ok (entries.NameAndType n d)) q e = at (text_at pool n) refl e
        where
          at : (t : Result (List ℕ) PoolFault) → text_at pool n ≡ t → option_and_then {U = ℕ × ℕ} (λ _. Some (c, d)) (found t) ≡ Some (name, descriptor) → HasTexts name descriptor
          at (Err x) is e = absurd (none_some e)
          at (Ok t) is e =
              let same : c ≡ name = ap (λ (x : ℕ × ℕ). x.0) (some_same e) in
              let other : d ≡ descriptor = ap (λ (x : ℕ × ℕ). x.1) (some_same e) in
              record {
                field_name = t;
                is = member_is pool class name_and_type ∙ ap₂ (member_of pool class name_and_type) p q ∙ member_named pool class name_and_type c n d
                    ∙ (λ i. member_by (text_at pool (same i)) (is i) (text_at pool (other i)));
                name_is = ap (λ r. name_by (found r) (λ i. found (text_at pool i))) q ∙ ap found is;
              }
      by (Ok (entries.Class c)) p _ q e = absurd (none_some e)
      by _ p _ q e = absurd (none_some e)

  pub no_member : member_texts pool class name_and_type ≡ None → found (member pool class name_and_type) ≡ None
  no_member e = ap found (member_is pool class name_and_type) ∙ by (entry_at pool class) (entry_at pool name_and_type) e
    where
      by : (c n : Result Entry PoolFault) → texts_of c n ≡ None → found (member_of pool class name_and_type c n) ≡ None
      by (Ok (entries.Class c)) (Ok (entries.NameAndType n d)) e = ap found (member_named pool class name_and_type c n d) ∙ at (text_at pool n) e
        where
          at : (t : Result (List ℕ) PoolFault) → option_and_then {U = ℕ × ℕ} (λ _. Some (c, d)) (found t) ≡ None → found (member_by (text_at pool c) t (text_at pool d)) ≡ None
          at (Err x) e = nameless (text_at pool c) (text_at pool d) x
          at (Ok t) e = absurd (none_some (sym e))
      by (Ok (entries.Class c)) (Err x) e = failing (text_at pool c) x
      by (Ok (entries.Class c)) (Ok _) e = failing (text_at pool c) (WrongKind name_and_type)
      by _ n e = refl

  module _ (s : Numbering) (row : List ℕ) (name descriptor : ℕ) (texts : HasTexts name descriptor) where
    abbrev named_class : Option ReferenceType
    named_class = class_by pool (entries.Class name)

    abbrev held : Option VerificationType
    held = type_in Descriptor pool descriptor

    class_is : option_map field_class (field_by pool (entries.Fieldref class name_and_type)) ≡ class_part named_class held
    class_is = ap (λ m. option_map field_class (option_and_then field_constant (found m))) texts.is ∙ classes_by (text_at pool name) (text_at pool descriptor) texts.field_name

    held_is : option_map field_held (field_by pool (entries.Fieldref class name_and_type)) ≡ held_part named_class held
    held_is = ap (λ m. option_map field_held (option_and_then field_constant (found m))) texts.is ∙ helds_by (text_at pool name) (text_at pool descriptor) texts.field_name

    other : class_part named_class held ≡ None → held_part named_class held ≡ None → IsEntryDescribed s row pool (entries.Fieldref class name_and_type) Other
    other c h = record {
      class = tt;
      field_class = subst (IsNumberOf s None) (sym (class_is ∙ c)) tt;
      field_held = subst (IsNumberOf s None) (sym (held_is ∙ h)) tt;
      method_interface = refl;
      method_init = refl;
      method_class = tt;
      method_types = tt;
      loaded = tt;
      computed = tt;
      site_special = refl;
      site = tt;
    }

    none_of : (o : Option ReferenceType) → IsNumberOf s None (option_map to_reference o) → o ≡ None
    none_of None h = refl
    none_of (Some t) h = absurd h

    no_type : (o : Option VerificationType) → IsNumberOf s None o → o ≡ None
    no_type None h = refl
    no_type (Some t) h = absurd h

    no_class : IsNumberOf s None (type_in ClassName pool name) → IsEntryDescribed s row pool (entries.Fieldref class name_and_type) Other
    no_class h =
        let e = none_of named_class (subst (IsNumberOf s None) (class_types pool name) h) in
        other (ap (λ c. class_part c held) e) (ap (λ c. held_part c held) e)

    no_held : IsNumberOf s None held → IsEntryDescribed s row pool (entries.Fieldref class name_and_type) Other
    no_held h =
        let e = no_type held h in
        other (ap (class_part named_class) e ∙ class_alone named_class) (ap (held_part named_class) e ∙ held_alone named_class)

    of_array : (n : ℕ) → IsNumberOf s (Some n) (type_in ClassName pool name) → nat_lt 0 (n / 65536 % 256) ≡ true → IsEntryDescribed s row pool (entries.Fieldref class name_and_type) Other
    of_array n h deep = by named_class refl (subst (IsNumberOf s (Some n)) (class_types pool name) h)
      where
        by : (o : Option ReferenceType) → named_class ≡ o → IsNumberOf s (Some n) (option_map to_reference o) → IsEntryDescribed s row pool (entries.Fieldref class name_and_type) Other
        by None e h = absurd h
        by (Some (class_type x)) e h = let flat = class_flat s n x h in let high = ltb-true 0 (n / 65536 % 256) deep in absurd (omega arith)
        by (Some (array_type x)) e h = other (ap (λ c. class_part c held) e) (ap (λ c. held_part c held) e)

    field_described : (n m : ℕ) → IsNumberOf s (Some n) (type_in ClassName pool name) → IsNumberOf s (Some m) held → nat_lt 0 (n / 65536 % 256) ≡ false → IsEntryDescribed s row pool (entries.Fieldref class name_and_type) (Field n m)
    field_described n m h k flat = by named_class refl held refl (subst (IsNumberOf s (Some n)) (class_types pool name) h) k
      where
        by : (o : Option ReferenceType) → named_class ≡ o → (t : Option VerificationType) → held ≡ t → IsNumberOf s (Some n) (option_map to_reference o) → IsNumberOf s (Some m) t → IsEntryDescribed s row pool (entries.Fieldref class name_and_type) (Field n m)
        by None e t f h k = absurd h
        by (Some (array_type x)) e t f h k = let deep = array_dims s n x h in let low = ltb-false 0 (n / 65536 % 256) flat in absurd (omega arith)
        by (Some (class_type x)) e None f h k = absurd k
        by (Some (class_type x)) e (Some t) f h k = record {
          class = tt;
          field_class = subst (IsNumberOf s (Some n)) (sym (class_is ∙ ap₂ class_part e f)) h;
          field_held = subst (IsNumberOf s (Some m)) (sym (held_is ∙ ap₂ held_part e f)) k;
          method_interface = refl;
          method_init = refl;
          method_class = tt;
          method_types = tt;
          loaded = tt;
          computed = tt;
          site_special = refl;
          site = tt;
        }

    pub described : (n m : Option ℕ) → IsNumberOf s n (type_in ClassName pool name) → IsNumberOf s m held → IsEntryDescribed s row pool (entries.Fieldref class name_and_type) (field_of n m)
    described None m h k = no_class h
    described (Some n) None h k = no_held k
    described (Some n) (Some m) h k = by (nat_lt 0 (n / 65536 % 256)) refl
      where
        by : (b : Bool) → nat_lt 0 (n / 65536 % 256) ≡ b → IsEntryDescribed s row pool (entries.Fieldref class name_and_type) (field_of (Some n) (Some m))
        by true e = subst (λ b. IsEntryDescribed s row pool (entries.Fieldref class name_and_type) (cond b Other (Field n m))) (sym e) (of_array n h e)
        by false e = subst (λ b. IsEntryDescribed s row pool (entries.Fieldref class name_and_type) (cond b Other (Field n m))) (sym e) (field_described n m h k e)

pub no_field : (s : Numbering) (row : List ℕ) (pool : List Entry) (class name_and_type : ℕ) → member_texts pool class name_and_type ≡ None → IsEntryDescribed s row pool (entries.Fieldref class name_and_type) Other
no_field s row pool class name_and_type none =
    let e = ap (option_and_then field_constant) (no_member pool class name_and_type none) in
    record {
      class = tt;
      field_class = subst (IsNumberOf s None) (sym (ap (option_map field_class) e)) tt;
      field_held = subst (IsNumberOf s None) (sym (ap (option_map field_held) e)) tt;
      method_interface = refl;
      method_init = refl;
      method_class = tt;
      method_types = tt;
      loaded = tt;
      computed = tt;
      site_special = refl;
      site = tt;
    }

-- ---- the others

-- none of the kinds whose texts were read
pub record IsPlain (k : Constant) : Type 0 where
  pub no_class : (x : ℕ) → k ≡ constants.Class x → ⊥
  pub no_field : (x y : ℕ) → k ≡ constants.Fieldref x y → ⊥
  pub no_method : (x y : ℕ) → k ≡ constants.Methodref x y → ⊥
  pub no_interface_method : (x y : ℕ) → k ≡ constants.InterfaceMethodref x y → ⊥
  pub no_dynamic : (x y : ℕ) → k ≡ constants.Dynamic x y → ⊥
  pub no_site : (x y : ℕ) → k ≡ constants.InvokeDynamic x y → ⊥

pub other_described : (s : Numbering) (row : List ℕ) (pool : List Entry) (k : Constant) (n : Option ℕ) → IsPlain k → IsNumberOf s n (loaded_type (view k)) → IsEntryDescribed s row pool (view k) (loaded_as n)
other_described s row pool (constants.Class x) n p h = absurd (p.no_class x refl)
other_described s row pool (constants.Fieldref x y) n p h = absurd (p.no_field x y refl)
other_described s row pool (constants.Methodref x y) n p h = absurd (p.no_method x y refl)
other_described s row pool (constants.InterfaceMethodref x y) n p h = absurd (p.no_interface_method x y refl)
other_described s row pool (constants.Dynamic x y) n p h = absurd (p.no_dynamic x y refl)
other_described s row pool (constants.InvokeDynamic x y) n p h = absurd (p.no_site x y refl)
other_described s row pool _ None p h = record { class = tt; field_class = tt; field_held = tt; method_interface = refl; method_init = refl; method_class = tt; method_types = tt; loaded = h; computed = tt; site_special = refl; site = tt }
other_described s row pool _ (Some n) p h = record { class = tt; field_class = tt; field_held = tt; method_interface = refl; method_init = refl; method_class = tt; method_types = tt; loaded = h; computed = tt; site_special = refl; site = tt }

-- a text, or the name and the descriptor of a member
pub nothing_described : (s : Numbering) (row : List ℕ) (pool : List Entry) (k : Constant) → names_nothing k ≡ true → IsEntryDescribed s row pool (view k) Other
nothing_described s row pool (constants.Utf8 text) e = record { class = tt; field_class = tt; field_held = tt; method_interface = refl; method_init = refl; method_class = tt; method_types = tt; loaded = tt; computed = tt; site_special = refl; site = tt }
nothing_described s row pool (constants.NameAndType name descriptor) e = record { class = tt; field_class = tt; field_held = tt; method_interface = refl; method_init = refl; method_class = tt; method_types = tt; loaded = tt; computed = tt; site_special = refl; site = tt }
nothing_described s row pool _ e = absurd (apart e)
  where
    apart : false ≡ true → ⊥
    apart e = cc
