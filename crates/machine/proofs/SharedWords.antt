-- The words that rules, machine and laws share say what their sections say.
use Rattle.std.proofs.Common.{◌≡◌, ◌≢◌, ◌↔◌, ℕ, ℤ, pos, ◌+ℤ◌, Bool, true, false, not, ◌&&◌, ◌||◌, List, [], ◌∷◌, slice_get, Option, Some, None, Result, Ok, Err, if◌then◌else◌, ◌⊎◌, inl, inr, refl, sym, ap, ◌∙◌, subst, eqb-true, eq-eqb, leb-true, ltb-true, le-leb, lt-ltb}
use Rattle.std.specs.Option.{option_and_then}
use Rattle.std.specs.Str.{bytes_eq}
use Rattle.std.proofs.lemmas.Slice.Eq.{bytes_eq-Decides}
use Rattle.names.specs.declared.fault.NameFault.{NameFault}
use Rattle.names.specs.Names.{bracket}
use Rattle.names.specs.Descriptors.{FieldDescriptor, MethodDescriptor, primitive, class, array, SpellsField}
use Rattle.names.specs.ReferenceTypes.{ReferenceType, class_type, array_type, begins_array, array_of, reference_type}
use Rattle.names.specs.StandardNames.{object_name}
use Rattle.names.specs.Reading.{field_answer, method_answer}
use Rattle.names.proofs.AnswerLaws.{field_answered, field_spelled, method_answered, method_spelled}
use Rattle.pool.specs.Entries.{Entry}
use Rattle.pool.specs.Lookups.{Named, class_name_at, FieldOf, field_ref_at, MethodOf, method_ref_at, dynamic_at, invoke_dynamic_at}
use Rattle.pool.specs.ConstantMeanings.{found, class_at, FieldConstant, field_of_class, field_constant, field_at, MethodConstant, method_of_class, method_constant, method_at, dynamic_type, dynamic_type_at, CallSite, site_with, call_site, call_site_at}
use Rattle.pool.proofs.LookupLaws.{class_stands, stands_class, field_stands, stands_field, method_stands, stands_method, dynamic_stands, stands_dynamic, invoke_dynamic_stands, stands_invoke_dynamic}
use Rattle.classfile.specs.Methods.{Receiver, no_receiver, ready_receiver, own_receiver, is_named, is_declared}
use Rattle.insn.specs.Offsets.{led_to, IsAmong}
use Rattle.machine.specs.SharedWords.{ReceiversAreSaid, RangesAreSaid, OwnFieldsAreSaid, TargetsAreSaid, IsFieldType, IsMethodType, IsTypeText, HasClass, IsField, IsMethod, IsDynamic, IsSite, ConstantsAreSaid}

-- ---- truth values

both : (b c : Bool) → b && c ≡ true → (b ≡ true) × (c ≡ true)
both true true e = (refl, refl)
both true false e = cc
both false c e = cc

and_both : (b c : Bool) → b ≡ true → c ≡ true → b && c ≡ true
and_both b c p q = ap (λ z. z && c) p ∙ q

-- ---- receivers

abbrev receiver_by : Bool → Bool → Bool → Receiver
receiver_by static init object = if static then no_receiver else if init && not object then own_receiver else ready_receiver

record ByFlags (static init object : Bool) : Type 0 where
  none : (receiver_by static init object ≡ no_receiver) ↔ (static ≡ true)
  own : (receiver_by static init object ≡ own_receiver) ↔ ((static ≡ false) × (init ≡ true) × (object ≡ false))
  ready : (receiver_by static init object ≡ ready_receiver) ↔ ((static ≡ false) × ((init ≡ false) ⊎ (object ≡ true)))

by_flags : (static init object : Bool) → ByFlags static init object
by_flags true init object = record { none = (λ e. refl, λ e. refl); own = (λ e. cc, λ e. absurd (true_false e.0)); ready = (λ e. cc, λ e. absurd (true_false e.0)) }
  where
    true_false : true ≡ false → ⊥
    true_false e = cc
by_flags false true true = record { none = (λ e. cc, λ e. cc); own = (λ e. cc, λ e. absurd (true_false e.2)); ready = (λ e. (refl, inr refl), λ e. refl) }
  where
    true_false : true ≡ false → ⊥
    true_false e = cc
by_flags false true false = record { none = (λ e. cc, λ e. cc); own = (λ e. (refl, refl, refl), λ e. refl); ready = (λ e. cc, λ e. neither e.1) }
  where
    neither : (true ≡ false) ⊎ (false ≡ true) → own_receiver ≡ ready_receiver
    neither (inl e) = cc
    neither (inr e) = cc
by_flags false false true = record { none = (λ e. cc, λ e. cc); own = (λ e. cc, λ e. absurd (false_true e.1)); ready = (λ e. (refl, inl refl), λ e. refl) }
  where
    false_true : false ≡ true → ⊥
    false_true e = cc
by_flags false false false = record { none = (λ e. cc, λ e. cc); own = (λ e. cc, λ e. absurd (false_true e.1)); ready = (λ e. (refl, inl refl), λ e. refl) }
  where
    false_true : false ≡ true → ⊥
    false_true e = cc

equal : (a b : List ℕ) → bytes_eq a b ≡ true → a ≡ b
equal a b e = (bytes_eq-Decides a b).0 e

is_equal : (a b : List ℕ) → a ≡ b → bytes_eq a b ≡ true
is_equal a b e = (bytes_eq-Decides a b).1 e

unequal : (a b : List ℕ) → bytes_eq a b ≡ false → a ≢ b
unequal a b e p = let q : true ≡ false = sym (is_equal a b p) ∙ e in cc

is_unequal : (a b : List ℕ) → a ≢ b → bytes_eq a b ≡ false
is_unequal a b n = by (bytes_eq a b) refl
  where
    by : (c : Bool) → bytes_eq a b ≡ c → c ≡ false
    by true e = absurd (n (equal a b e))
    by false e = refl

pub receivers_are_said : ReceiversAreSaid
receivers_are_said m =
    let k = by_flags m.is_static m.is_init (bytes_eq m.class object_name) in
    record {
      none = k.none;
      own = (λ e. let x = k.own.0 e in (x.0, x.1, unequal m.class object_name x.2), λ e. k.own.1 (e.0, e.1, is_unequal m.class object_name e.2));
      ready = (λ e. let x = k.ready.0 e in (x.0, to x.1), λ e. k.ready.1 (e.0, from e.1));
    }
  where
    to : (m.is_init ≡ false) ⊎ (bytes_eq m.class object_name ≡ true) → (m.is_init ≡ false) ⊎ (m.class ≡ object_name)
    to (inl e) = inl e
    to (inr e) = inr (equal m.class object_name e)

    from : (m.is_init ≡ false) ⊎ (m.class ≡ object_name) → (m.is_init ≡ false) ⊎ (bytes_eq m.class object_name ≡ true)
    from (inl e) = inl e
    from (inr e) = inr (is_equal m.class object_name e)

-- ---- ranges

pub ranges_are_said : RangesAreSaid
ranges_are_said e at = (
  λ k. let x = both _ _ k in (leb-true e.from at x.0, ltb-true at e.to x.1),
  λ k. and_both _ _ (le-leb e.from at k.0) (lt-ltb at e.to k.1),
)

-- ---- fields that the class declares

abbrev Declares : List Named → List ℕ → List ℕ → Type 0
Declares ns name descriptor = (n : Named) × IsAmong n ns × (n.name ≡ name) × (n.descriptor ≡ descriptor)

declared_first : (n : Named) (ns : List Named) (name descriptor : List ℕ) → (is_declared ns name descriptor ≡ true → Declares ns name descriptor) → (b : Bool) → is_named name descriptor n ≡ b → b || is_declared ns name descriptor ≡ true → Declares (n ∷ ns) name descriptor
declared_first n ns name descriptor others true q k = let x = both _ _ q in (n, inl refl, equal n.name name x.0, equal n.descriptor descriptor x.1)
declared_first n ns name descriptor others false q k = let x = others k in (x.0, inr x.1, x.2, x.3)

declared_is : (ns : List Named) (name descriptor : List ℕ) → is_declared ns name descriptor ≡ true → Declares ns name descriptor
declared_is [] name descriptor e = cc
declared_is (n ∷ ns) name descriptor e = declared_first n ns name descriptor (declared_is ns name descriptor) (is_named name descriptor n) refl e

or_true : (b : Bool) → b || true ≡ true
or_true true = refl
or_true false = refl

is_declared_so : (ns : List Named) (name descriptor : List ℕ) (n : Named) → IsAmong n ns → n.name ≡ name → n.descriptor ≡ descriptor → is_declared ns name descriptor ≡ true
is_declared_so [] name descriptor n i p q = elim i [ ]
is_declared_so (k ∷ ns) name descriptor n (inl e) p q =
    let here : is_named name descriptor k ≡ true = and_both _ _ (is_equal k.name name (ap (λ z. z.name) (sym e) ∙ p)) (is_equal k.descriptor descriptor (ap (λ z. z.descriptor) (sym e) ∙ q)) in
    ap (λ b. b || is_declared ns name descriptor) here
is_declared_so (k ∷ ns) name descriptor n (inr i) p q = ap (λ b. is_named name descriptor k || b) (is_declared_so ns name descriptor n i p q) ∙ or_true (is_named name descriptor k)

pub own_fields_are_said : OwnFieldsAreSaid
own_fields_are_said m f = (
  λ e.
      let x = both _ _ e in
      let y = declared_is m.fields f.name f.descriptor x.1 in
      record { class = equal m.class f.class x.0; field = y.0; among = y.1; name = y.2; descriptor = y.3 },
  λ k.
      and_both _ _ (is_equal m.class f.class k.class) (is_declared_so m.fields f.name f.descriptor k.field k.among k.name k.descriptor),
)

-- ---- targets

led_from : (at : ℕ) (offsets : List ℤ) (to : ℤ) → IsAmong to (led_to at offsets) → (offset : ℤ) × IsAmong offset offsets × (to ≡ pos at +ℤ offset)
led_from at [] to i = elim i [ ]
led_from at (o ∷ os) to (inl e) = (o, inl refl, e)
led_from at (o ∷ os) to (inr i) = let x = led_from at os to i in (x.0, inr x.1, x.2)

leads : (at : ℕ) (offsets : List ℤ) (to offset : ℤ) → IsAmong offset offsets → to ≡ pos at +ℤ offset → IsAmong to (led_to at offsets)
leads at [] to offset i e = elim i [ ]
leads at (o ∷ os) to offset (inl p) e = inl (e ∙ ap (λ z. pos at +ℤ z) p)
leads at (o ∷ os) to offset (inr i) e = inr (leads at os to offset i e)

pub targets_are_said : TargetsAreSaid
targets_are_said at offsets to = (led_from at offsets to, λ k. leads at offsets to k.0 k.1 k.2)

-- ---- what is found

one_value : {A : Type 0} (a b : A) → Some a ≡ Some b → a ≡ b
one_value a b e = cc

ok_where : {A E : Type 0} (r : Result A E) (a : A) → found r ≡ Some a → r ≡ Ok a
ok_where (Ok b) a e = ap Ok (one_value b a e)
ok_where (Err x) a e = cc

some_where : {A E : Type 0} (r : Result A E) (a : A) → r ≡ Ok a → found r ≡ Some a
some_where r a e = ap found e

then_where : {A B E : Type 0} (f : A → Option B) (r : Result A E) (b : B) → option_and_then f (found r) ≡ Some b → (a : A) × (r ≡ Ok a) × (f a ≡ Some b)
then_where f (Ok a) b e = (a, refl, e)
then_where f (Err x) b e = cc

where_then : {A B E : Type 0} (f : A → Option B) (r : Result A E) (a : A) (b : B) → r ≡ Ok a → f a ≡ Some b → option_and_then f (found r) ≡ Some b
where_then f r a b e q = ap (λ z. option_and_then f (found z)) e ∙ q

-- ---- the texts of types

field_is : (text : List ℕ) (t : FieldDescriptor) → found (field_answer text) ≡ Some t → IsFieldType text t
field_is text t e = field_answered text t (ok_where (field_answer text) t e)

is_field : (text : List ℕ) (t : FieldDescriptor) → IsFieldType text t → found (field_answer text) ≡ Some t
is_field text t k = some_where (field_answer text) t (field_spelled text t k.0 k.1)

method_is : (text : List ℕ) (t : MethodDescriptor) → found (method_answer false text) ≡ Some t → IsMethodType text t
method_is text t e = method_answered false text t (ok_where (method_answer false text) t e)

is_method : (text : List ℕ) (t : MethodDescriptor) → IsMethodType text t → found (method_answer false text) ≡ Some t
is_method text t k = some_where (method_answer false text) t (method_spelled false text t k.0 k.1 k.2)

begins : (text : List ℕ) → begins_array text ≡ true → slice_get text 0 ≡ Some 91
begins [] e = cc
begins (b ∷ bytes) e = ap Some (eqb-true b bracket e)

no_bracket : (text : List ℕ) → begins_array text ≡ false → slice_get text 0 ≢ Some 91
no_bracket [] e k = cc
no_bracket (b ∷ bytes) e k =
    let same : b ≡ 91 = one_value b 91 k in
    let q : true ≡ false = sym (eq-eqb b bracket same) ∙ e in cc

is_no_array : (text : List ℕ) → slice_get text 0 ≢ Some 91 → begins_array text ≡ false
is_no_array text n = by (begins_array text) refl
  where
    by : (b : Bool) → begins_array text ≡ b → b ≡ false
    by true e = absurd (n (begins text e))
    by false e = refl

same_class : (a b : List ℕ) → Some (class_type a) ≡ Some (class_type b) → a ≡ b
same_class a b e = cc

read_array : (text : List ℕ) (r : Result FieldDescriptor NameFault) → field_answer text ≡ r → (t : ReferenceType) → array_of r ≡ Some t → IsTypeText text t
read_array text (Err x) q t e = cc
read_array text (Ok (primitive p)) q t e = cc
read_array text (Ok (class n)) q t e = cc
read_array text (Ok (array c)) q t e = subst (IsTypeText text) (one_value (array_type c) t e) (field_answered text (array c) q)

type_text : (text : List ℕ) (t : ReferenceType) → reference_type text ≡ Some t → IsTypeText text t
type_text text t e = by (begins_array text) refl e
  where
    by : (b : Bool) → begins_array text ≡ b → (if b then array_of (field_answer text) else Some (class_type text)) ≡ Some t → IsTypeText text t
    by true q k = read_array text (field_answer text) refl t k
    by false q k = subst (IsTypeText text) (one_value (class_type text) t k) (refl, no_bracket text q)

spelled_begins : (text : List ℕ) (c : FieldDescriptor) → SpellsField text (array c) → begins_array text ≡ true
spelled_begins text c k = ap begins_array k.spelled

is_type_text : (text : List ℕ) (t : ReferenceType) → IsTypeText text t → reference_type text ≡ Some t
is_type_text text (class_type name) k =
    ap (λ b. if b then array_of (field_answer text) else Some (class_type text)) (is_no_array text k.1) ∙ ap (λ z. Some (class_type z)) k.0
is_type_text text (array_type c) k =
    ap (λ b. if b then array_of (field_answer text) else Some (class_type text)) (spelled_begins text c k.0)
    ∙ ap array_of (field_spelled text (array c) k.0 k.1)

-- ---- constants

module _ (pool : List Entry) (index : ℕ) where
  class_so : (t : ReferenceType) → class_at pool index ≡ Some t → HasClass pool index t
  class_so t e =
      let x = then_where reference_type (class_name_at pool index) t e in
      record { text = x.0; here = class_stands pool index x.0 x.1; type_text = type_text x.0 t x.2 }

  so_class : (t : ReferenceType) → HasClass pool index t → class_at pool index ≡ Some t
  so_class t k = where_then reference_type (class_name_at pool index) k.text t (stands_class pool index k.text k.here) (is_type_text k.text t k.type_text)

  field_parts : (x : FieldOf) (r : Option ReferenceType) (t : Option FieldDescriptor) (f : FieldConstant) → reference_type x.class ≡ r → found (field_answer x.descriptor) ≡ t → field_of_class x r t ≡ Some f
      → (reference_type x.class ≡ Some (class_type f.class)) × (x.name ≡ f.name) × (x.descriptor ≡ f.descriptor) × (found (field_answer x.descriptor) ≡ Some f.type)
  field_parts x (Some (class_type c)) (Some t) f p q e =
      let k = one_value _ f e in
      (p ∙ ap (λ z. Some (class_type z.class)) k, ap (λ z. z.name) k, ap (λ z. z.descriptor) k, q ∙ ap (λ z. Some z.type) k)
  field_parts x _ _ f p q e = cc

  field_so : (f : FieldConstant) → field_at pool index ≡ Some f → IsField pool index f
  field_so f e =
      let x = then_where field_constant (field_ref_at pool index) f e in
      let k = field_parts x.0 (reference_type x.0.class) (found (field_answer x.0.descriptor)) f refl refl x.2 in
      record {
        text = x.0;
        here = field_stands pool index x.0 x.1;
        class = type_text x.0.class (class_type f.class) k.0;
        name = k.1;
        descriptor = k.2;
        type = field_is f.descriptor f.type (subst (λ z. found (field_answer z) ≡ Some f.type) k.2 k.3);
      }

  so_field : (f : FieldConstant) → IsField pool index f → field_at pool index ≡ Some f
  so_field f k =
      let c : reference_type k.text.class ≡ Some (class_type f.class) = is_type_text k.text.class (class_type f.class) k.class in
      let t : found (field_answer k.text.descriptor) ≡ Some f.type = ap (λ z. found (field_answer z)) k.descriptor ∙ is_field f.descriptor f.type k.type in
      let made : (name descriptor : List ℕ) → FieldConstant = λ name descriptor. record { class = f.class; name = name; descriptor = descriptor; type = f.type } in
      where_then field_constant (field_ref_at pool index) k.text f (stands_field pool index k.text k.here)
      (ap (λ z. field_of_class k.text z (found (field_answer k.text.descriptor))) c ∙ ap (field_of_class k.text (Some (class_type f.class))) t
      ∙ ap (λ z. Some (made z k.text.descriptor)) k.name ∙ ap (λ z. Some (made f.name z)) k.descriptor)

  method_parts : (x : MethodOf) (r : Option ReferenceType) (t : Option MethodDescriptor) (c : MethodConstant) → reference_type x.class ≡ r → found (method_answer false x.descriptor) ≡ t → method_of_class x r t ≡ Some c
      → (reference_type x.class ≡ Some c.class) × (x.interface ≡ c.interface) × (x.name ≡ c.name) × (x.descriptor ≡ c.descriptor) × (found (method_answer false x.descriptor) ≡ Some c.type)
  method_parts x (Some r) (Some t) c p q e =
      let k = one_value _ c e in
      (p ∙ ap (λ z. Some z.class) k, ap (λ z. z.interface) k, ap (λ z. z.name) k, ap (λ z. z.descriptor) k, q ∙ ap (λ z. Some z.type) k)
  method_parts x _ _ c p q e = cc

  abbrev method_text : Bool → List ℕ → List ℕ → List ℕ → MethodOf
  method_text interface owner name descriptor = record { interface = interface; class = owner; name = name; descriptor = descriptor }

  method_so : (c : MethodConstant) → method_at pool index ≡ Some c → IsMethod pool index c
  method_so c e =
      let x = then_where method_constant (method_ref_at pool index) c e in
      let k = method_parts x.0 (reference_type x.0.class) (found (method_answer false x.0.descriptor)) c refl refl x.2 in
      let same : x.0 ≡ method_text c.interface x.0.class c.name c.descriptor =
      ap (λ z. method_text z x.0.class x.0.name x.0.descriptor) k.1 ∙ ap (λ z. method_text c.interface x.0.class z x.0.descriptor) k.2 ∙ ap (method_text c.interface x.0.class c.name) k.3 in
      record {
        class_text = x.0.class;
        here = method_stands pool index (method_text c.interface x.0.class c.name c.descriptor) (x.1 ∙ ap Ok same);
        class = type_text x.0.class c.class k.0;
        type = method_is c.descriptor c.type (subst (λ z. found (method_answer false z) ≡ Some c.type) k.3 k.4);
      }

  so_method : (c : MethodConstant) → IsMethod pool index c → method_at pool index ≡ Some c
  so_method c k =
      let text = method_text c.interface k.class_text c.name c.descriptor in
      where_then method_constant (method_ref_at pool index) text c (stands_method pool index text k.here)
      (ap (λ z. method_of_class text z (found (method_answer false c.descriptor))) (is_type_text k.class_text c.class k.class)
      ∙ ap (method_of_class text (Some c.class)) (is_method c.descriptor c.type k.type))

  dynamic_so : (t : FieldDescriptor) → dynamic_type_at pool index ≡ Some t → IsDynamic pool index t
  dynamic_so t e =
      let x = then_where dynamic_type (dynamic_at pool index) t e in
      record { text = x.0; here = dynamic_stands pool index x.0 x.1; type_text = field_is x.0.descriptor t x.2 }

  so_dynamic : (t : FieldDescriptor) → IsDynamic pool index t → dynamic_type_at pool index ≡ Some t
  so_dynamic t k = where_then dynamic_type (dynamic_at pool index) k.text t (stands_dynamic pool index k.text k.here) (is_field k.text.descriptor t k.type_text)

  site_parts : (name : List ℕ) (t : Option MethodDescriptor) (c : CallSite) → site_with name t ≡ Some c → (name ≡ c.name) × (t ≡ Some c.type)
  site_parts name (Some t) c e = let k = one_value _ c e in (ap (λ z. z.name) k, ap (λ z. Some z.type) k)
  site_parts name None c e = cc

  site_so : (c : CallSite) → call_site_at pool index ≡ Some c → IsSite pool index c
  site_so c e =
      let x = then_where call_site (invoke_dynamic_at pool index) c e in
      let k = site_parts x.0.name (found (method_answer false x.0.descriptor)) c x.2 in
      record { text = x.0; here = invoke_dynamic_stands pool index x.0 x.1; name = k.0; type = method_is x.0.descriptor c.type k.1 }

  so_site : (c : CallSite) → IsSite pool index c → call_site_at pool index ≡ Some c
  so_site c k =
      where_then call_site (invoke_dynamic_at pool index) k.text c (stands_invoke_dynamic pool index k.text k.here)
      (ap (site_with k.text.name) (is_method k.text.descriptor c.type k.type) ∙ ap (λ z. site_with z (Some c.type)) k.name)

pub constants_are_said : ConstantsAreSaid
constants_are_said pool index = record {
  class = λ t. (class_so pool index t, so_class pool index t);
  field = λ f. (field_so pool index f, so_field pool index f);
  method = λ c. (method_so pool index c, so_method pool index c);
  dynamic = λ t. (dynamic_so pool index t, so_dynamic pool index t);
  call_site = λ c. (site_so pool index c, so_site pool index c);
}
