-- A look-up finds exactly what stands where its indices lead.
use Rattle.std.proofs.Common.{◌≡◌, ℕ, ◌-◌, Bool, true, false, cond, List, Option, Some, None, Result, Ok, Err, refl, ap, ◌∙◌, arith}
use Rattle.std.proofs.lemmas.Bool.{eqb-false, ne_eqb}
use Rattle.std.specs.Prelude.{nat_eq, slice_get, ◌≢◌}
use Rattle.pool.specs.declared.fault.PoolFault.{PoolFault}
use Rattle.pool.specs.declared.fault.PoolFault.TheVariants.{BadIndex}
use Rattle.pool.specs.Entries.{Entry, Utf8, Class, NameAndType, Fieldref, Methodref, InterfaceMethodref, Dynamic, InvokeDynamic, Unusable}
use Rattle.pool.specs.Lookups.{and_then, usable, entry_at, text_in, text_at, class_name_in, class_name_at, Named, named, name_and_type_in, name_and_type_at, FieldOf, member, field_ref_in, field_ref_at, MethodOf, method, method_ref_in, method_ref_at, dynamic_in, dynamic_at, invoke_dynamic_in, invoke_dynamic_at, StandsAt, HasText, HasClassName, HasNameAndType, HasDynamic, HasInvokeDynamic, HasMember, HasField, methodref, HasMethod}

-- ---- two steps

both : {A B : Type 0} (r : Result A PoolFault) (next : A → Result B PoolFault) (b : B) → and_then r next ≡ Ok b → (a : A) × (r ≡ Ok a) × (next a ≡ Ok b)
both (Ok a) next b h = (a, refl, h)
both (Err e) next b h = absurd cc

then : {A B : Type 0} (r : Result A PoolFault) (next : A → Result B PoolFault) (a : A) (b : B) → r ≡ Ok a → next a ≡ Ok b → and_then r next ≡ Ok b
then r next a b h k = ap (λ (s : Result _ PoolFault). and_then s next) h ∙ k

abbrev good : {A : Type 0} → A → Result A PoolFault
good x = Ok x

same_ok : {A : Type 0} (x y : A) → good x ≡ good y → x ≡ y
same_ok x y h = cc

-- ---- an entry

used_is : (index : ℕ) (o : Option Entry) (e : Entry) → usable index o ≡ Ok e → (o ≡ Some e) × (e ≢ Unusable)
used_is index None e h = absurd cc
used_is index (Some Unusable) e h = absurd cc
used_is index (Some x) e h = let same = same_ok x e h in (ap Some same, λ u. let wrong = same ∙ u in absurd cc)

is_used : (index : ℕ) (e : Entry) → e ≢ Unusable → usable index (Some e) ≡ Ok e
is_used index Unusable h = absurd (h refl)
is_used index e h = refl

abbrev from_place : Bool → List Entry → ℕ → Result Entry PoolFault
from_place b es index = cond b (Err (BadIndex index)) (usable index (slice_get es (index - 1)))

pub entry_stands : (es : List Entry) (index : ℕ) (e : Entry) → entry_at es index ≡ Ok e → StandsAt es index e
unfolding entry_at
entry_stands es index e h = by_zero (nat_eq index 0) refl h
  where
    by_zero : (b : Bool) → nat_eq index 0 ≡ b → from_place b es index ≡ Ok e → StandsAt es index e
    by_zero true g k = absurd cc
    by_zero false g k =
        let u = used_is index (slice_get es (index - 1)) e k in
        record { place = index - 1; counted = omega (arith, eqb-false _ _ g); here = u.0; used = u.1 }

pub stands_entry : (es : List Entry) (index : ℕ) (e : Entry) → StandsAt es index e → entry_at es index ≡ Ok e
unfolding entry_at
stands_entry es index e s =
    let some : nat_eq index 0 ≡ false = ne_eqb _ _ (λ z. omega (arith, z, s.counted)) in
    let less : index - 1 ≡ s.place = omega (arith, s.counted) in
    ap (λ (b : Bool). from_place b es index) some ∙ ap (λ (k : ℕ). usable index (slice_get es k)) less ∙ ap (usable index) s.here ∙ is_used index e s.used

-- ---- texts

text_is : (index : ℕ) (e : Entry) (bytes : List ℕ) → text_in index e ≡ Ok bytes → e ≡ Utf8 bytes
text_is index (Utf8 x) bytes h = ap Utf8 (same_ok x bytes h)
text_is index e bytes h = absurd cc

pub text_stands : (es : List Entry) (index : ℕ) (bytes : List ℕ) → text_at es index ≡ Ok bytes → HasText es index bytes
unfolding text_at
text_stands es index bytes h =
    let t = both (entry_at es index) (text_in index) bytes h in
    entry_stands es index (Utf8 bytes) (t.1 ∙ ap Ok (text_is index t.0 bytes t.2))

pub stands_text : (es : List Entry) (index : ℕ) (bytes : List ℕ) → HasText es index bytes → text_at es index ≡ Ok bytes
unfolding text_at
stands_text es index bytes s = then (entry_at es index) (text_in index) (Utf8 bytes) bytes (stands_entry es index (Utf8 bytes) s) refl

-- ---- the name of a class

class_is : (es : List Entry) (index : ℕ) (e : Entry) (bytes : List ℕ) → class_name_in es index e ≡ Ok bytes → (name : ℕ) × (e ≡ Class name) × (text_at es name ≡ Ok bytes)
class_is es index (Class name) bytes h = (name, refl, h)
class_is es index e bytes h = absurd cc

pub class_stands : (es : List Entry) (index : ℕ) (bytes : List ℕ) → class_name_at es index ≡ Ok bytes → HasClassName es index bytes
unfolding class_name_at
class_stands es index bytes h =
    let t = both (entry_at es index) (class_name_in es index) bytes h in
    let c = class_is es index t.0 bytes t.2 in
    record { name = c.0; entry = entry_stands es index (Class c.0) (t.1 ∙ ap Ok c.1); text = text_stands es c.0 bytes c.2 }

pub stands_class : (es : List Entry) (index : ℕ) (bytes : List ℕ) → HasClassName es index bytes → class_name_at es index ≡ Ok bytes
unfolding class_name_at
stands_class es index bytes s =
    then (entry_at es index) (class_name_in es index) (Class s.name) bytes (stands_entry es index (Class s.name) s.entry) (stands_text es s.name bytes s.text)

-- ---- a name and a descriptor

abbrev named_of : List ℕ → List ℕ → Named
named_of name descriptor = record { name = name; descriptor = descriptor }

named_is : (es : List Entry) (name descriptor : ℕ) (x : Named) → named es name descriptor ≡ Ok x → HasText es name x.name × HasText es descriptor x.descriptor
unfolding named
named_is es name descriptor x h =
    let n = both (text_at es name) (λ n. and_then (text_at es descriptor) (λ d. Ok (named_of n d))) x h in
    let d = both (text_at es descriptor) (λ d. Ok (named_of n.0 d)) x n.2 in
    let same = same_ok (named_of n.0 d.0) x d.2 in
    (text_stands es name x.name (n.1 ∙ ap (λ (y : Named). Ok y.name) same), text_stands es descriptor x.descriptor (d.1 ∙ ap (λ (y : Named). Ok y.descriptor) same))

is_named : (es : List Entry) (name descriptor : ℕ) (x : Named) → HasText es name x.name → HasText es descriptor x.descriptor → named es name descriptor ≡ Ok x
unfolding named
is_named es name descriptor x n d =
    then (text_at es name) (λ n. and_then (text_at es descriptor) (λ d. Ok (named_of n d))) x.name x (stands_text es name x.name n)
    (then (text_at es descriptor) (λ d. Ok (named_of x.name d)) x.descriptor x (stands_text es descriptor x.descriptor d) refl)

name_and_type_is : (es : List Entry) (index : ℕ) (e : Entry) (x : Named) → name_and_type_in es index e ≡ Ok x → (name : ℕ) × (descriptor : ℕ) × (e ≡ NameAndType name descriptor) × (named es name descriptor ≡ Ok x)
name_and_type_is es index (NameAndType name descriptor) x h = (name, descriptor, refl, h)
name_and_type_is es index e x h = absurd cc

pub name_and_type_stands : (es : List Entry) (index : ℕ) (x : Named) → name_and_type_at es index ≡ Ok x → HasNameAndType es index x
unfolding name_and_type_at
name_and_type_stands es index x h =
    let t = both (entry_at es index) (name_and_type_in es index) x h in
    let c = name_and_type_is es index t.0 x t.2 in
    let n = named_is es c.0 c.1 x c.3 in
    record { name = c.0; descriptor = c.1; entry = entry_stands es index (NameAndType c.0 c.1) (t.1 ∙ ap Ok c.2); name_text = n.0; descriptor_text = n.1 }

pub stands_name_and_type : (es : List Entry) (index : ℕ) (x : Named) → HasNameAndType es index x → name_and_type_at es index ≡ Ok x
unfolding name_and_type_at
stands_name_and_type es index x s =
    then (entry_at es index) (name_and_type_in es index) (NameAndType s.name s.descriptor) x (stands_entry es index (NameAndType s.name s.descriptor) s.entry)
    (is_named es s.name s.descriptor x s.name_text s.descriptor_text)

-- ---- computed constants and calls

dynamic_is : (es : List Entry) (index : ℕ) (e : Entry) (x : Named) → dynamic_in es index e ≡ Ok x
    → (bootstrap : ℕ) × (name_and_type : ℕ) × (e ≡ Dynamic bootstrap name_and_type) × (name_and_type_at es name_and_type ≡ Ok x)
dynamic_is es index (Dynamic bootstrap name_and_type) x h = (bootstrap, name_and_type, refl, h)
dynamic_is es index e x h = absurd cc

pub dynamic_stands : (es : List Entry) (index : ℕ) (x : Named) → dynamic_at es index ≡ Ok x → HasDynamic es index x
unfolding dynamic_at
dynamic_stands es index x h =
    let t = both (entry_at es index) (dynamic_in es index) x h in
    let c = dynamic_is es index t.0 x t.2 in
    record { bootstrap = c.0; name_and_type = c.1; entry = entry_stands es index (Dynamic c.0 c.1) (t.1 ∙ ap Ok c.2); named = name_and_type_stands es c.1 x c.3 }

pub stands_dynamic : (es : List Entry) (index : ℕ) (x : Named) → HasDynamic es index x → dynamic_at es index ≡ Ok x
unfolding dynamic_at
stands_dynamic es index x s =
    then (entry_at es index) (dynamic_in es index) (Dynamic s.bootstrap s.name_and_type) x (stands_entry es index (Dynamic s.bootstrap s.name_and_type) s.entry)
    (stands_name_and_type es s.name_and_type x s.named)

invoke_dynamic_is : (es : List Entry) (index : ℕ) (e : Entry) (x : Named) → invoke_dynamic_in es index e ≡ Ok x
    → (bootstrap : ℕ) × (name_and_type : ℕ) × (e ≡ InvokeDynamic bootstrap name_and_type) × (name_and_type_at es name_and_type ≡ Ok x)
invoke_dynamic_is es index (InvokeDynamic bootstrap name_and_type) x h = (bootstrap, name_and_type, refl, h)
invoke_dynamic_is es index e x h = absurd cc

pub invoke_dynamic_stands : (es : List Entry) (index : ℕ) (x : Named) → invoke_dynamic_at es index ≡ Ok x → HasInvokeDynamic es index x
unfolding invoke_dynamic_at
invoke_dynamic_stands es index x h =
    let t = both (entry_at es index) (invoke_dynamic_in es index) x h in
    let c = invoke_dynamic_is es index t.0 x t.2 in
    record { bootstrap = c.0; name_and_type = c.1; entry = entry_stands es index (InvokeDynamic c.0 c.1) (t.1 ∙ ap Ok c.2); named = name_and_type_stands es c.1 x c.3 }

pub stands_invoke_dynamic : (es : List Entry) (index : ℕ) (x : Named) → HasInvokeDynamic es index x → invoke_dynamic_at es index ≡ Ok x
unfolding invoke_dynamic_at
stands_invoke_dynamic es index x s =
    then (entry_at es index) (invoke_dynamic_in es index) (InvokeDynamic s.bootstrap s.name_and_type) x (stands_entry es index (InvokeDynamic s.bootstrap s.name_and_type) s.entry)
    (stands_name_and_type es s.name_and_type x s.named)

-- ---- fields and methods

abbrev field_of : List ℕ → Named → FieldOf
field_of class n = record { class = class; name = n.name; descriptor = n.descriptor }

member_is : (es : List Entry) (class name_and_type : ℕ) (x : FieldOf) → member es class name_and_type ≡ Ok x → HasMember es class name_and_type x
unfolding member
member_is es class name_and_type x h =
    let c = both (class_name_at es class) (λ c. and_then (name_and_type_at es name_and_type) (λ n. Ok (field_of c n))) x h in
    let n = both (name_and_type_at es name_and_type) (λ n. Ok (field_of c.0 n)) x c.2 in
    let same = same_ok (field_of c.0 n.0) x n.2 in
    record {
      class_name = class_stands es class x.class (c.1 ∙ ap (λ (y : FieldOf). Ok y.class) same);
      named = name_and_type_stands es name_and_type (named_of x.name x.descriptor) (n.1 ∙ ap (λ (y : FieldOf). Ok (named_of y.name y.descriptor)) same);
    }

is_member : (es : List Entry) (class name_and_type : ℕ) (x : FieldOf) → HasMember es class name_and_type x → member es class name_and_type ≡ Ok x
unfolding member
is_member es class name_and_type x s =
    then (class_name_at es class) (λ c. and_then (name_and_type_at es name_and_type) (λ n. Ok (field_of c n))) x.class x (stands_class es class x.class s.class_name)
    (then (name_and_type_at es name_and_type) (λ n. Ok (field_of x.class n)) (named_of x.name x.descriptor) x (stands_name_and_type es name_and_type (named_of x.name x.descriptor) s.named) refl)

field_is : (es : List Entry) (index : ℕ) (e : Entry) (x : FieldOf) → field_ref_in es index e ≡ Ok x → (class : ℕ) × (name_and_type : ℕ) × (e ≡ Fieldref class name_and_type) × (member es class name_and_type ≡ Ok x)
field_is es index (Fieldref class name_and_type) x h = (class, name_and_type, refl, h)
field_is es index e x h = absurd cc

pub field_stands : (es : List Entry) (index : ℕ) (x : FieldOf) → field_ref_at es index ≡ Ok x → HasField es index x
unfolding field_ref_at
field_stands es index x h =
    let t = both (entry_at es index) (field_ref_in es index) x h in
    let c = field_is es index t.0 x t.2 in
    record { class = c.0; name_and_type = c.1; entry = entry_stands es index (Fieldref c.0 c.1) (t.1 ∙ ap Ok c.2); member = member_is es c.0 c.1 x c.3 }

pub stands_field : (es : List Entry) (index : ℕ) (x : FieldOf) → HasField es index x → field_ref_at es index ≡ Ok x
unfolding field_ref_at
stands_field es index x s =
    then (entry_at es index) (field_ref_in es index) (Fieldref s.class s.name_and_type) x (stands_entry es index (Fieldref s.class s.name_and_type) s.entry)
    (is_member es s.class s.name_and_type x s.member)

abbrev method_of : Bool → FieldOf → MethodOf
method_of interface m = record { interface = interface; class = m.class; name = m.name; descriptor = m.descriptor }

abbrev member_of : MethodOf → FieldOf
member_of x = record { class = x.class; name = x.name; descriptor = x.descriptor }

method_is : (es : List Entry) (interface : Bool) (class name_and_type : ℕ) (x : MethodOf) → method es interface class name_and_type ≡ Ok x → (interface ≡ x.interface) × HasMember es class name_and_type (member_of x)
unfolding method
method_is es interface class name_and_type x h =
    let m = both (member es class name_and_type) (λ m. Ok (method_of interface m)) x h in
    let same = same_ok (method_of interface m.0) x m.2 in
    (ap (λ (y : MethodOf). y.interface) same, member_is es class name_and_type (member_of x) (m.1 ∙ ap (λ (y : MethodOf). Ok (member_of y)) same))

is_method : (es : List Entry) (class name_and_type : ℕ) (x : MethodOf) → HasMember es class name_and_type (member_of x) → method es x.interface class name_and_type ≡ Ok x
unfolding method
is_method es class name_and_type x s =
    then (member es class name_and_type) (λ m. Ok (method_of x.interface m)) (member_of x) x (is_member es class name_and_type (member_of x) s) refl

method_ref_is : (es : List Entry) (index : ℕ) (e : Entry) (x : MethodOf) → method_ref_in es index e ≡ Ok x
    → (interface : Bool) × (class : ℕ) × (name_and_type : ℕ) × (e ≡ methodref interface class name_and_type) × (method es interface class name_and_type ≡ Ok x)
method_ref_is es index (Methodref class name_and_type) x h = (false, class, name_and_type, refl, h)
method_ref_is es index (InterfaceMethodref class name_and_type) x h = (true, class, name_and_type, refl, h)
method_ref_is es index e x h = absurd cc

pub method_stands : (es : List Entry) (index : ℕ) (x : MethodOf) → method_ref_at es index ≡ Ok x → HasMethod es index x
unfolding method_ref_at
method_stands es index x h =
    let t = both (entry_at es index) (method_ref_in es index) x h in
    let c = method_ref_is es index t.0 x t.2 in
    let m = method_is es c.0 c.1 c.2 x c.4 in
    let there : entry_at es index ≡ Ok (methodref x.interface c.1 c.2) = t.1 ∙ ap Ok c.3 ∙ ap (λ (b : Bool). Ok (methodref b c.1 c.2)) m.0 in
    record { class = c.1; name_and_type = c.2; entry = entry_stands es index (methodref x.interface c.1 c.2) there; member = m.1 }

from_methodref : (es : List Entry) (index : ℕ) (interface : Bool) (class name_and_type : ℕ) → method_ref_in es index (methodref interface class name_and_type) ≡ method es interface class name_and_type
from_methodref es index false class name_and_type = refl
from_methodref es index true class name_and_type = refl

pub stands_method : (es : List Entry) (index : ℕ) (x : MethodOf) → HasMethod es index x → method_ref_at es index ≡ Ok x
unfolding method_ref_at
stands_method es index x s =
    then (entry_at es index) (method_ref_in es index) (methodref x.interface s.class s.name_and_type) x (stands_entry es index (methodref x.interface s.class s.name_and_type) s.entry)
    (from_methodref es index x.interface s.class s.name_and_type ∙ is_method es s.class s.name_and_type x s.member)
