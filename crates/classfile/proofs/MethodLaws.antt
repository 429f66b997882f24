-- A method of a well-formed class by its parts, whatever its code says.
use Rattle.std.proofs.Common.{◌≡◌, ◌<◌, ◌+◌, ℕ, suc, Bool, not, List, [], ◌∷◌, length, drop, drop-cons, add-one, Option, Some, None, Result, Ok, Err, refl, sym, ap, ◌∙◌}
use Rattle.std.specs.Prelude.{slice_get}
use Rattle.std.specs.Option.{option_map, option_and_then}
use Rattle.std.specs.Str.{bytes_eq}
use Rattle.std.proofs.lemmas.Option.{none-some, slice_get_within, get_or_from_slice_get}
use Rattle.names.specs.declared.fault.NameFault.{NameFault}
use Rattle.names.specs.Descriptors.{FieldDescriptor, MethodDescriptor}
use Rattle.names.specs.StandardNames.{init_name}
use Rattle.names.specs.Reading.{method_answer}
use Rattle.pool.specs.declared.fault.PoolFault.{PoolFault}
use Rattle.pool.specs.Entries.{Entry}
use Rattle.pool.specs.Lookups.{text_at}
use Rattle.pool.specs.ConstantMeanings.{found, class_at}
use Rattle.classfile.specs.Values.{CodeBody, Attribute, Member}
use Rattle.classfile.specs.Flags.{has, STATIC}
use Rattle.classfile.specs.Methods.{JudgedClass, Method, judged_bootstraps, ExceptionEntry, code_of, class_named, superclass_of, names_at, declared_fields, exception_entries, stack_map_of, member_type, method_with, method_from, method_of}
use Rattle.classfile.specs.MethodParts.{or_empty, params_in, params_at, method_by_parts, IsMethod}
use Rattle.classfile.specs.Indices.{on_found}
use Rattle.classfile.specs.Naming.{is_init as is_init_name}
use Rattle.classfile.specs.MemberForm.{is_instance_initializer}
use Rattle.classfile.specs.WellFormed.{WellFormed}
use Rattle.classfile.proofs.FormedMethods.{NamesMethod, formed_method}

-- ---- what a method's parts are looked up from

abbrev this_name : JudgedClass → Option (List ℕ)
this_name c = class_named (class_at c.file.constant_pool c.file.this_class)

abbrev name_in : JudgedClass → Member → Option (List ℕ)
name_in c m = found (text_at c.file.constant_pool m.name)

abbrev entries_in : JudgedClass → CodeBody → Option (List ExceptionEntry)
entries_in c body = exception_entries c.file.constant_pool body.exception_table

abbrev with_body : {A : Type 0} → JudgedClass → Member → List (ℕ × A) → CodeBody → Option (Method A)
with_body c m code body = method_with c m code body (this_name c) (name_in c m) (member_type c.file.constant_pool m) (entries_in c body)

abbrev read_as : Member → List ℕ → Option MethodDescriptor
read_as m text = found (method_answer (not (has m.access_flags STATIC)) text)

-- ---- what the code says is only handed on

abbrev with_code : {A B : Type 0} → List (ℕ × B) → Method A → Method B
with_code code m = record {
  code = code;
  code_length = m.code_length;
  max_stack = m.max_stack;
  max_locals = m.max_locals;
  exceptions = m.exceptions;
  stack_map = m.stack_map;
  constant_pool = m.constant_pool;
  major_version = m.major_version;
  class = m.class;
  superclass = m.superclass;
  interfaces = m.interfaces;
  fields = m.fields;
  is_static = m.is_static;
  is_init = m.is_init;
  type = m.type;
  bootstraps = m.bootstraps;
  dynamic = m.dynamic;
  release = m.release;
}

handed_with :
    {A B : Type 0} (c : JudgedClass) (m : Member) (body : CodeBody) (class name : Option (List ℕ)) (type : Option MethodDescriptor)
    (entries : Option (List ExceptionEntry)) (a : List (ℕ × A)) (b : List (ℕ × B))
    → method_with c m b body class name type entries ≡ option_map (with_code b) (method_with c m a body class name type entries)
handed_with c m body (Some class) (Some name) (Some type) (Some entries) a b = refl
handed_with c m body _ _ _ _ a b = refl

handed_on : {A B : Type 0} (c : JudgedClass) (number : ℕ) (a : List (ℕ × A)) (b : List (ℕ × B))
    → method_of c number b ≡ option_map (with_code b) (method_of c number a)
handed_on c number a b = by_member (slice_get c.file.methods number)
  where
    by_body : (m : Member) (body : Option CodeBody) →
        option_and_then (with_body c m b) body
        ≡ option_map (with_code b) (option_and_then (with_body c m a) body)
    by_body m None = refl
    by_body m (Some body) =
        handed_with c m body (this_name c) (name_in c m) (member_type c.file.constant_pool m) (entries_in c body) a b

    by_member : (m : Option Member) → option_and_then (method_from c b) m ≡ option_map (with_code b) (option_and_then (method_from c a) m)
    by_member None = refl
    by_member (Some m) = by_body m (code_of m.attributes)

-- the method of this number has the parts, with any code
pub method_says : {A : Type 0} (c : JudgedClass) (number : ℕ) (body : CodeBody) (is_static is_init : Bool) (result : Option FieldDescriptor)
    → IsMethod c number body is_static is_init result
    → (code : List (ℕ × A)) → method_of c number code ≡ Some (method_by_parts c number body is_static is_init result code)
method_says {A} c number body is_static is_init result is code =
    handed_on {A = ℕ} {B = A} c number [] code ∙ ap (option_map (with_code code)) is

-- ---- the parts of a method of a well-formed class

abbrev assembled : JudgedClass → CodeBody → List ℕ → List ExceptionEntry → Bool → Bool → MethodDescriptor → Method ℕ
assembled c body class entries is_static is_init type = record {
  code = [];
  code_length = length body.code;
  max_stack = body.max_stack;
  max_locals = body.max_locals;
  exceptions = entries;
  stack_map = stack_map_of body.attributes;
  constant_pool = c.file.constant_pool;
  major_version = c.file.major_version;
  class = class;
  superclass = superclass_of c.file.constant_pool c.file.super_class;
  interfaces = names_at c.file.constant_pool c.file.interfaces;
  fields = declared_fields c.file.constant_pool c.file.fields;
  is_static = is_static;
  is_init = is_init;
  type = type;
  bootstraps = judged_bootstraps c;
  dynamic = c.dynamic;
  release = c.file.release;
}

looked_up : (c : JudgedClass) (number : ℕ) (m : Member) (body : CodeBody) → slice_get c.file.methods number ≡ Some m
    → code_of m.attributes ≡ Some body → (x : NamesMethod c.file m body)
    → method_of {A = ℕ} c number []
    ≡ Some (assembled c body x.class x.entries (has m.access_flags STATIC) (bytes_eq x.name init_name) x.type)
looked_up c number m body here coded x =
    let type : member_type c.file.constant_pool m ≡ Some x.type =
    ap (λ (r : Result (List ℕ) PoolFault). option_and_then (read_as m) (found r)) x.descriptor_is
    ∙ ap (λ (r : Result MethodDescriptor NameFault). found r) x.type_is in
    let build : Option (List ℕ) → Option (List ℕ) → Option MethodDescriptor → Option (List ExceptionEntry) → Option (Method ℕ) =
    λ class name type entries. method_with c m [] body class name type entries in
    ap (option_and_then (method_from c [])) here
    ∙ ap (option_and_then (with_body c m [])) coded
    ∙ ap (λ o. build o (name_in c m) (member_type c.file.constant_pool m) (entries_in c body)) x.class_is
    ∙ ap (λ (r : Result (List ℕ) PoolFault). build (Some x.class) (found r) (member_type c.file.constant_pool m) (entries_in c body)) x.name_is
    ∙ ap (λ o. build (Some x.class) (Some x.name) o (entries_in c body)) type
    ∙ ap (build (Some x.class) (Some x.name) (Some x.type)) x.entries_are

params_are : (c : JudgedClass) (number : ℕ) (m : Member) (body : CodeBody) → slice_get c.file.methods number ≡ Some m → (x : NamesMethod c.file m body)
    → params_at c.file number ≡ x.type.params
params_are c number m body here x =
    ap (λ (o : Option Member). params_in (option_and_then (member_type c.file.constant_pool) o)) here
    ∙ ap (λ (r : Result (List ℕ) PoolFault). params_in (option_and_then (read_as m) (found r))) x.descriptor_is
    ∙ ap (λ (r : Result MethodDescriptor NameFault). params_in (found r)) x.type_is

is_method : (c : JudgedClass) (number : ℕ) (m : Member) (body : CodeBody) (is_static is_init : Bool) (result : Option FieldDescriptor)
    → slice_get c.file.methods number ≡ Some m → code_of m.attributes ≡ Some body
    → (x : NamesMethod c.file m body) → is_static ≡ has m.access_flags STATIC → is_init ≡ bytes_eq x.name init_name
    → result ≡ x.type.result → IsMethod c number body is_static is_init result
is_method c number m body is_static is_init result here coded x static init type =
    let class : x.class ≡ or_empty (class_named (class_at c.file.constant_pool c.file.this_class)) = ap or_empty (sym x.class_is) in
    let entries : x.entries ≡ or_empty (exception_entries c.file.constant_pool body.exception_table) = ap or_empty (sym x.entries_are) in
    let params : x.type.params ≡ params_at c.file number = sym (params_are c number m body here x) in
    looked_up c number m body here coded x
    ∙ (λ i. Some (assembled c body (class i) (entries i) (sym static i) (sym init i) (record { params = params i; result = sym type i })))

-- the method of this number, by what was read of it
pub method_there : (c : JudgedClass) → WellFormed c.file
    → (number : ℕ) (m : Member) (body : CodeBody) (is_static is_init : Bool) (result : Option FieldDescriptor)
    → slice_get c.file.methods number ≡ Some m → code_of m.attributes ≡ Some body
    → is_static ≡ has m.access_flags STATIC → is_init ≡ is_instance_initializer c.file.constant_pool m
    → ((receiver : Bool) (t : MethodDescriptor)
    → option_and_then (λ text. found (method_answer receiver text)) (found (text_at c.file.constant_pool m.descriptor)) ≡ Some t
    → result ≡ t.result)
    → IsMethod c number body is_static is_init result
unfolding has is_instance_initializer
method_there c formed number m body is_static is_init result here coded static init answers =
    let x = formed_method c.file formed number m body here coded in
    let receiver = not (has m.access_flags STATIC) in
    let type : option_and_then (λ text. found (method_answer receiver text)) (found (text_at c.file.constant_pool m.descriptor)) ≡ Some x.type =
    ap (λ (r : Result (List ℕ) PoolFault). option_and_then (λ text. found (method_answer receiver text)) (found r)) x.descriptor_is
    ∙ ap (λ (r : Result MethodDescriptor NameFault). found r) x.type_is in
    let name = init ∙ ap (on_found is_init_name) x.name_is in
    is_method c number m body is_static is_init result here coded x static name (answers receiver x.type type)

-- ---- what a method tells of the member that it is

pub record MemberOf (c : JudgedClass) (number : ℕ) (v : Method ℕ) : Type 0 where
  pub member : Member
  pub here : slice_get c.file.methods number ≡ Some member
  pub type_is : member_type c.file.constant_pool member ≡ Some v.type
  pub static_is : v.is_static ≡ has member.access_flags STATIC

pub member_of : (c : JudgedClass) (number : ℕ) (v : Method ℕ) → method_of c number [] ≡ Some v → MemberOf c number v
member_of c number v e = by_member (slice_get c.file.methods number) refl e
  where
    same : (a : Method ℕ) → (let x : Option (Method ℕ) = Some a in x) ≡ Some v → a ≡ v
    same a e = cc

    by_parts : (m : Member) → slice_get c.file.methods number ≡ Some m
        → (body : CodeBody) (class name : Option (List ℕ)) (type : Option MethodDescriptor) (entries : Option (List ExceptionEntry))
        → member_type c.file.constant_pool m ≡ type → method_with c m [] body class name type entries ≡ Some v → MemberOf c number v
    by_parts m here body (Some class) (Some name) (Some type) (Some entries) is e =
        let v_is = same _ e in
        record {
          member = m;
          here = here;
          type_is = is ∙ ap (λ (x : Method ℕ). Some x.type) v_is;
          static_is = sym (ap (λ (x : Method ℕ). x.is_static) v_is);
        }
    by_parts m here body _ _ _ _ is e = absurd (none-some v e)

    by_body : (m : Member) → slice_get c.file.methods number ≡ Some m → (body : Option CodeBody)
        → option_and_then (with_body c m []) body ≡ Some v
        → MemberOf c number v
    by_body m here None e = absurd (none-some v e)
    by_body m here (Some body) e =
        by_parts m here body (this_name c) (name_in c m) (member_type c.file.constant_pool m) (entries_in c body) refl e

    by_member : (m : Option Member) → slice_get c.file.methods number ≡ m → option_and_then (method_from c []) m ≡ Some v → MemberOf c number v
    by_member None is e = absurd (none-some v e)
    by_member (Some m) is e = by_body m is (code_of m.attributes) e

-- the text that a type was read from
pub record ReadFrom (pool : List Entry) (m : Member) (type : MethodDescriptor) : Type 0 where
  pub text : List ℕ
  pub text_is : text_at pool m.descriptor ≡ Ok text
  pub read : method_answer (not (has m.access_flags STATIC)) text ≡ Ok type

pub read_from : (pool : List Entry) (m : Member) (type : MethodDescriptor) → member_type pool m ≡ Some type → ReadFrom pool m type
read_from pool m type e = by_text (text_at pool m.descriptor) refl e
  where
    same : (a : MethodDescriptor) → (let x : Option MethodDescriptor = Some a in x) ≡ Some type → a ≡ type
    same a e = cc

    by_answer : (text : List ℕ) → text_at pool m.descriptor ≡ Ok text → (r : Result MethodDescriptor NameFault)
        → method_answer (not (has m.access_flags STATIC)) text ≡ r → found r ≡ Some type → ReadFrom pool m type
    by_answer text is (Ok t) read e = record { text = text; text_is = is; read = read ∙ ap (λ (x : MethodDescriptor). Ok x) (same t e) }
    by_answer text is (Err fault) read e = absurd (none-some type e)

    by_text : (r : Result (List ℕ) PoolFault) → text_at pool m.descriptor ≡ r
        → option_and_then (read_as m) (found r) ≡ Some type
        → ReadFrom pool m type
    by_text (Ok text) is e = by_answer text is (method_answer (not (has m.access_flags STATIC)) text) refl e
    by_text (Err fault) is e = absurd (none-some type e)

-- ---- the Code attribute among the others

-- from one attribute on, which is the next
pub code_from : (attributes : List Attribute) (i : ℕ) (a : Attribute) → slice_get attributes i ≡ Some a
    → code_of (drop i attributes) ≡ code_of (a ∷ drop (i + 1) attributes)
code_from attributes i a here =
    let lt : i < length attributes = slice_get_within attributes i a here in
    ap code_of (drop-cons attributes i a lt)
    ∙ ap (λ (x : Attribute). code_of (x ∷ drop (suc i) attributes)) (get_or_from_slice_get attributes i a a here)
    ∙ ap (λ (k : ℕ). code_of (a ∷ drop k attributes)) (sym (add-one i))
