-- A method is seen as its class file has it.
use Rattle.std.proofs.Common.{◌≡◌, ℕ, Bool, true, false, nat_eq, List, [], ◌∷◌, Option, Some, None, Result, Ok, Err, if◌then◌else◌, inl, inr, slice_get, sym, ap, refl, ◌∙◌, subst}
use Rattle.std.specs.Option.{option_and_then}
use Rattle.std.specs.Str.{bytes_eq}
use Rattle.std.proofs.lemmas.Slice.Eq.{bytes_eq-Decides}
use Rattle.names.specs.declared.fault.NameFault.{NameFault}
use Rattle.names.specs.Descriptors.{FieldDescriptor, primitive, class, array, MethodDescriptor}
use Rattle.names.specs.ReferenceTypes.{ReferenceType, class_type, begins_array, array_of, reference_type}
use Rattle.names.specs.StandardNames.{init_name}
use Rattle.names.specs.Reading.{field_answer}
use Rattle.pool.specs.declared.fault.PoolFault.{PoolFault}
use Rattle.pool.specs.Entries.{Entry}
use Rattle.pool.specs.Lookups.{Named, HasText, HasClassName, text_at, class_name_at}
use Rattle.pool.specs.ConstantMeanings.{found, class_at}
use Rattle.pool.proofs.LookupLaws.{text_stands, stands_text, class_stands, stands_class}
use Rattle.classfile.specs.Flags.{has, STATIC}
use Rattle.classfile.specs.Values.{Handler, CodeBody, Member}
use Rattle.classfile.specs.Methods.{JudgedClass, Method, ExceptionEntry, IsEntry, code_of, class_named, superclass_of, with_name, names_at, texts, declared_fields, caught_type, entry_with, exception_entries, member_type, method_with, method_from}
use Rattle.insn.specs.Meanings.{Act}
use Rattle.insn.specs.Offsets.{acts, IsAmong}
use Rattle.verify.specs.ClassMethods.{IsMethod}
use Rattle.verify.specs.SeenMethods.{IsSeen, MethodsAreSeen}

one : {A : Type 0} (a b : A) → Some a ≡ Some b → a ≡ b
one a b e = cc

ok_where : {A E : Type 0} (r : Result A E) (a : A) → found r ≡ Some a → r ≡ Ok a
ok_where (Ok b) a e = ap Ok (one b a e)
ok_where (Err x) a e = cc

-- ---- the names of classes

array_is_none : (r : Result FieldDescriptor NameFault) (name : List ℕ) → class_named (array_of r) ≡ Some name → ⊥
array_is_none (Err x) name e = cc
array_is_none (Ok (primitive p)) name e = cc
array_is_none (Ok (class n)) name e = cc
array_is_none (Ok (array c)) name e = cc

named_text : (text name : List ℕ) → class_named (reference_type text) ≡ Some name → text ≡ name
named_text text name e = by (begins_array text) e
  where
    by : (b : Bool) → class_named (if b then array_of (field_answer text) else Some (class_type text)) ≡ Some name → text ≡ name
    by true k = absurd (array_is_none (field_answer text) name k)
    by false k = one text name k

class_found : (r : Result (List ℕ) PoolFault) (name : List ℕ) → class_named (option_and_then reference_type (found r)) ≡ Some name → r ≡ Ok name
class_found (Ok text) name e = ap Ok (named_text text name e)
class_found (Err x) name e = cc

has_class : (pool : List Entry) (index : ℕ) (name : List ℕ) → class_named (class_at pool index) ≡ Some name → HasClassName pool index name
has_class pool index name e = class_stands pool index name (class_found (class_name_at pool index) name e)

has_superclass : (pool : List Entry) (index : ℕ) (name : List ℕ) → superclass_of pool index ≡ Some name → HasClassName pool index name
has_superclass pool index name e = by (nat_eq index 0) e
  where
    by : (b : Bool) → (if b then None else class_named (class_at pool index)) ≡ Some name → HasClassName pool index name
    by true k = cc
    by false k = has_class pool index name k

-- ---- fields

module _ (pool : List Entry) where
  abbrev Declares : List Member → Named → Type 0
  Declares fs n = (f : Member) × IsAmong f fs × HasText pool f.name n.name × HasText pool f.descriptor n.descriptor

  later : (f : Member) (fs : List Member) (n : Named) → Declares fs n → Declares (f ∷ fs) n
  later f fs n k = (k.0, inr k.1, k.2, k.3)

  first_declared : (f : Member) (fs : List Member) (on od : Option (List ℕ)) (others : List Named) → found (text_at pool f.name) ≡ on → found (text_at pool f.descriptor) ≡ od
      → ((n : Named) → IsAmong n others → Declares fs n) → (n : Named) → IsAmong n (texts on od others) → Declares (f ∷ fs) n
  first_declared f fs (Some name) (Some descriptor) others p q more n (inl e) =
      let a : HasText pool f.name name = text_stands pool f.name name (ok_where (text_at pool f.name) name p) in
      let d : HasText pool f.descriptor descriptor = text_stands pool f.descriptor descriptor (ok_where (text_at pool f.descriptor) descriptor q) in
      (f, inl refl, subst (λ z. HasText pool f.name z.name) (sym e) a, subst (λ z. HasText pool f.descriptor z.descriptor) (sym e) d)
  first_declared f fs (Some name) (Some descriptor) others p q more n (inr i) = later f fs n (more n i)
  first_declared f fs None od others p q more n i = later f fs n (more n i)
  first_declared f fs (Some name) None others p q more n i = later f fs n (more n i)

  declared_so : (fs : List Member) (n : Named) → IsAmong n (declared_fields pool fs) → Declares fs n
  declared_so [] n i = elim i [ ]
  declared_so (f ∷ fs) n i = first_declared f fs (found (text_at pool f.name)) (found (text_at pool f.descriptor)) (declared_fields pool fs) refl refl (declared_so fs) n i

  kept : (on od : Option (List ℕ)) (others : List Named) (n : Named) → IsAmong n others → IsAmong n (texts on od others)
  kept (Some name) (Some descriptor) others n i = inr i
  kept None od others n i = i
  kept (Some name) None others n i = i

  here_it_is : (f : Member) (others : List Named) (n : Named) → HasText pool f.name n.name → HasText pool f.descriptor n.descriptor → IsAmong n (texts (found (text_at pool f.name)) (found (text_at pool f.descriptor)) others)
  here_it_is f others n a d =
      let p : found (text_at pool f.name) ≡ Some n.name = ap found (stands_text pool f.name n.name a) in
      let q : found (text_at pool f.descriptor) ≡ Some n.descriptor = ap found (stands_text pool f.descriptor n.descriptor d) in
      rw (p, q) (inl refl)

  so_declared : (fs : List Member) (n : Named) (f : Member) → IsAmong f fs → HasText pool f.name n.name → HasText pool f.descriptor n.descriptor → IsAmong n (declared_fields pool fs)
  so_declared [] n f i a d = elim i [ ]
  so_declared (g ∷ fs) n f (inl e) a d = here_it_is g (declared_fields pool fs) n (subst (λ z. HasText pool z.name n.name) e a) (subst (λ z. HasText pool z.descriptor n.descriptor) e d)
  so_declared (g ∷ fs) n f (inr i) a d = kept (found (text_at pool g.name)) (found (text_at pool g.descriptor)) (declared_fields pool fs) n (so_declared fs n f i a d)

  -- ---- superinterfaces

  abbrev Lists : List ℕ → List ℕ → Type 0
  Lists indices name = (index : ℕ) × IsAmong index indices × HasClassName pool index name

  listed_so : (indices : List ℕ) (name : List ℕ) → IsAmong name (names_at pool indices) → Lists indices name
  listed_so [] name i = elim i [ ]
  listed_so (index ∷ others) name i = by (class_name_at pool index) refl (listed_so others name) i
    where
      by : (r : Result (List ℕ) PoolFault) → class_name_at pool index ≡ r → (IsAmong name (names_at pool others) → Lists others name) → IsAmong name (with_name r (names_at pool others)) → Lists (index ∷ others) name
      by (Ok text) q more (inl e) = (index, inl refl, class_stands pool index name (q ∙ ap Ok (sym e)))
      by (Ok text) q more (inr j) = let x = more j in (x.0, inr x.1, x.2)
      by (Err x) q more j = let x = more j in (x.0, inr x.1, x.2)

  still_listed : (r : Result (List ℕ) PoolFault) (names : List (List ℕ)) (name : List ℕ) → IsAmong name names → IsAmong name (with_name r names)
  still_listed (Ok text) names name i = inr i
  still_listed (Err x) names name i = i

  so_listed : (indices : List ℕ) (name : List ℕ) (index : ℕ) → IsAmong index indices → HasClassName pool index name → IsAmong name (names_at pool indices)
  so_listed [] name index i h = elim i [ ]
  so_listed (first ∷ others) name index (inl e) h =
      let here : class_name_at pool first ≡ Ok name = ap (class_name_at pool) (sym e) ∙ stands_class pool index name h in
      subst (λ (r : Result (List ℕ) PoolFault). IsAmong name (with_name r (names_at pool others))) (sym here) (inl refl)
  so_listed (first ∷ others) name index (inr i) h = still_listed (class_name_at pool first) (names_at pool others) name (so_listed others name index i h)

  -- ---- exception tables

  abbrev Of : List Handler → ExceptionEntry → Type 0
  Of hs e = (h : Handler) × IsAmong h hs × IsEntry pool h e

  abbrev made : Handler → ReferenceType → ExceptionEntry
  made h caught = record { from = h.start_pc; to = h.end_pc; handler = h.handler_pc; caught = caught }

  record Split (h : Handler) (hs : List Handler) (es : List ExceptionEntry) : Type 0 where
    caught : ReferenceType
    others : List ExceptionEntry
    type : caught_type pool h.catch_type ≡ Some caught
    rest : exception_entries pool hs ≡ Some others
    whole : made h caught ∷ others ≡ es

  split : (h : Handler) (hs : List Handler) (es : List ExceptionEntry) → exception_entries pool (h ∷ hs) ≡ Some es → Split h hs es
  split h hs es e = by (caught_type pool h.catch_type) (exception_entries pool hs) refl refl e
    where
      by : (o : Option ReferenceType) (r : Option (List ExceptionEntry)) → caught_type pool h.catch_type ≡ o → exception_entries pool hs ≡ r → entry_with h o r ≡ Some es → Split h hs es
      by (Some caught) (Some others) p q k = record { caught = caught; others = others; type = p; rest = q; whole = one (made h caught ∷ others) es k }
      by None r p q k = cc
      by (Some caught) None p q k = cc

  entry_of : (h : Handler) (caught : ReferenceType) (e : ExceptionEntry) → caught_type pool h.catch_type ≡ Some caught → e ≡ made h caught → IsEntry pool h e
  entry_of h caught e p q = record { caught = p ∙ ap (λ z. Some z.caught) (sym q); is = q ∙ ap (made h) (sym (ap (λ z. z.caught) q)) }

  table_so : (hs : List Handler) (es : List ExceptionEntry) → exception_entries pool hs ≡ Some es → (e : ExceptionEntry) → IsAmong e es → Of hs e
  table_so [] es k e i = let none : [] ≡ es = one [] es k in elim (subst (IsAmong e) (sym none) i) [ ]
  table_so (h ∷ hs) es k e i =
      let s = split h hs es k in
      first h hs s.caught s.others s.type (table_so hs s.others s.rest) e (subst (IsAmong e) (sym s.whole) i)
    where
      first : (h : Handler) (hs : List Handler) (caught : ReferenceType) (others : List ExceptionEntry) → caught_type pool h.catch_type ≡ Some caught → ((e : ExceptionEntry) → IsAmong e others → Of hs e) → (e : ExceptionEntry) → IsAmong e (made h caught ∷ others) → Of (h ∷ hs) e
      first h hs caught others p more e (inl q) = (h, inl refl, entry_of h caught e p q)
      first h hs caught others p more e (inr j) = let x = more e j in (x.0, inr x.1, x.2)

  so_table : (hs : List Handler) (es : List ExceptionEntry) → exception_entries pool hs ≡ Some es → (e : ExceptionEntry) (h : Handler) → IsAmong h hs → IsEntry pool h e → IsAmong e es
  so_table [] es k e h i x = elim i [ ]
  so_table (g ∷ hs) es k e h (inl q) x =
      let s = split g hs es k in
      let y : IsEntry pool g e = subst (λ z. IsEntry pool z e) q x in
      let same : e.caught ≡ s.caught = one e.caught s.caught (sym y.caught ∙ s.type) in
      subst (IsAmong e) s.whole (inl (y.is ∙ ap (made g) same))
  so_table (g ∷ hs) es k e h (inr i) x =
      let s = split g hs es k in
      subst (IsAmong e) s.whole (inr (so_table hs s.others s.rest e h i x))

-- ---- the method

record Seen (c : JudgedClass) (member : Member) (body : CodeBody) (name : List ℕ) (m : Method Act) : Type 0 where
  name_is : found (text_at c.file.constant_pool member.name) ≡ Some name
  class_is : class_named (class_at c.file.constant_pool c.file.this_class) ≡ Some m.class
  entries : exception_entries c.file.constant_pool body.exception_table ≡ Some m.exceptions
  super : m.superclass ≡ superclass_of c.file.constant_pool c.file.super_class
  interfaces : m.interfaces ≡ names_at c.file.constant_pool c.file.interfaces
  fields : m.fields ≡ declared_fields c.file.constant_pool c.file.fields
  release : m.release ≡ c.file.release
  static : m.is_static ≡ has member.access_flags STATIC
  init : m.is_init ≡ bytes_eq name init_name
  stack : m.max_stack ≡ body.max_stack
  locals : m.max_locals ≡ body.max_locals

abbrev SomeSeen : JudgedClass → Member → CodeBody → Method Act → Type 0
SomeSeen c member body m = (name : List ℕ) × Seen c member body name m

by_parts : (c : JudgedClass) (member : Member) (code : List (ℕ × Act)) (body : CodeBody) (oc on : Option (List ℕ)) (ot : Option MethodDescriptor) (oe : Option (List ExceptionEntry)) (m : Method Act)
    → class_named (class_at c.file.constant_pool c.file.this_class) ≡ oc → found (text_at c.file.constant_pool member.name) ≡ on → exception_entries c.file.constant_pool body.exception_table ≡ oe
    → method_with c member code body oc on ot oe ≡ Some m → SomeSeen c member body m
by_parts c member code body (Some k) (Some name) (Some type) (Some exceptions) m p q r e =
    let x = one _ m e in (
      name,
      record {
        name_is = q;
        class_is = p ∙ ap (λ z. Some z.class) x;
        entries = r ∙ ap (λ z. Some z.exceptions) x;
        super = sym (ap (λ z. z.superclass) x);
        interfaces = sym (ap (λ z. z.interfaces) x);
        fields = sym (ap (λ z. z.fields) x);
        release = sym (ap (λ z. z.release) x);
        static = sym (ap (λ z. z.is_static) x);
        init = sym (ap (λ z. z.is_init) x);
        stack = sym (ap (λ z. z.max_stack) x);
        locals = sym (ap (λ z. z.max_locals) x);
      },
    )
by_parts c member code body _ _ _ _ m p q r e = cc

seen_in : (c : JudgedClass) (number : ℕ) (m : Method Act) → IsMethod c number m → (member : Member) → slice_get c.file.methods number ≡ Some member → (body : CodeBody) → code_of member.attributes ≡ Some body → SomeSeen c member body m
seen_in c number m i member at body has_code =
    let code = acts i.instructions in
    let pool = c.file.constant_pool in
    let e : option_and_then (method_from c code) (Some member) ≡ Some m = sym (ap (option_and_then (method_from c code)) at) ∙ i.method in
    let build : CodeBody → Option (Method Act) = λ b. method_with c member code b (class_named (class_at pool c.file.this_class)) (found (text_at pool member.name)) (member_type pool member) (exception_entries pool b.exception_table) in
    let f : build body ≡ Some m = sym (ap (option_and_then build) has_code) ∙ e in
    by_parts c member code body (class_named (class_at pool c.file.this_class)) (found (text_at pool member.name)) (member_type pool member) (exception_entries pool body.exception_table) m refl refl refl f

is_seen : (c : JudgedClass) (member : Member) (body : CodeBody) (name : List ℕ) (m : Method Act) → Seen c member body name m → IsSeen c member body m
is_seen c member body name m s =
    let pool = c.file.constant_pool in
    record {
      class = has_class pool c.file.this_class m.class s.class_is;
      superclass = λ n e. has_superclass pool c.file.super_class n (sym s.super ∙ e);
      interfaces = λ n. (λ i. listed_so pool c.file.interfaces n (subst (IsAmong n) s.interfaces i), λ k. subst (IsAmong n) (sym s.interfaces) (so_listed pool c.file.interfaces n k.0 k.1 k.2));
      static = (λ e. sym s.static ∙ e, λ e. s.static ∙ e);
      init = (to, from);
      max_stack = s.stack;
      max_locals = s.locals;
      exceptions = λ e. (table_so pool body.exception_table m.exceptions s.entries e, λ k. so_table pool body.exception_table m.exceptions s.entries e k.0 k.1 k.2);
      fields = λ n. (λ i. declared_so pool c.file.fields n (subst (IsAmong n) s.fields i), λ k. subst (IsAmong n) (sym s.fields) (so_declared pool c.file.fields n k.0 k.1 k.2 k.3));
      release = s.release;
    }
  where
    to : m.is_init ≡ true → HasText c.file.constant_pool member.name init_name
    to e =
        let same : name ≡ init_name = (bytes_eq-Decides name init_name).0 (sym s.init ∙ e) in
        text_stands c.file.constant_pool member.name init_name (ok_where (text_at c.file.constant_pool member.name) init_name (s.name_is ∙ ap Some same))

    from : HasText c.file.constant_pool member.name init_name → m.is_init ≡ true
    from k =
        let same : name ≡ init_name = one name init_name (sym s.name_is ∙ ap found (stands_text c.file.constant_pool member.name init_name k)) in
        s.init ∙ (bytes_eq-Decides name init_name).1 same

pub methods_are_seen : MethodsAreSeen
methods_are_seen c number m i member at body has_code =
    let s = seen_in c number m i member at body has_code in
    is_seen c member body s.0 m s.1
