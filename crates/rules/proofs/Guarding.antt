-- References to members by the entries of a pool, and the answers that are kept for them.
use Rattle.std.proofs.Common.{◌≡◌, ◌⊎◌, ℕ, zero, suc, ◌+◌, Bool, true, false, nat_eq, eqb-true, if◌then◌else◌, List, [], ◌∷◌, ◌++◌, length, map, slice_get, Option, Some, None, option_map, Result, Ok, Err, refl, sym, ◌∙◌, ap, subst, inl, inr}
use Rattle.std.specs.Option.{option_and_then}
use Rattle.std.specs.Result.{result_unwrap_or}
use Rattle.std.specs.Str.{bytes_eq}
use Rattle.std.proofs.lemmas.Option.{slice_get-map}
use Rattle.std.proofs.lemmas.List.{length-append}
use Rattle.std.proofs.lemmas.Slice.Eq.{bytes_eq-Decides}
use Rattle.names.specs.Descriptors.{FieldDescriptor, MethodDescriptor}
use Rattle.names.specs.Descriptors as descriptors
use Rattle.names.specs.declared.fault.NameFault.{NameFault}
use Rattle.names.specs.Reading.{field_answer, method_answer}
use Rattle.names.specs.ReferenceTypes.{ReferenceType, class_type, array_type, begins_array, array_of, reference_type}
use Rattle.pool.specs.declared.fault.PoolFault.{PoolFault}
use Rattle.pool.specs.Entries.{Entry, Class, Fieldref, Methodref, NameAndType}
use Rattle.pool.specs.Lookups.{FieldOf, MethodOf, class_name_at, text_at, field_ref_at, method_ref_at, StandsAt, HasMember, methodref}
use Rattle.pool.specs.ConstantMeanings.{found, constant_at, FieldConstant, field_of_class, field_constant, field_at, MethodConstant, method_of_class, method_constant, method_at}
use Rattle.pool.proofs.LookupLaws.{stands_entry, stands_text, stands_class, field_stands, method_stands}
use Rattle.classfile.specs.declared.class_file.ClassFile.{ClassFile}
use Rattle.classfile.specs.Indices.{on_found}
use Rattle.classfile.specs.Methods.{class_named}
use Rattle.classfile.specs.MethodParts.{or_empty}
use Rattle.hierarchy.specs.declared.summary.Kind.{Kind}
use Rattle.hierarchy.specs.declared.summary.Kind.TheVariants as kinds
use Rattle.hierarchy.specs.declared.member_references.MemberRef.{MemberRef}
use Rattle.hierarchy.specs.Class.{ClassFact}
use Rattle.hierarchy.specs.Nearest.{MemberReference, is_guarded}
use Rattle.hierarchy.specs.declared.texts.Texts.{Texts}
use Rattle.hierarchy.specs.ClassSummary.{text_of}
use Rattle.hierarchy.specs.Summary.{reference_of, references_of}
use Rattle.hierarchy.specs.Texts.{HasPlace}
use Rattle.hierarchy.proofs.Names.{some_same}
use Rattle.hierarchy.proofs.TextPlaces.{among_of}
use Rattle.rules.specs.declared.guards.Guards.{Guards}
use Rattle.rules.specs.declared.guards.Key.{Key}
use Rattle.rules.specs.declared.guards.Read.{Read}
use Rattle.rules.specs.Guards.{own_name, interface_in, interface_name, name_in, IsReference, field, method, is_of, names_own, key_by, other_key, with_texts, read_key, read_entry, IsPlaced, AreReadFrom, HasNumber, Numbers, Reads, AreReadSoFar, AreRead, AreGuards, references_read}
use Rattle.rules.specs.Protected.{field_reference, method_reference}

-- ---- the entry that is a reference

found_there : {A B E : Type 0} (f : A → Option B) (r : Result A E) (b : B) → option_and_then f (found r) ≡ Some b → (a : A) × (r ≡ Ok a) × (f a ≡ Some b)
found_there f (Ok a) b h = (a, refl, h)
found_there f (Err e) b h = cc

no_class : (r : Result FieldDescriptor NameFault) (name : List ℕ) → array_of r ≡ Some (class_type name) → ⊥
no_class (Ok (descriptors.primitive p)) name h = cc
no_class (Ok (descriptors.class c)) name h = cc
no_class (Ok (descriptors.array component)) name h = cc
no_class (Err e) name h = cc

-- a text that names a class is its name
class_text : (text name : List ℕ) → reference_type text ≡ Some (class_type name) → text ≡ name
class_text text name h = by (begins_array text) h
  where
    by : (b : Bool) → (if b then array_of (field_answer text) else Some (class_type text)) ≡ Some (class_type name) → text ≡ name
    by true k = absurd (no_class (field_answer text) name k)
    by false k = cc

abbrev referring : Kind → ℕ → ℕ → Entry
referring kinds.Field class name_and_type = Fieldref class name_and_type
referring kinds.Method class name_and_type = Methodref class name_and_type

abbrev texts_of : MemberReference → FieldOf
texts_of r = record { class = r.class; name = r.name; descriptor = r.descriptor }

record IsEntered (pool : List Entry) (index : ℕ) (r : MemberReference) : Type 0 where
  class : ℕ
  name_and_type : ℕ
  entry : StandsAt pool index (referring r.kind class name_and_type)
  member : HasMember pool class name_and_type (texts_of r)
  plain : reference_type r.class ≡ Some (class_type r.class)

-- ---- a field

-- the constant's texts are those that it leads to, and its class's is plain
record IsFieldOf (x : FieldOf) (f : FieldConstant) : Type 0 where
  texts : x ≡ texts_of (field_reference f)
  plain : reference_type f.class ≡ Some (class_type f.class)

field_is : (x : FieldOf) (f : FieldConstant) → field_constant x ≡ Some f → IsFieldOf x f
field_is x f h = by (reference_type x.class) refl (found (field_answer x.descriptor)) h
  where
    by : (t : Option ReferenceType) → reference_type x.class ≡ t → (d : Option FieldDescriptor) → field_of_class x t d ≡ Some f → IsFieldOf x f
    by (Some (class_type name)) is (Some type) k =
        let there : x.class ≡ name = class_text x.class name is in
        let same : ◌≡◌ {A = FieldConstant} (record { class = name; name = x.name; descriptor = x.descriptor; type = type }) f = cc in
        let class : x.class ≡ f.class = there ∙ ap (λ (z : FieldConstant). z.class) same in
        record {
          texts = λ i. record { class = class i; name = (same i).name; descriptor = (same i).descriptor };
          plain = subst (λ z. reference_type z ≡ Some (class_type z)) class (is ∙ ap (λ n. Some (class_type n)) (sym there));
        }
    by (Some (class_type name)) is None k = cc
    by (Some (array_type component)) is d k = cc
    by None is d k = cc

field_entered : (pool : List Entry) (i : ℕ) (f : FieldConstant) → field_at pool i ≡ Some f → IsEntered pool i (field_reference f)
field_entered pool i f h =
    let x = found_there field_constant (field_ref_at pool i) f h in
    let s = field_stands pool i x.0 x.1 in
    let is = field_is x.0 f x.2 in
    record { class = s.class; name_and_type = s.name_and_type; entry = s.entry; member = subst (HasMember pool s.class s.name_and_type) is.texts s.member; plain = is.plain }

-- ---- a method of a class

record IsMethodOf (x : MethodOf) (c : MethodConstant) (class : List ℕ) : Type 0 where
  interface : x.interface ≡ c.interface
  texts : ◌≡◌ {A = FieldOf} (record { class = x.class; name = x.name; descriptor = x.descriptor }) (texts_of (method_reference class c))
  plain : reference_type class ≡ Some (class_type class)

method_is : (x : MethodOf) (c : MethodConstant) (class : List ℕ) → method_constant x ≡ Some c → c.class ≡ class_type class → IsMethodOf x c class
method_is x c class h of_class = by (reference_type x.class) refl (found (method_answer false x.descriptor)) h
  where
    by : (t : Option ReferenceType) → reference_type x.class ≡ t → (d : Option MethodDescriptor) → method_of_class x t d ≡ Some c → IsMethodOf x c class
    by (Some t) is (Some type) k =
        let same : ◌≡◌ {A = MethodConstant} (record { interface = x.interface; class = t; name = x.name; descriptor = x.descriptor; type = type }) c = cc in
        let named : reference_type x.class ≡ Some (class_type class) = is ∙ ap (λ (z : MethodConstant). Some z.class) same ∙ ap (λ z. Some z) of_class in
        let there : x.class ≡ class = class_text x.class class named in
        record {
          interface = ap (λ (z : MethodConstant). z.interface) same;
          texts = λ i. record { class = there i; name = (same i).name; descriptor = (same i).descriptor };
          plain = ap reference_type (sym there) ∙ named;
        }
    by (Some t) is None k = cc
    by None is d k = cc

method_entered : (pool : List Entry) (i : ℕ) (c : MethodConstant) (class : List ℕ) → method_at pool i ≡ Some c → c.interface ≡ false → c.class ≡ class_type class
    → IsEntered pool i (method_reference class c)
method_entered pool i c class h own of_class =
    let x = found_there method_constant (method_ref_at pool i) c h in
    let s = method_stands pool i x.0 x.1 in
    let is = method_is x.0 c class x.2 of_class in
    record {
      class = s.class;
      name_and_type = s.name_and_type;
      entry = subst (λ b. StandsAt pool i (methodref b s.class s.name_and_type)) (is.interface ∙ own) s.entry;
      member = subst (HasMember pool s.class s.name_and_type) is.texts s.member;
      plain = is.plain;
    }

-- ---- a method of an interface

-- the name of its class stands at an index, to which the constant leads if it is an InterfaceMethodref
pub record IsNamedAt (pool : List Entry) (i : ℕ) (interface : Bool) (name : List ℕ) : Type 0 where
  pub index : ℕ
  pub leads : interface_name pool i ≡ (if interface then Some index else None)
  pub text : text_at pool index ≡ Ok name

interface_there : (pool : List Entry) (interface : Bool) (class types : ℕ)
    → interface_in pool (Some (methodref interface class types)) ≡ (if interface then name_in (constant_at pool class) else None)
interface_there pool true class types = refl
interface_there pool false class types = refl

pub method_named : (pool : List Entry) (i : ℕ) (c : MethodConstant) (class : List ℕ) → method_at pool i ≡ Some c → c.class ≡ class_type class → IsNamedAt pool i c.interface class
method_named pool i c class h of_class =
    let x = found_there method_constant (method_ref_at pool i) c h in
    let s = method_stands pool i x.0 x.1 in
    let is = method_is x.0 c class x.2 of_class in
    let entry = subst (λ b. StandsAt pool i (methodref b s.class s.name_and_type)) is.interface s.entry in
    let member = subst (HasMember pool s.class s.name_and_type) is.texts s.member in
    let name = member.class_name.name in
    record {
      index = name;
      leads =
          ap (λ (z : Result Entry PoolFault). interface_in pool (found z)) (stands_entry pool i (methodref c.interface s.class s.name_and_type) entry)
          ∙ interface_there pool c.interface s.class s.name_and_type
          ∙ ap (λ (z : Result Entry PoolFault). if c.interface then name_in (found z) else None) (stands_entry pool s.class (Class name) member.class_name.entry);
      text = stands_text pool name class member.class_name.text;
    }

entered : (pool : List Entry) (i : ℕ) (r : MemberReference) → IsReference pool i r → IsEntered pool i r
entered pool i r (field f h) = field_entered pool i f h
entered pool i r (method c class h own of_class) = method_entered pool i c class h own of_class

-- ---- a reference of another class than the class itself stands among the entries, and is read from there

pub record IsReadAt (c : ClassFile) (index : ℕ) (r : MemberReference) : Type 0 where
  pub place : ℕ
  pub counted : index ≡ place + 1
  pub e : Entry
  pub here : slice_get c.constant_pool place ≡ Some e
  pub read : read_entry c e ≡ Some r

abbrev key : Kind → ℕ → ℕ → ℕ → Key
key kind class name descriptor = record { kind = kind; class = class; name = name; descriptor = descriptor }

-- the indices of its texts
key_there : (pool : List Entry) (kind : Kind) (class types : ℕ) (f : FieldOf) (m : HasMember pool class types f)
    → key_by kind (constant_at pool class) (constant_at pool types) ≡ Some (key kind m.class_name.name m.named.name m.named.descriptor)
key_there pool kind class types f m =
    ap (λ (z : Result Entry PoolFault). key_by kind (found z) (constant_at pool types)) (stands_entry pool class (Class m.class_name.name) m.class_name.entry)
    ∙ ap (λ (z : Result Entry PoolFault). key_by kind (Some (Class m.class_name.name)) (found z)) (stands_entry pool types (NameAndType m.named.name m.named.descriptor) m.named.entry)

key_read : (pool : List Entry) (kind : Kind) (class types : ℕ) (f : FieldOf) (m : HasMember pool class types f)
    → read_key pool (key kind m.class_name.name m.named.name m.named.descriptor) ≡ Some (record { class = f.class; kind = kind; name = f.name; descriptor = f.descriptor })
key_read pool kind class types f m = λ i.
    with_texts kind (stands_text pool m.class_name.name f.class m.class_name.text i) (stands_text pool m.named.name f.name m.named.name_text i)
    (stands_text pool m.named.descriptor f.descriptor m.named.descriptor_text i)

read_other : (c : ClassFile) (kind : Kind) (class types : ℕ) (f : FieldOf) → nat_eq class c.this_class ≡ false → HasMember c.constant_pool class types f
    → option_and_then (read_key c.constant_pool) (other_key c kind class types) ≡ Some (record { class = f.class; kind = kind; name = f.name; descriptor = f.descriptor })
read_other c kind class types f other m =
    ap (λ b. option_and_then (read_key c.constant_pool) (if b then None else key_by kind (constant_at c.constant_pool class) (constant_at c.constant_pool types))) other
    ∙ ap (option_and_then (read_key c.constant_pool)) (key_there c.constant_pool kind class types f m)
    ∙ key_read c.constant_pool kind class types f m

read_referring : (c : ClassFile) (kind : Kind) (class types : ℕ) (f : FieldOf) → is_of c.this_class (referring kind class types) ≡ false → HasMember c.constant_pool class types f
    → read_entry c (referring kind class types) ≡ Some (record { class = f.class; kind = kind; name = f.name; descriptor = f.descriptor })
read_referring c kinds.Field class types f other m = read_other c kinds.Field class types f other m
read_referring c kinds.Method class types f other m = read_other c kinds.Method class types f other m

pub read_at : (c : ClassFile) (index : ℕ) (r : MemberReference) → names_own c index ≡ false → IsReference c.constant_pool index r → IsReadAt c index r
read_at c index r other is =
    let x = entered c.constant_pool index r is in
    let e = referring r.kind x.class x.name_and_type in
    record {
      place = x.entry.place;
      counted = x.entry.counted;
      e = e;
      here = x.entry.here;
      read = read_referring c r.kind x.class x.name_and_type (texts_of r) (sym (ap (on_found (is_of c.this_class)) (stands_entry c.constant_pool index e x.entry)) ∙ other) x.member;
    }

own_class : (c : ClassFile) (class types : ℕ) (kind : Kind) → is_of c.this_class (referring kind class types) ≡ true → nat_eq class c.this_class ≡ true
own_class c class types kinds.Field h = h
own_class c class types kinds.Method h = h

-- a reference of the class itself is not guarded
pub own_free : (classes : List ClassFact) (c : ClassFile) (index : ℕ) (r : MemberReference) → names_own c index ≡ true → IsReference c.constant_pool index r
    → is_guarded classes (own_name c) r ≡ false
own_free classes c index r own is =
    let x = entered c.constant_pool index r is in
    let e = referring r.kind x.class x.name_and_type in
    let same : x.class ≡ c.this_class =
    eqb-true x.class c.this_class (own_class c x.class x.name_and_type r.kind (sym (ap (on_found (is_of c.this_class)) (stands_entry c.constant_pool index e x.entry)) ∙ own)) in
    let text : class_name_at c.constant_pool c.this_class ≡ Ok r.class =
    ap (class_name_at c.constant_pool) (sym same) ∙ stands_class c.constant_pool x.class r.class x.member.class_name in
    let named : own_name c ≡ r.class =
    ap (λ (z : Result (List ℕ) PoolFault). or_empty (class_named (option_and_then reference_type (found z)))) text ∙ ap (λ z. or_empty (class_named z)) x.plain in
    let equal : bytes_eq (own_name c) r.class ≡ true = (bytes_eq-Decides (own_name c) r.class).1 named in
    rw equal refl

-- ---- lists with one more

get_first : {A : Type 0} (xs ys : List A) (i : ℕ) (x : A) → slice_get xs i ≡ Some x → slice_get (xs ++ ys) i ≡ Some x
get_first [] ys i x e = cc
get_first (y ∷ xs) ys zero x e = e
get_first (y ∷ xs) ys (suc i) x e = get_first xs ys i x e

get_last : {A : Type 0} (xs : List A) (x : A) → slice_get (xs ++ x ∷ []) (length xs) ≡ Some x
get_last [] x = refl
get_last (y ∷ xs) x = get_last xs x

get_cases : {A : Type 0} (xs : List A) (x : A) (i : ℕ) (y : A) → slice_get (xs ++ x ∷ []) i ≡ Some y → (slice_get xs i ≡ Some y) ⊎ ((i ≡ length xs) × (x ≡ y))
get_cases [] x zero y e = inr (refl, cc)
get_cases [] x (suc i) y e = cc
get_cases (z ∷ xs) x zero y e = inl e
get_cases (z ∷ xs) x (suc i) y e = next (get_cases xs x i y e)
  where
    next : (slice_get xs i ≡ Some y) ⊎ ((i ≡ length xs) × (x ≡ y)) → (slice_get xs i ≡ Some y) ⊎ ((suc i ≡ length (z ∷ xs)) × (x ≡ y))
    next (inl h) = inl h
    next (inr h) = inr (ap suc h.0, h.1)

-- ---- one reference more

-- the texts of a reference are those at its indices
key_texts : (pool : List Entry) (k : Key) (r : MemberReference) → read_key pool k ≡ Some r
    → (text_of pool k.class ≡ r.class) × (k.kind ≡ r.kind) × (text_of pool k.name ≡ r.name) × (text_of pool k.descriptor ≡ r.descriptor)
key_texts pool k r e = by (text_at pool k.class) (text_at pool k.name) (text_at pool k.descriptor) e
  where
    by : (c n d : Result (List ℕ) PoolFault) → with_texts k.kind c n d ≡ Some r
        → (result_unwrap_or c [] ≡ r.class) × (k.kind ≡ r.kind) × (result_unwrap_or n [] ≡ r.name) × (result_unwrap_or d [] ≡ r.descriptor)
    by (Ok c) (Ok n) (Ok d) e =
        let same : ◌≡◌ {A = MemberReference} (record { class = c; kind = k.kind; name = n; descriptor = d }) r = some_same e in
        (ap (λ (x : MemberReference). x.class) same, ap (λ (x : MemberReference). x.kind) same, ap (λ (x : MemberReference). x.name) same, ap (λ (x : MemberReference). x.descriptor) same)
    by (Err x) n d e = cc
    by (Ok c) (Err x) d e = cc
    by (Ok c) (Ok n) (Err x) e = cc

module _ (pool : List Entry) (old new : Read) (between : Texts) (k : Key) (m : MemberRef) (members : new.members.items ≡ old.members.items ++ m ∷ []) (class : HasPlace pool old.classes new.classes k.class m.class)
    (name : HasPlace pool old.texts between k.name m.places.name) (descriptor : HasPlace pool between new.texts k.descriptor m.places.descriptor) (kind : m.places.kind ≡ k.kind) where
  here : (r : MemberReference) → read_key pool k ≡ Some r → HasNumber new (length old.members.items) r
  here r e =
      let t = key_texts pool k r e in
      record {
        member = m;
        here = ap (λ xs. slice_get xs (length old.members.items)) members ∙ get_last old.members.items m;
        class = class.here ∙ ap (λ z. Some z) t.0;
        kind = kind ∙ t.1;
        name = descriptor.kept _ _ (name.here ∙ ap (λ z. Some z) t.2);
        descriptor = descriptor.here ∙ ap (λ z. Some z) t.3;
      }

  pub added : Numbers pool old new k (length old.members.items)
  added = record {
    here = here;
    kept = λ n r h. record {
      member = h.member;
      here = ap (λ xs. slice_get xs n) members ∙ get_first old.members.items (m ∷ []) n h.member h.here;
      class = class.kept _ _ h.class;
      kind = h.kind;
      name = descriptor.kept _ _ (name.kept _ _ h.name);
      descriptor = descriptor.kept _ _ (name.kept _ _ h.descriptor);
    };
    good = record { classes = class.good; texts = descriptor.good };
  }

-- the reference of a number, by its texts
reads_number : (rs : Read) (number : ℕ) (r : MemberReference) → HasNumber rs number r
    → slice_get (references_of (references_read rs)) number ≡ Some r
reads_number rs number r h =
    let references = references_read rs in
    let class = among_of rs.classes.list.items h.member.class r.class h.class in
    let name = among_of rs.texts.list.items h.member.places.name r.name h.name in
    let descriptor = among_of rs.texts.list.items h.member.places.descriptor r.descriptor h.descriptor in
    slice_get-map (reference_of references) rs.members.items number ∙ ap (option_map (reference_of references)) h.here
    ∙ λ i. Some (record { class = class i; kind = h.kind i; name = name i; descriptor = descriptor i })

-- ---- one entry after the other

pub none_read : (c : ClassFile) (rs : Read) → AreReadFrom c.constant_pool rs → AreReadSoFar c [] [] rs
none_read c rs good = record { all = refl; each = λ place e r h k. cc; good = good }

pub one_more : (c : ClassFile) (done : List Entry) (places : List ℕ) (x : Entry) (old now : Read) (number : ℕ) → AreReadSoFar c done places old
    → Reads c x old now number → AreReadSoFar c (done ++ x ∷ []) (places ++ number ∷ []) now
one_more c done places x old now number so_far reads = record {
  all = length-append places (number ∷ []) ∙ ap (λ n. n + 1) so_far.all ∙ sym (length-append done (x ∷ []));
  each = λ place e r h k. by place e r k (get_cases done x place e h);
  good = reads.good;
}
  where
    by : (place : ℕ) (e : Entry) (r : MemberReference) → read_entry c e ≡ Some r → (slice_get done place ≡ Some e) ⊎ ((place ≡ length done) × (x ≡ e))
        → (n : ℕ) × (slice_get (places ++ number ∷ []) place ≡ Some n) × HasNumber now n r
    by place e r k (inl h) = let p = so_far.each place e r h k in (p.0, get_first places (number ∷ []) place p.0 p.1, reads.kept p.0 r p.2)
    by place e r k (inr h) =
        (number, ap (slice_get (places ++ number ∷ [])) (h.0 ∙ sym so_far.all) ∙ get_last places number, reads.here r (ap (read_entry c) h.1 ∙ k))

pub all_read : (c : ClassFile) (places : List ℕ) (rs : Read) → AreReadSoFar c c.constant_pool places rs
    → AreRead c places (references_of (references_read rs))
all_read c places rs so_far place e r h k =
    let p = so_far.each place e r h k in
    record { number = p.0; placed = p.1; there = reads_number rs p.0 r p.2 }

-- ---- the answers

pub guards_are : (classes : List ClassFact) (c : ClassFile) (g : Guards) (references : List MemberReference) → AreRead c g.places.items references
    → g.answers.items ≡ map (is_guarded classes (own_name c)) references → AreGuards classes c g
guards_are classes c g references are answers = record {
  each = λ place e r h k.
      let p = are place e r h k in
      record {
        number = p.number;
        placed = p.placed;
        there = ap (λ xs. slice_get xs p.number) answers ∙ slice_get-map (is_guarded classes (own_name c)) references p.number ∙ ap (option_map (is_guarded classes (own_name c))) p.there;
      };
}

pub answer_at : (classes : List ClassFact) (c : ClassFile) (g : Guards) (index : ℕ) (r : MemberReference) → AreGuards classes c g → names_own c index ≡ false
    → IsReference c.constant_pool index r → (place : ℕ) × (index ≡ place + 1) × IsPlaced g.places.items g.answers.items place (is_guarded classes (own_name c) r)
answer_at classes c g index r are other is =
    let x = read_at c index r other is in
    (x.place, x.counted, are.each x.place x.e r x.here x.read)
