-- The methods of classes in play: their names, types and superclasses are those of the class file, and so of the
-- hierarchy.
use Rattle.std.proofs.Common.{◌≡◌, ℕ, Bool, true, false, not, nat_eq, nat_lt, List, [], Option, Some, None, Result, Ok, Err, option_map, if◌then◌else◌, sym, ap, refl, ◌∙◌, subst}
use Rattle.std.specs.Str.{bytes_eq}
use Rattle.std.specs.List.{list_any}
use Rattle.std.specs.Option.{option_and_then}
use Rattle.std.specs.Result.{result_unwrap_or}
use Rattle.names.specs.declared.fault.NameFault.{NameFault}
use Rattle.names.specs.declared.fault.NameFault.TheVariants.{TooManyDimensions, TooWide}
use Rattle.names.specs.Descriptors.{FieldDescriptor, primitive, class, array, MethodDescriptor, field_types, method_width}
use Rattle.names.specs.ReferenceTypes.{ReferenceType, class_type, array_type, begins_array, reference_type, array_of}
use Rattle.names.specs.StandardNames.{init_name}
use Rattle.names.specs.Reading.{is_deep, whole, read_method, limited_method, field_answer, method_answer}
use Rattle.pool.specs.declared.fault.PoolFault.{PoolFault}
use Rattle.pool.specs.Entries.{Entry}
use Rattle.pool.specs.Lookups.{text_at, class_name_at}
use Rattle.pool.specs.ConstantMeanings.{found, class_at}
use Rattle.classfile.specs.Flags.{has, STATIC}
use Rattle.classfile.specs.Values.{CodeBody, Member}
use Rattle.classfile.specs.Methods as methods
use Rattle.classfile.specs.Methods.{JudgedClass, Method, ExceptionEntry, code_of, class_named, member_type, exception_entries, method_with, method_from, method_of}
use Rattle.hierarchy.specs.World.{Entry as WorldEntry, World, superclass_in, IsSubclassIn, same, above}
use Rattle.hierarchy.specs.Class.{ClassFact, entry_of, world_of}
use Rattle.hierarchy.specs.ClassSummary.{class_name_of, superclass_name, summary_of}
use Rattle.hierarchy.specs.Extends.{Extends}
use Rattle.insn.specs.Meanings.{Act}
use Rattle.insn.specs.Offsets.{acts}
use Rattle.verify.specs.ClassMethods.{IsMethod}
use Rattle.verify.specs.ClassRuns.{Callee}
use Rattle.verify.specs.ClassRunSafety.{IsInPlay, AreVerified}
use Rattle.verify.proofs.safety.ClassCalls.{some_same}
use Rattle.verify.proofs.safety.ClassEnters.{IsPlayed}

-- ---- a descriptor has one type, measured with a receiver or without

limited_is : (b : Bool) (r : Result MethodDescriptor NameFault) (t : MethodDescriptor) → found (limited_method b r) ≡ Some t → found r ≡ Some t
limited_is b (Err e) t q = q
limited_is b (Ok m) t q = go (list_any is_deep (field_types m)) (nat_lt 255 (method_width m b)) q
  where
    go : (d n : Bool) → found (if d then Err TooManyDimensions else if n then Err TooWide else Ok m) ≡ Some t → Some m ≡ Some t
    go true n e = cc
    go false true e = cc
    go false false e = e

answer_is : (b : Bool) (text : List ℕ) (t : MethodDescriptor) → found (method_answer b text) ≡ Some t → found (whole text (read_method text)) ≡ Some t
unfolding method_answer
answer_is b text t q = limited_is b (whole text (read_method text)) t q

one_type : (b d : Bool) (text : List ℕ) (t u : MethodDescriptor) → found (method_answer b text) ≡ Some t → found (method_answer d text) ≡ Some u → t ≡ u
one_type b d text t u e f = some_same t u (sym (answer_is b text t e) ∙ answer_is d text u f)

-- ---- the name of a class

read_class : (o : Option ReferenceType) (n : List ℕ) (b : Bool) (text : List ℕ) → class_named (if b then o else Some (class_type text)) ≡ Some n → ((n : List ℕ) → class_named o ≡ Some n → ⊥) → text ≡ n
read_class o n true text e never = absurd (never n e)
read_class o n false text e never = some_same text n e

no_array : (r : Option ReferenceType) → ((t : List ℕ) → r ≡ Some (class_type t) → ⊥) → (n : List ℕ) → class_named r ≡ Some n → ⊥
no_array None never n e = cc
no_array (Some (class_type t)) never n e = never t refl
no_array (Some (array_type t)) never n e = cc

arrays_only : (r : Result FieldDescriptor NameFault) (t : List ℕ) → array_of r ≡ Some (class_type t) → ⊥
arrays_only (Err x) t e = cc
arrays_only (Ok (primitive p)) t e = cc
arrays_only (Ok (class n)) t e = cc
arrays_only (Ok (array c)) t e = cc

class_is : (r : Result (List ℕ) PoolFault) (n : List ℕ) → class_named (option_and_then reference_type (found r)) ≡ Some n → result_unwrap_or r [] ≡ n
class_is (Err e) n q = cc
class_is (Ok text) n q = read_class (array_of (field_answer text)) n (begins_array text) text q (no_array (array_of (field_answer text)) (arrays_only (field_answer text)))

named_is : (pool : List Entry) (i : ℕ) (n : List ℕ) → class_named (class_at pool i) ≡ Some n → class_name_of pool i ≡ n
named_is pool i n e = class_is (class_name_at pool i) n e

super_is : (pool : List Entry) (i : ℕ) (s : List ℕ) → methods.superclass_of pool i ≡ Some s → superclass_name pool i ≡ Some s
super_is pool i s e = go (nat_eq i 0) refl
  where
    go : (b : Bool) → nat_eq i 0 ≡ b → (if nat_eq i 0 then None else Some (class_name_of pool i)) ≡ Some s
    go true k = absurd (none (sym (rw k refl) ∙ e))
      where
        none : None ≡ Some s → ⊥
        none q = cc
    go false k =
        let f : class_named (class_at pool i) ≡ Some s = sym (rw k refl) ∙ e in
        rw k (ap Some (named_is pool i s f))

-- ---- a method by the parts of its class file

pub record Parts (c : JudgedClass) (member : Member) (m : Method Act) : Type 0 where
  pub class : class_named (class_at c.file.constant_pool c.file.this_class) ≡ Some m.class
  pub init : (n : List ℕ) → found (text_at c.file.constant_pool member.name) ≡ Some n → m.is_init ≡ bytes_eq n init_name
  pub type : member_type c.file.constant_pool member ≡ Some m.type
  pub super : m.superclass ≡ methods.superclass_of c.file.constant_pool c.file.super_class

with_parts : (c : JudgedClass) (member : Member) (code : List (ℕ × Act)) (body : CodeBody) (oc on : Option (List ℕ)) (ot : Option MethodDescriptor) (oe : Option (List ExceptionEntry)) (m : Method Act) → method_with c member code body oc on ot oe ≡ Some m
    → (oc ≡ Some m.class) × ((n : List ℕ) → on ≡ Some n → m.is_init ≡ bytes_eq n init_name) × (ot ≡ Some m.type) × (m.superclass ≡ methods.superclass_of c.file.constant_pool c.file.super_class)
with_parts c member code body (Some k) (Some name) (Some type) (Some exceptions) m e =
    let p = some_same _ m e in
    (ap (λ z. Some z.class) p, (λ n q. sym (ap (λ z. z.is_init) p) ∙ ap (λ z. bytes_eq z init_name) (some_same name n q)), ap (λ z. Some z.type) p, sym (ap (λ z. z.superclass) p))
with_parts c member code body _ _ _ _ m e = cc

pub parts : (c : JudgedClass) (number : ℕ) (m : Method Act) → (i : IsMethod c number m) → Parts c i.member m
parts c number m i =
    let code = acts i.instructions in
    let pool = c.file.constant_pool in
    let e : option_and_then (method_from c code) (Some i.member) ≡ Some m = sym (ap (option_and_then (method_from c code)) i.numbered) ∙ i.method in
    let build : CodeBody → Option (Method Act) = λ body. method_with c i.member code body (class_named (class_at pool c.file.this_class)) (found (text_at pool i.member.name)) (member_type pool i.member) (exception_entries pool body.exception_table) in
    let f : build i.body ≡ Some m = sym (ap (option_and_then build) i.has_code) ∙ e in
    let p = with_parts c i.member code i.body (class_named (class_at pool c.file.this_class)) (found (text_at pool i.member.name)) (member_type pool i.member) (exception_entries pool i.body.exception_table) m f in
    record { class = p.0; init = p.1; type = p.2; super = p.3 }

-- ---- a method in play

pub played : (h : List ClassFact) (cs : List JudgedClass) (v : AreVerified h cs) (w : World) (x : Extends w h) (k : Callee) → IsInPlay cs k → IsPlayed h w k
played h cs v w x k i =
    let p = parts i.class i.number k.method i.method in
    let pool = i.class.file.constant_pool in
    let static = not (has i.method.member.access_flags STATIC) in
    let typed : found (method_answer static k.descriptor) ≡ Some k.method.type = sym (ap (option_and_then (λ text. found (method_answer static text))) i.descriptor) ∙ p.type in
    record {
      safe = v.safe i.class i.among i.number k.method i.method;
      super = λ s e. above_it s e (named_is pool i.class.file.this_class k.method.class p.class) (super_is pool i.class.file.super_class s (sym p.super ∙ e));
      init = p.init k.name i.name;
      type = λ t e. one_type static false k.descriptor k.method.type t typed e;
    }
  where
    above_it : (s : List ℕ) → k.method.superclass ≡ Some s → (summary_of i.class.file).name ≡ k.method.class → (summary_of i.class.file).superclass ≡ Some s → IsSubclassIn w k.method.class s
    above_it s e n q =
        let f : WorldEntry = entry_of (summary_of i.class.file) in
        let l : world_of h (summary_of i.class.file).name ≡ Some f = ap (option_map entry_of) (v.listed i.class i.among) in
        let u : w k.method.class ≡ Some f = subst (λ z. w z ≡ Some f) n (x.keeps (summary_of i.class.file).name f l) in
        let r : superclass_in w k.method.class ≡ Some s = ap (λ o. option_and_then (λ d. d.superclass) o) u ∙ q in
        above r same
