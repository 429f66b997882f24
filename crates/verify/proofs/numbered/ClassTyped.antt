-- The numbers of the types of a class, and of one of its methods.
use Rattle.std.proofs.Common.{◌≡◌, ◌∙◌, ◌+◌, ◌<◌, ◌≤◌, ℕ, zero, suc, Bool, true, false, not, List, [], ◌∷◌, ◌++◌, length, Option, Some, None, Ok, option_map, option_to_list, refl, sym, ap, subst, arith, inl, inr, ◌⊎◌, ◌&&◌}
use Rattle.std.specs.Prelude.{if◌then◌else◌}
use Rattle.std.specs.Prelude.{slice_get, slice_index, slice_index_or}
use Rattle.std.specs.Option.{option_and_then}
use Rattle.std.specs.Str.{bytes_eq}
use Rattle.std.proofs.lemmas.Option.{slice_get_within}
use Rattle.std.proofs.lemmas.Bool.{true≢false, cases_lt}
use Rattle.names.specs.Descriptors.{MethodDescriptor}
use Rattle.names.specs.Reading.{method_answer}
use Rattle.names.proofs.AnswerLaws.{method_answered, method_spelled}
use Rattle.pool.specs.ConstantMeanings.{found}
use Rattle.classfile.specs.Values.{Class, Member}
use Rattle.classfile.specs.Methods.{Method, Receiver, no_receiver, ready_receiver, own_receiver, receiver_of}
use Rattle.classfile.specs.CodeMethods.{class_of, code_method_view, types_of}
use Rattle.classfile.specs.Views.{class_view}
use Rattle.classfile.specs.declared.code_method.CodeMethod.{CodeMethod}
use Rattle.classfile.proofs.MethodLaws.{member_of, read_from}
use Rattle.insn.specs.Meanings.{Act}
use Rattle.frames.specs.VerificationType.{VerificationType, class as class_type}
use Rattle.frames.specs.Slots.{descriptor_type}
use Rattle.type_numbers.specs.Numbers.{Numbering, Extends, IsNumberOf, IsGiven}
use Rattle.type_numbers.specs.Constants.{arguments_of}
use Rattle.type_numbers.specs.Decoding.{types_by}
use Rattle.type_numbers.specs.MethodNumbers.{AreNumbers, AreTypes, AreTypesOf, GoesOn, method_in}
use Rattle.type_numbers.specs.declared.method_numbers.MethodNumbers.{MethodNumbers}
use Rattle.type_numbers.proofs.Decoded.{number_read}
use Rattle.type_numbers.proofs.FieldEntries.{number_of_stays}
use Rattle.type_numbers.proofs.LawsOfNumbers.{number_stays}
use Rattle.type_numbers.proofs.MethodReadings.{types_of_on}
use Rattle.numbered_rules.specs.Expected.{objects as array_of_objects}
use Rattle.names.specs.StandardNames.{object_name, throwable_name}
use Rattle.verify.specs.InitialFrames.{receiver_types, is_uninitialized}
use Rattle.verify.specs.declared.pass.class_numbers.ClassNumbers.{ClassNumbers}
use Rattle.verify.specs.declared.pass.class_types.ClassTypes.{ClassTypes}
use Rattle.verify.specs.private.pass.ClassTypes.{AreClassNumbers, AreClassTypes, AreMethodTypes, receiver_type}

pub class_numbers_stay : (old new : Numbering) → Extends old new → (own : List ℕ) (above : Option (List ℕ)) (x : ClassNumbers) → AreClassNumbers old own above x → AreClassNumbers new own above x
class_numbers_stay old new more own above x k = record {
  object = number_stays old new more x.object (class_type object_name) k.object;
  objects = number_stays old new more x.objects array_of_objects k.objects;
  throwable = number_stays old new more x.throwable (class_type throwable_name) k.throwable;
  class = number_stays old new more x.class (class_type own) k.class;
  superclass = number_of_stays old new more x.superclass (option_map class_type above) k.superclass;
}

-- ---- the methods, one after the other

-- the types of the first so many methods
abbrev pub AreMethodTypesTo : ℕ → Numbering → List ℕ → Class → List (Option MethodNumbers) → Type 0
AreMethodTypesTo count s row c xs = (n : ℕ) (m : Member) → n < count → slice_get c.methods n ≡ Some m → AreTypesOf s row (slice_index_or xs n None) (method_in c.constant_pool m.descriptor)

-- ---- a method

-- a descriptor that has room for a receiver has room without
without_receiver : (b : Bool) (text : List ℕ) (t : MethodDescriptor) → method_answer b text ≡ Ok t → method_answer false text ≡ Ok t
without_receiver false text t e = e
without_receiver true text t e =
    let k = method_answered true text t e in
    method_spelled false text t k.0 k.1 (omega (arith, k.2))

-- the descriptor of a method that has code
module _ (m : CodeMethod) where
  abbrev pub own_member : Member
  own_member = (member_of (class_of m) m.number (code_method_view m []) m.is_method).member

  pub own_is_there : slice_get (class_view m.class.now).methods m.number ≡ Some own_member
  own_is_there = (member_of (class_of m) m.number (code_method_view m []) m.is_method).here

  pub own_type : method_in m.class.now.constant_pool own_member.descriptor ≡ Some (types_of m)
  own_type =
      let is = member_of (class_of m) m.number (code_method_view m []) m.is_method in
      let from = read_from m.class.now.constant_pool is.member (types_of m) is.type_is in
      ap (λ r. option_and_then (λ text. found (method_answer false text)) (found r)) from.text_is
      ∙ ap found (without_receiver _ from.text (types_of m) from.read)

  pub own_types : (s : Numbering) (x : ClassTypes) → AreClassTypes s (class_view m.class.now) x → AreTypesOf s (arguments_of x.table) (slice_index_or x.methods.items m.number None) (Some (types_of m))
  own_types s x k = subst (AreTypesOf s (arguments_of x.table) (slice_index_or x.methods.items m.number None)) own_type (k.methods m.number own_member own_is_there)

-- ---- types one after the other

pub numbers_join : (s : Numbering) (xs ys : List ℕ) (ts us : List VerificationType) → AreNumbers s xs ts → AreNumbers s ys us → AreNumbers s (xs ++ ys) (ts ++ us)
numbers_join s [] ys [] us h k = k
numbers_join s (x ∷ xs) ys (t ∷ ts) us h k = (h.0, numbers_join s xs ys ts us h.1 k)
numbers_join s [] ys (t ∷ ts) us h k = absurd h
numbers_join s (x ∷ xs) ys [] us h k = absurd h

pub numbers_read : (s : Numbering) (ns : List ℕ) (ts : List VerificationType) → AreNumbers s ns ts → types_by s ns ≡ ts
numbers_read s [] [] h = refl
numbers_read s (n ∷ ns) (t ∷ ts) h = λ i. number_read s n t h.0 i ∷ numbers_read s ns ts h.1 i
numbers_read s [] (t ∷ ts) h = absurd h
numbers_read s (n ∷ ns) [] h = absurd h

pub each_given : (s : Numbering) (ns : List ℕ) (ts : List VerificationType) → AreNumbers s ns ts → (i : ℕ) → i < length ns → IsGiven s (slice_index ns i)
each_given s [] ts h i lt = absurd (omega (arith, lt))
each_given s (n ∷ ns) [] h i lt = absurd h
each_given s (n ∷ ns) (t ∷ ts) h zero lt = (t, h.0)
each_given s (n ∷ ns) (t ∷ ts) h (suc i) lt = each_given s ns ts h.1 i (omega (arith, lt))

pub receiver_is : (m : Method Act) (r : Receiver) → option_to_list (receiver_type m r) ≡ receiver_types m r
receiver_is m no_receiver = refl
receiver_is m ready_receiver = refl
receiver_is m own_receiver = refl

-- the number of a receiver, if there is one
pub receiver_number : (s : Numbering) (n : Option ℕ) (t : Option VerificationType) → IsNumberOf s n t → AreNumbers s (option_to_list n) (option_to_list t)
receiver_number s None None h = tt
receiver_number s (Some n) (Some t) h = (h, tt)
receiver_number s None (Some t) h = absurd h
receiver_number s (Some n) None h = absurd h

-- a receiver by whether the own object is uninitialized
pub receiver_by : (m : Method Act) (b : Bool) → m.is_static ≡ false → b ≡ is_uninitialized (receiver_of m) → receiver_of m ≡ (if b then own_receiver else ready_receiver)
receiver_by m b = by m.is_static (m.is_init && not (bytes_eq m.class object_name)) b
  where
    by : (static own b : Bool) → static ≡ false → b ≡ is_uninitialized (if static then no_receiver else if own then own_receiver else ready_receiver)
        → (if static then no_receiver else if own then own_receiver else ready_receiver) ≡ (if b then own_receiver else ready_receiver)
    by true own b e q = absurd (true≢false e)
    by false true b e q = ap (λ c. if c then own_receiver else ready_receiver) (sym q)
    by false false b e q = ap (λ c. if c then own_receiver else ready_receiver) (sym q)

-- the types of a descriptor at a place, where one is there
pub types_named : (s : Numbering) (row : List ℕ) (o : Option MethodNumbers) (x : MethodNumbers) (t : MethodDescriptor) → o ≡ Some x → AreTypesOf s row o (Some t) → AreTypes s row x t
types_named s row o x t e h = subst (λ o. AreTypesOf s row o (Some t)) e h

pub never_unnamed : (s : Numbering) (row : List ℕ) (o : Option MethodNumbers) (t : MethodDescriptor) → o ≡ None → AreTypesOf s row o (Some t) → ⊥
never_unnamed s row o t e h = subst (λ o. AreTypesOf s row o (Some t)) e h

-- and the type of its result
pub result_named : (s : Numbering) (row : List ℕ) (o : Option MethodNumbers) (t : MethodDescriptor) (r : Option ℕ) → r ≡ option_and_then (λ (x : MethodNumbers). x.result) o
    → AreTypesOf s row o (Some t) → IsNumberOf s r (option_map descriptor_type t.result)
result_named s row None t r e h = absurd h
result_named s row (Some x) t r e h = subst (λ n. IsNumberOf s n (option_map descriptor_type t.result)) (sym e) h.result

-- ---- one method more

index_append : {A : Type 0} (xs ys : List A) (n : ℕ) (d : A) → n < length xs → slice_index_or (xs ++ ys) n d ≡ slice_index_or xs n d
index_append [] ys n d lt = absurd (omega (arith, lt))
index_append (z ∷ zs) ys zero d lt = refl
index_append (z ∷ zs) ys (suc n) d lt = index_append zs ys n d (omega (arith, lt))

index_behind : {A : Type 0} (xs : List A) (x d : A) → slice_index_or (xs ++ x ∷ []) (length xs) d ≡ x
index_behind [] x d = refl
index_behind (z ∷ zs) x d = index_behind zs x d

pub one_method_more : (old new : Numbering) → Extends old new → (row later : List ℕ) → GoesOn row later → (c : Class) (xs ys : List (Option MethodNumbers)) (i : ℕ) (m : Member)
    → length xs ≡ i → slice_get c.methods i ≡ Some m → (x : Option MethodNumbers) → ys ≡ xs ++ x ∷ [] → AreTypesOf new later x (method_in c.constant_pool m.descriptor)
    → AreMethodTypesTo i old row c xs → AreMethodTypesTo (i + 1) new later c ys
one_method_more old new more row later on c xs ys i m long here x is typed so_far n k lt there =
    subst (λ zs. AreTypesOf new later (slice_index_or zs n None) (method_in c.constant_pool k.descriptor)) (sym is) (by (cases_lt n i))
  where
    same : (a b : Member) → (let o : Option Member = Some a in o) ≡ Some b → a ≡ b
    same a b e = cc

    by : (n < i) ⊎ (i ≤ n) → AreTypesOf new later (slice_index_or (xs ++ x ∷ []) n None) (method_in c.constant_pool k.descriptor)
    by (inl below) = subst (λ o. AreTypesOf new later o (method_in c.constant_pool k.descriptor)) (sym (index_append xs (x ∷ []) n None (omega (arith, below, long))))
        (types_of_on old new more row later on (slice_index_or xs n None) (method_in c.constant_pool k.descriptor) (so_far n k below there))
    by (inr above) =
        let at : n ≡ length xs = omega (arith, above, lt, long) in
        let member : m ≡ k = same m k (sym here ∙ ap (slice_get c.methods) (sym long ∙ sym at) ∙ there) in
        subst (λ o. AreTypesOf new later o (method_in c.constant_pool k.descriptor)) (sym (ap (λ j. slice_index_or (xs ++ x ∷ []) j None) at ∙ index_behind xs x None))
        (subst (λ (z : Member). AreTypesOf new later x (method_in c.constant_pool z.descriptor)) member typed)

pub all_methods : (s : Numbering) (row : List ℕ) (c : Class) (xs : List (Option MethodNumbers)) (count : ℕ) → count ≡ length c.methods → AreMethodTypesTo count s row c xs → AreMethodTypes s row c xs
all_methods s row c xs count all h n m there =
    let within : n < length c.methods = slice_get_within c.methods n m there in
    h n m (omega (arith, within, all)) there
