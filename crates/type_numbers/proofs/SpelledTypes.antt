-- The types that bytes are known to begin with, as they are found.
use Rattle.std.proofs.Common.{◌≡◌, ℕ, ◌+◌, ◌==◌, Bool, true, false, eqb, not, List, [], ◌∷◌, ◌++◌, length, take, drop, add-one, Option, Some, None, refl, sym, ap, subst, ◌∙◌, append_assoc, inl, inr, arith}
use Rattle.std.specs.List.{prefix_len, position_or_len}
use Rattle.std.proofs.lemmas.Bool.{cases_Bool, and_parts, eqb-true, cond-true, false≢true}
use Rattle.names.specs.declared.base.Primitive.{Primitive}
use Rattle.names.specs.declared.base.Primitive.TheVariants.{Byte, Char, Double, Float, Int, Long, Short, Boolean}
use Rattle.names.specs.Names.{slash, semicolon, bracket, IsClassName}
use Rattle.names.specs.Descriptors.{FieldDescriptor, primitive, class, array, letter, class_letter, dimensions, dimensioned, field_spelling, IsWellNamed}
use Rattle.names.specs.Reading.{goes_on, ends_class_name, primitive_of}
use Rattle.names.proofs.ClassNameLaws.{class_name_ends}
use Rattle.type_numbers.specs.private.SpelledTypes.{BeginsWith, BeginsWithBase}

-- ---- class names

stopped : (fresh : Bool) → goes_on fresh semicolon ≡ true → ⊥
stopped true h = false≢true h
stopped false h = false≢true h

no_stop : (fresh : Bool) (u : ℕ) → goes_on fresh u ≡ true → eqb u semicolon ≡ false
no_stop fresh u h =
    elim (cases_Bool (eqb u semicolon)) [
      | inl e ↦ absurd (stopped fresh (subst (λ (x : ℕ). goes_on fresh x ≡ true) (eqb-true u semicolon e) h))
      | inr n ↦ n
    ]

run_of_name : (fresh : Bool) (name rest : List ℕ) → ends_class_name fresh name ≡ true → position_or_len (λ b. b == semicolon) (name ++ semicolon ∷ rest) ≡ length name
unfolding ends_class_name
run_of_name fresh [] rest h = refl
run_of_name fresh (u ∷ name) rest h =
    let p = and_parts (goes_on fresh u) (ends_class_name (eqb u slash) name) h in
    let on : not (eqb u semicolon) ≡ true = ap not (no_stop fresh u p.0) in
    let first : position_or_len (λ b. b == semicolon) ((u ∷ name) ++ semicolon ∷ rest) ≡ 1 + position_or_len (λ b. b == semicolon) (name ++ semicolon ∷ rest) = cond-true (not (eqb u semicolon)) _ _ on in
    let others = run_of_name (eqb u slash) name rest p.1 in
    omega (arith, first, others)

pub take_front : (xs ys : List ℕ) → take (length xs) (xs ++ ys) ≡ xs
take_front [] ys = refl
take_front (x ∷ xs) ys = ap (λ (zs : List ℕ). x ∷ zs) (take_front xs ys)

pub drop_front : (xs ys : List ℕ) → drop (length xs) (xs ++ ys) ≡ ys
drop_front [] ys = refl
drop_front (x ∷ xs) ys = drop_front xs ys

-- the name in front of the first ';', and the bytes from there on
pub name_found : (bytes name rest : List ℕ) (size : ℕ) → IsClassName name → bytes ≡ name ++ semicolon ∷ rest → size ≡ position_or_len (λ b. b == semicolon) bytes
    → (take size bytes ≡ name) × (drop size bytes ≡ semicolon ∷ rest)
name_found bytes name rest size named parts is =
    let count : size ≡ length name = is ∙ ap (position_or_len (λ b. b == semicolon)) parts ∙ run_of_name true name rest (class_name_ends name named) in (
      ap (λ (k : ℕ). take k bytes) count ∙ ap (take (length name)) parts ∙ take_front name (semicolon ∷ rest),
      ap (λ (k : ℕ). drop k bytes) count ∙ ap (drop (length name)) parts ∙ drop_front name (semicolon ∷ rest),
    )

-- ---- letters

pub by_letter : (p : Primitive) → primitive_of (letter p) ≡ Some p
by_letter Byte = refl
by_letter Char = refl
by_letter Double = refl
by_letter Float = refl
by_letter Int = refl
by_letter Long = refl
by_letter Short = refl
by_letter Boolean = refl

pub no_class_letter : (p : Primitive) → letter p ≡ class_letter → ⊥
no_class_letter Byte e = absurd (omega (arith, e))
no_class_letter Char e = absurd (omega (arith, e))
no_class_letter Double e = absurd (omega (arith, e))
no_class_letter Float e = absurd (omega (arith, e))
no_class_letter Int e = absurd (omega (arith, e))
no_class_letter Long e = absurd (omega (arith, e))
no_class_letter Short e = absurd (omega (arith, e))
no_class_letter Boolean e = absurd (omega (arith, e))

-- ---- arrays

abbrev pub base_in : FieldDescriptor → FieldDescriptor
base_in (primitive p) = primitive p
base_in (class name) = class name
base_in (array t) = base_in t

pub brackets_of : (t : FieldDescriptor) (rest : List ℕ) → prefix_len (λ b. b == bracket) (field_spelling t ++ rest) ≡ dimensions t
brackets_of (primitive Byte) rest = refl
brackets_of (primitive Char) rest = refl
brackets_of (primitive Double) rest = refl
brackets_of (primitive Float) rest = refl
brackets_of (primitive Int) rest = refl
brackets_of (primitive Long) rest = refl
brackets_of (primitive Short) rest = refl
brackets_of (primitive Boolean) rest = refl
brackets_of (class name) rest = refl
brackets_of (array t) rest = let e = brackets_of t rest in omega (arith, e)

behind_brackets : (t : FieldDescriptor) (rest : List ℕ) → drop (dimensions t) (field_spelling t ++ rest) ≡ field_spelling (base_in t) ++ rest
behind_brackets (primitive p) rest = refl
behind_brackets (class name) rest = refl
behind_brackets (array t) rest = ap (λ (k : ℕ). drop k (bracket ∷ (field_spelling t ++ rest))) (add-one (dimensions t)) ∙ behind_brackets t rest

base_named : (t : FieldDescriptor) → IsWellNamed t → IsWellNamed (base_in t)
base_named (primitive p) h = h
base_named (class name) h = h
base_named (array t) h = base_named t h

base_flat : (t : FieldDescriptor) → dimensions (base_in t) ≡ 0
base_flat (primitive p) = refl
base_flat (class name) = refl
base_flat (array t) = base_flat t

pub dimensions_back : (t : FieldDescriptor) → dimensioned (dimensions t) (base_in t) ≡ t
dimensions_back (primitive p) = refl
dimensions_back (class name) = refl
dimensions_back (array t) = ap (λ (k : ℕ). dimensioned k (base_in t)) (add-one (dimensions t)) ∙ ap array (dimensions_back t)

same_first : (a b : ℕ) (x y : List ℕ) → a ∷ x ≡ b ∷ y → a ≡ b
same_first a b x y e = cc

pub same_others : (a b : ℕ) (x y : List ℕ) → a ∷ x ≡ b ∷ y → x ≡ y
same_others a b x y e = cc

pub nothing_found : (a : ℕ) (x all : List ℕ) → a ∷ x ≡ all → length all ≡ 0 → ⊥
nothing_found a x all e none = let l = ap length e in omega (arith, l, none)

-- ---- the steps of the code

-- a base begins with an 'L' where it is a class, and otherwise is a letter
pub class_begins : (bytes behind rest : List ℕ) (t : FieldDescriptor) (first : ℕ) → bytes ≡ first ∷ behind → first ≡ class_letter → BeginsWithBase bytes t rest
    → (name : List ℕ) × (t ≡ class name) × IsClassName name × (behind ≡ name ++ semicolon ∷ rest)
class_begins bytes behind rest (primitive p) first is hit h = absurd (no_class_letter p (same_first (letter p) first rest behind (sym h.parts ∙ is) ∙ hit))
class_begins bytes behind rest (class name) first is hit h =
    (name, refl, h.named, same_others first class_letter behind ((name ++ semicolon ∷ []) ++ rest) (sym is ∙ h.parts) ∙ append_assoc name (semicolon ∷ []) rest)
class_begins bytes behind rest (array t) first is hit h = absurd (omega (arith, h.flat))

pub letter_begins : (bytes behind rest : List ℕ) (t : FieldDescriptor) (first : ℕ) → bytes ≡ first ∷ behind → (first ≡ class_letter → ⊥) → BeginsWithBase bytes t rest
    → (p : Primitive) × (t ≡ primitive p) × (primitive_of first ≡ Some p) × (behind ≡ rest)
letter_begins bytes behind rest (primitive p) first is miss h =
    let both = sym is ∙ h.parts in
    (p, refl, ap primitive_of (same_first first (letter p) behind rest both) ∙ by_letter p, same_others first (letter p) behind rest both)
letter_begins bytes behind rest (class name) first is miss h = absurd (miss (same_first first class_letter behind ((name ++ semicolon ∷ []) ++ rest) (sym is ∙ h.parts)))
letter_begins bytes behind rest (array t) first is miss h = absurd (omega (arith, h.flat))

pub some_begins : (bytes rest : List ℕ) (t : FieldDescriptor) → length bytes ≡ 0 → BeginsWithBase bytes t rest → ⊥
some_begins bytes rest (primitive p) none h = nothing_found (letter p) rest bytes (sym h.parts) none
some_begins bytes rest (class name) none h = nothing_found class_letter ((name ++ semicolon ∷ []) ++ rest) bytes (sym h.parts) none
some_begins bytes rest (array t) none h = nothing_found bracket (field_spelling t ++ rest) bytes (sym h.parts) none

pub same_primitive : (p q : Primitive) (o : Option Primitive) → Some p ≡ o → o ≡ Some q → p ≡ q
same_primitive p q o e f = cc

pub no_primitive : (q : Primitive) (o : Option Primitive) → None ≡ o → o ≡ Some q → ⊥
no_primitive q o e f = absurd cc

-- after so many brackets stands the base
pub brackets_counted : (bytes rest : List ℕ) (t : FieldDescriptor) (dims : ℕ) → BeginsWith bytes t rest → dims ≡ prefix_len (λ b. b == bracket) bytes → dims ≡ dimensions t
brackets_counted bytes rest t dims h is = is ∙ ap (prefix_len (λ b. b == bracket)) h.parts ∙ brackets_of t rest

pub base_begins : (bytes behind rest : List ℕ) (t : FieldDescriptor) (dims : ℕ) → BeginsWith bytes t rest → dims ≡ prefix_len (λ b. b == bracket) bytes → behind ≡ drop dims bytes
    → BeginsWithBase behind (base_in t) rest
base_begins bytes behind rest t dims h is back =
    let count = brackets_counted bytes rest t dims h is in
    record {
      named = base_named t h.named;
      flat = base_flat t;
      parts = back ∙ ap (λ (k : ℕ). drop k bytes) count ∙ ap (drop (dimensions t)) h.parts ∙ behind_brackets t rest;
    }
