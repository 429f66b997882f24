-- Types of frames in a row, and the locals that are in use.
use Rattle.std.proofs.Common.{◌≡◌, ℕ, zero, suc, ◌+◌, ◌-◌, ◌<◌, ◌≤◌, List, [], ◌∷◌, ◌++◌, append_assoc, refl, sym, ◌∙◌, ap, arith}
use Rattle.std.specs.Prelude.{replicate, map, codes, slice_get, take, Some}
use Rattle.std.proofs.lemmas.List.{map-append}
use Rattle.classfile.proofs.Places.{take_one_more}
use Rattle.std.specs.List.{flat_map}
use Rattle.names.specs.Names.{bracket}
use Rattle.names.specs.Descriptors.{FieldDescriptor, dimensioned}
use Rattle.frames.specs.declared.vtype.VType.{VType}
use Rattle.frames.specs.VerificationType.{VerificationType, top, type_of}
use Rattle.printing.specs.declared.names_in.Within.{Within}
use Rattle.printing.specs.declared.names_in.Within.TheVariants.{Words}
use Rattle.printing.specs.Frames.{descriptor_text, type_text, more_text, types_text, in_front, in_use, if_top}

pub brackets_left : (n c : ℕ) → c < n → replicate (n - c) bracket ≡ bracket ∷ replicate (n - (c + 1)) bracket
brackets_left n c lt = let e : n - c ≡ suc (n - (c + 1)) = omega (arith, lt) in ap (λ k. replicate k bracket) e

pub no_brackets : (n c : ℕ) → n ≡ c → replicate (n - c) bracket ≡ []
no_brackets n c e = let z : n - c ≡ 0 = omega (arith, e) in ap (λ k. replicate k bracket) z

-- an array of so many dimensions begins with so many brackets
pub dimensioned_text : (within : Within) (n : ℕ) (t : FieldDescriptor) → replicate n bracket ++ descriptor_text within t ≡ descriptor_text within (dimensioned n t)
dimensioned_text within zero t = refl
dimensioned_text within (suc n) t = ap (λ l. bracket ∷ l) (dimensioned_text within n t)

front_more : (t : VerificationType) (ts : List VerificationType) (x : VerificationType) → in_front t (ts ++ x ∷ []) ≡ t ∷ (ts ++ x ∷ [])
front_more top [] x = refl
front_more top (t ∷ ts) x = refl
front_more _ ts x = refl

-- one more local, which is top
pub in_use_top : (ts : List VerificationType) → in_use (ts ++ top ∷ []) ≡ in_use ts
in_use_top [] = refl
in_use_top (t ∷ ts) = ap (in_front t) (in_use_top ts)

-- one more, which is not
pub in_use_other : (ts : List VerificationType) (x : VerificationType) → in_front x [] ≡ x ∷ [] → in_use (ts ++ x ∷ []) ≡ ts ++ x ∷ []
in_use_other [] x e = e
in_use_other (t ∷ ts) x e = ap (in_front t) (in_use_other ts x e) ∙ front_more t ts x

-- ---- types in a row

pub more_of : (xs : List VType) → flat_map (λ x. more_text (type_of x)) xs ≡ flat_map more_text (map type_of xs)
more_of [] = refl
more_of (x ∷ xs) = ap (λ l. more_text (type_of x) ++ l) (more_of xs)

-- the first one and the others
pub row_text : (x : VType) (xs all : List VType) → all ≡ x ∷ xs
    → (codes " " ++ type_text Words (type_of x)) ++ flat_map (λ y. more_text (type_of y)) xs ≡ types_text (map type_of all)
row_text x xs all e =
    append_assoc (codes " ") (type_text Words (type_of x)) (flat_map (λ y. more_text (type_of y)) xs)
    ∙ ap (λ l. codes " " ++ (type_text Words (type_of x) ++ l)) (more_of xs)
    ∙ ap (λ l. types_text (map type_of l)) (sym e)

-- ---- locals in use

module _ (all : List VType) (i count : ℕ) (x : VType) (here : slice_get all i ≡ Some x) (so_far : in_use (map type_of (take i all)) ≡ map type_of (take count all)) where
  abbrev before : List VerificationType
  before = map type_of (take i all)

  more : map type_of (take (i + 1) all) ≡ before ++ type_of x ∷ []
  more = ap (map type_of) (take_one_more all i x here) ∙ map-append type_of (take i all) (x ∷ [])

  by_type : (t : VerificationType) → type_of x ≡ t → in_use (before ++ t ∷ []) ≡ map type_of (take (if_top t count (i + 1)) all)
  by_type top e = in_use_top before ∙ so_far
  by_type _ e = in_use_other before _ refl ∙ sym (more ∙ ap (λ t. before ++ t ∷ []) e)

  pub one_more_in_use : in_use (map type_of (take (i + 1) all)) ≡ map type_of (take (if_top (type_of x) count (i + 1)) all)
  one_more_in_use = ap in_use more ∙ by_type (type_of x) refl

pub if_top_within : (t : VerificationType) (first second : ℕ) → first ≤ second → if_top t first second ≤ second
if_top_within top first second le = le
if_top_within _ first second le = omega arith
