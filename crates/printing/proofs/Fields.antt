-- Fields after others, and strings of an array, one of each item.
use Rattle.std.proofs.Common.{◌≡◌, ◌∙◌, ℕ, List, [], ◌∷◌, ◌++◌, map, refl, sym, ap}
use Rattle.std.specs.Prelude.{codes}
use Rattle.std.specs.List.{flat_map}
use Rattle.printing.specs.Json.{Field, field_text, fields_then, enclosed, following, array_text}

pub fields_of_both : (fs gs : List Field) (rest : List ℕ) → fields_then (fs ++ gs) rest ≡ fields_then fs (fields_then gs rest)
fields_of_both [] gs rest = refl
fields_of_both (f ∷ fs) gs rest = ap (λ (l : List ℕ). codes "," ++ (field_text f ++ l)) (fields_of_both fs gs rest)

pub of_views : {A B C : Type 0} (f : B → C) (g : A → B) (xs : List A) → map (λ x. f (g x)) xs ≡ map f (map g xs)
of_views f g [] = refl
of_views f g (x ∷ xs) = ap (λ l. f (g x) ∷ l) (of_views f g xs)

following_of : {A : Type 0} (line : A → List ℕ) (xs : List A) → flat_map (λ x. following (line x)) xs ≡ flat_map following (map line xs)
following_of line [] = refl
following_of line (x ∷ xs) = ap (λ l. following (line x) ++ l) (following_of line xs)

-- the first one and the others
pub array_of : {A : Type 0} (line : A → List ℕ) (x : A) (xs all : List A) → all ≡ x ∷ xs
    → codes "[" ++ (enclosed (line x) ++ (flat_map (λ y. following (line y)) xs ++ codes "]")) ≡ array_text (map line all)
array_of line x xs all e =
    ap (λ l. codes "[" ++ (enclosed (line x) ++ (l ++ codes "]"))) (following_of line xs)
    ∙ ap (λ l. array_text (map line l)) (sym e)
