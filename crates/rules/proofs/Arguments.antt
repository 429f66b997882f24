-- The arguments of a call: from the top of the stack down they are its parameters, the last one first.
use Rattle.std.proofs.Common.{◌≡◌, List, [], ◌∷◌, ◌++◌, map, reverse, refl, sym, ◌∙◌, ap, append_assoc}
use Rattle.std.proofs.lemmas.List.{reverse-append, map-append, append-nil}
use Rattle.names.specs.Descriptors.{FieldDescriptor}
use Rattle.rules.specs.declared.expected.ExpectedType.{ExpectedType as RawExpectedType}
use Rattle.rules.specs.TypingRules.{ExpectedType, expected_of, arguments_on}
use Rattle.rules.specs.Views.{expected_view}

pub map_reversed : {A B : Type 0} (f : A → B) (xs : List A) → map f (reverse xs) ≡ reverse (map f xs)
map_reversed f [] = refl
map_reversed f (x ∷ xs) =
    ap (map f) (reverse-append (x ∷ []) xs) ∙ map-append f (reverse xs) (x ∷ []) ∙ ap (λ ys. ys ++ f x ∷ []) (map_reversed f xs)
    ∙ sym (reverse-append (f x ∷ []) (map f xs))

arguments_are : (ts : List FieldDescriptor) (beneath : List ExpectedType) → arguments_on ts beneath ≡ reverse (map expected_of ts) ++ beneath
arguments_are [] beneath = refl
arguments_are (t ∷ ts) beneath =
    arguments_are ts (expected_of t ∷ beneath)
    ∙ sym (append_assoc (reverse (map expected_of ts)) (expected_of t ∷ []) beneath)
    ∙ ap (λ ws. ws ++ beneath) (sym (reverse-append (expected_of t ∷ []) (map expected_of ts)))

module _ (ts : List FieldDescriptor) (ws new : List RawExpectedType) (are : map expected_view ws ≡ map expected_of ts) (turned : new ≡ reverse ws) where
  in_turn : map expected_view new ≡ reverse (map expected_of ts)
  in_turn = ap (map expected_view) turned ∙ map_reversed expected_view ws ∙ ap reverse are

  pub on_nothing : map expected_view new ≡ arguments_on ts []
  on_nothing = in_turn ∙ sym (append-nil (reverse (map expected_of ts))) ∙ sym (arguments_are ts [])

  pub on_receiver : (w : RawExpectedType) (all : List RawExpectedType) → all ≡ new ++ w ∷ [] → map expected_view all ≡ arguments_on ts (expected_view w ∷ [])
  on_receiver w all e =
      ap (map expected_view) e ∙ map-append expected_view new (w ∷ []) ∙ ap (λ xs. xs ++ expected_view w ∷ []) in_turn ∙ sym (arguments_are ts (expected_view w ∷ []))
