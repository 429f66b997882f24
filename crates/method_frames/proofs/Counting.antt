-- The units that items take, as they are counted.
use Rattle.std.proofs.Common.{◌≡◌, ◌↔◌, ◌∙◌, ℕ, ◌+◌, ◌-◌, ◌≤◌, leb, List, [], ◌∷◌, ◌++◌, length, map, take, drop, reverse, refl, sym, ap, subst, arith}
use Rattle.std.specs.Prelude.{IsTrue}
use Rattle.std.proofs.lemmas.Bool.{le-leb, leb-true}
use Rattle.std.proofs.lemmas.List.{map-append, length-append, length-map, length-drop, length-take-le, reverse-append, take-append-drop, take_rest}
use Rattle.frames.specs.FrameAssignable.{width_of}
use Rattle.frames.specs.Slots.{units_of}
use Rattle.frames.proofs.Units.{units_append, units_reverse, units_least, units_most}
use Rattle.type_numbers.specs.Numbers.{Numbering}
use Rattle.type_numbers.specs.Decoding.{type_by, types_by}
use Rattle.method_frames.specs.private.Counted.{IsCounted}

pub none_numbered : Numbering
none_numbered = record { classes = []; absent = []; present = [] }

pub wides_most : (xs : List ℕ) (w : ℕ) → IsCounted xs w → w ≤ length xs
wides_most xs w c = omega (arith, c.units none_numbered, units_most (types_by none_numbered xs), length-map xs (type_by none_numbered))

pub none_counted : IsCounted [] 0
none_counted = record { units = λ s. omega arith }

-- ---- one more on top, and one less

module _ (xs : List ℕ) (n w k : ℕ) (wide : (s : Numbering) → width_of (type_by s n) ≡ 1 + k) where
  units_more : (s : Numbering) → units_of (types_by s (xs ++ n ∷ [])) ≡ units_of (types_by s xs) + (1 + k)
  units_more s =
      let parts = ap units_of (map-append (type_by s) xs (n ∷ [])) ∙ units_append (types_by s xs) (type_by s n ∷ []) in
      omega (arith, parts, wide s)

  length_more : length (xs ++ n ∷ []) ≡ length xs + 1
  length_more = length-append xs (n ∷ [])

  pub counted_more : IsCounted xs w → IsCounted (xs ++ n ∷ []) (w + k)
  counted_more c = record { units = λ s. omega (arith, units_more s, length_more, c.units s) }

  pub counted_some : IsCounted (xs ++ n ∷ []) w → k ≤ w
  counted_some c =
      let s = none_numbered in
      omega (arith, units_more s, length_more, c.units s, units_least (types_by s xs), length-map xs (type_by s))

  pub counted_less : IsCounted (xs ++ n ∷ []) w → IsCounted xs (w - k)
  counted_less c = record { units = λ s. omega (arith, units_more s, length_more, c.units s, counted_some c) }

-- ---- as they are told

-- whichever end comes first
pub map_reverse : {X Y : Type 0} (f : X → Y) (xs : List X) → map f (reverse xs) ≡ reverse (map f xs)
map_reverse f [] = refl
map_reverse f (x ∷ xs) =
    ap (map f) (reverse-append (x ∷ []) xs) ∙ map-append f (reverse xs) (x ∷ [])
    ∙ ap (λ ys. ys ++ f x ∷ []) (map_reverse f xs) ∙ sym (reverse-append (f x ∷ []) (map f xs))

pub types_reverse : (s : Numbering) (xs : List ℕ) → types_by s (reverse xs) ≡ reverse (types_by s xs)
types_reverse s xs = map_reverse (type_by s) xs

pub units_told : (xs : List ℕ) (w : ℕ) → IsCounted xs w → (s : Numbering) → units_of (types_by s (reverse xs)) ≡ length xs + w
units_told xs w c s = ap units_of (types_reverse s xs) ∙ units_reverse (types_by s xs) ∙ c.units s

pub has_told : (a b count units : ℕ) → (a ≤ b → count ≤ units) → (count ≤ units → a ≤ b) → IsTrue (leb a b) ↔ (count ≤ units)
has_told a b count units f g = (λ t. f (leb-true a b t), λ h. le-leb a b (g h))

-- ---- the items above a place are changed, and the count with them

units_parts : (s : Numbering) (xs : List ℕ) (b : ℕ) → units_of (types_by s xs) ≡ units_of (types_by s (take b xs)) + units_of (types_by s (drop b xs))
units_parts s xs b =
    ap (λ z. units_of (types_by s z)) (sym (take-append-drop b xs)) ∙ ap units_of (map-append (type_by s) (take b xs) (drop b xs))
    ∙ units_append (types_by s (take b xs)) (types_by s (drop b xs))

-- the part above a place, as a slice shows it
pub above_counted : (xs seen : List ℕ) (b k w : ℕ) → seen ≡ xs → k ≡ b → IsCounted (take (length seen - k) (drop k seen)) w → IsCounted (drop b xs) w
above_counted xs seen b k w s e u =
    let same : take (length seen - k) (drop k seen) ≡ drop b xs = take_rest seen k ∙ ap (drop k) s ∙ ap (λ z. drop z xs) e in
    subst (λ z. IsCounted z w) same u

module _ (old new : List ℕ) (b w before later : ℕ) (same : take b new ≡ take b old) (within : b ≤ length old) (above : b ≤ length new) (e : IsCounted old w) (o : IsCounted (drop b old) before) where
  beneath_same : (s : Numbering) → units_of (types_by s (take b new)) ≡ units_of (types_by s (take b old))
  beneath_same s = ap (λ z. units_of (types_by s z)) same

  beneath_least : (s : Numbering) → b ≤ units_of (types_by s (take b old))
  beneath_least s = omega (arith, units_least (types_by s (take b old)), length-map (take b old) (type_by s), length-take-le b old within)

  pub enough_wides : before ≤ w
  enough_wides =
      let s = none_numbered in
      omega (arith, e.units s, o.units s, units_parts s old b, beneath_least s, length-drop b old, within)

  pub wides_then : IsCounted (drop b new) later → IsCounted new (w - before + later)
  wides_then n = record {
    units = λ s. omega (arith, e.units s, o.units s, n.units s, units_parts s old b, units_parts s new b, beneath_same s, beneath_least s, enough_wides, length-drop b old, length-drop b new, within, above);
  }
