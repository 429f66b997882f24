-- Classes of a list by their names and places.
use Rattle.std.proofs.Common.{zero, Option, option_map, subst, ◌≡◌, ℕ, suc, ◌≤◌, ◌<◌, List, [], ◌∷◌, Bool, true, false, cond, nat_lt, Some, None, map, length, position, find, slice_get, get_or, refl, ap, sym, ◌∙◌, arith}
use Rattle.std.specs.List.{position_or_len}
use Rattle.std.proofs.lemmas.List.Folds.{find_at}
use Rattle.std.proofs.lemmas.Option.{slice_get_past, slice_get-get_or}
use Rattle.std.proofs.lemmas.List.{get_or-map, length-map}
use Rattle.std.proofs.lemmas.Bool.{ltb-false, ltb-true, false≢true}
use Rattle.std.specs.Str.{bytes_eq}
use Rattle.std.proofs.lemmas.Option.{slice_get_within}
use Rattle.std.proofs.lemmas.Slice.Eq.{bytes_eq-Decides}
use Rattle.hierarchy.specs.declared.name_key.NameKey.{NameKey}
use Rattle.hierarchy.specs.Class.{ClassFact, class_of}

pub first_map : {X Y : Type 0} (p : Y → Bool) (f : X → Y) (xs : List X) → position_or_len p (map f xs) ≡ position_or_len (λ x. p (f x)) xs
first_map p f [] = refl
first_map p f (x ∷ xs) = grind (arith, first_map p f xs)

position_map : {X Y : Type 0} (p : Y → Bool) (f : X → Y) (xs : List X) → position p (map f xs) ≡ position (λ x. p (f x)) xs
position_map p f xs = λ i. cond (nat_lt (first_map p f xs i) (length-map xs f i)) (Some (first_map p f xs i)) None

-- the place of a name among the names is that of its class in the list
pub place_same : (ks : List NameKey) (cs : List ClassFact) (n : List ℕ) → map (λ k. k.bytes.now) ks ≡ map (λ c. c.name) cs → position (λ k. bytes_eq n k.bytes.now) ks ≡ position (λ c. bytes_eq n c.name) cs
place_same ks cs n e = sym (position_map (bytes_eq n) (λ (k : NameKey). k.bytes.now) ks) ∙ ap (position (bytes_eq n)) e ∙ position_map (bytes_eq n) (λ (c : ClassFact). c.name) cs

-- what stands at the place that was found
pub at_place : {X : Type 0} (p : X → Bool) (xs : List X) (i : ℕ) → position p xs ≡ Some i → find p xs ≡ slice_get xs i
at_place p xs i e = find_at p xs ∙ ap (slice_get xs) (found (nat_lt (position_or_len p xs) (length xs)) (position_or_len p xs) i e)
  where
    found : (b : Bool) (k i : ℕ) → cond b (Some k) None ≡ Some i → k ≡ i
    found true k i e = cc
    found false k i e = cc

missed : (k n : ℕ) (b : Bool) → nat_lt k n ≡ b → cond b (Some k) None ≡ None → n ≤ k
missed k n true h e = cc
missed k n false h e = ltb-false k n h

pub no_place : {X : Type 0} (p : X → Bool) (xs : List X) → position p xs ≡ None → find p xs ≡ None
no_place p xs e = find_at p xs ∙ slice_get_past xs (position_or_len p xs) (missed (position_or_len p xs) (length xs) (nat_lt (position_or_len p xs) (length xs)) refl e)

-- an element of a list that was mapped
pub at_map : {X Y : Type 0} (f : X → Y) (xs : List X) (i : ℕ) (d : X) → i < length xs → slice_get (map f xs) i ≡ Some (f (get_or xs i d))
at_map f xs i d h =
    let e = length-map xs f in
    let k : i < length (map f xs) = omega arith in
    slice_get-get_or (map f xs) i (f d) k ∙ ap (λ y. Some y) (get_or-map f xs i d (f d) h)

pub find_passes : {X : Type 0} (p : X → Bool) (xs : List X) (x : X) → find p xs ≡ Some x → p x ≡ true
find_passes p [] x e = cc
find_passes p (y ∷ ys) x e = by (p y) refl e (find_passes p ys x)
  where
    by : (t : Bool) → p y ≡ t → cond t (Some y) (find p ys) ≡ Some x → (find p ys ≡ Some x → p x ≡ true) → p x ≡ true
    by true h e k = cc
    by false h e k = k e

-- a class that is found stands at a place, and has the name
pub found_class : (classes : List ClassFact) (name : List ℕ) (c : ClassFact) → class_of classes name ≡ Some c → (i : ℕ) × (i < length classes) × (slice_get classes i ≡ Some c) × (c.name ≡ name)
found_class classes name c e =
    let p = λ (d : ClassFact). bytes_eq name d.name in
    let at = sym (find_at p classes) ∙ e in
    (position_or_len p classes, slice_get_within classes (position_or_len p classes) c at, at, sym ((bytes_eq-Decides name c.name).0 (find_passes p classes c e)))

pub some_same : {X : Type 0} {x y : X} → Some x ≡ Some y → x ≡ y
some_same e = cc

pub none_some : {X : Type 0} {x : X} → None ≡ Some x → ⊥
none_some e = cc

pub same_some : {X : Type 0} {o : Option X} {x y : X} → o ≡ Some x → o ≡ Some y → x ≡ y
same_some e f = cc

-- a class that passes is found
pub found_some : {X : Type 0} (p : X → Bool) (xs : List X) (j : ℕ) (x : X) → slice_get xs j ≡ Some x → p x ≡ true → find p xs ≡ None → ⊥
found_some p [] j x e t f = none_some e
found_some p (y ∷ ys) zero x e t f = by (p y) (ap p (some_same e) ∙ t) f
  where
    by : (b : Bool) → b ≡ true → cond b (Some y) (find p ys) ≡ None → ⊥
    by true g f = none_some (sym f)
    by false g f = false≢true g
found_some p (y ∷ ys) (suc j) x e t f = by (p y) f (found_some p ys j x e t)
  where
    by : (b : Bool) → cond b (Some y) (find p ys) ≡ None → (find p ys ≡ None → ⊥) → ⊥
    by true f k = none_some (sym f)
    by false f k = k f

-- a place that is found is one of the list
pub position_within : {X : Type 0} (p : X → Bool) (xs : List X) (j : ℕ) → position p xs ≡ Some j → j < length xs
position_within p xs j e = by (nat_lt (position_or_len p xs) (length xs)) refl e
  where
    by : (b : Bool) → nat_lt (position_or_len p xs) (length xs) ≡ b → cond b (Some (position_or_len p xs)) None ≡ Some j → j < length xs
    by true h e = subst (λ k. k < length xs) (some_same e) (ltb-true (position_or_len p xs) (length xs) h)
    by false h e = absurd (none_some e)

pub slice_none : {X : Type 0} (xs : List X) (j : ℕ) → j < length xs → slice_get xs j ≡ None → ⊥
slice_none [] j h e = absurd (omega arith)
slice_none (x ∷ xs) zero h e = none_some (sym e)
slice_none (x ∷ xs) (suc j) h e = slice_none xs j (omega arith) e

-- what an equation of `option_map` says
pub mapped : {X Y : Type 0} (f : X → Y) (o : Option X) (y : Y) → option_map f o ≡ Some y → (x : X) × (o ≡ Some x) × (f x ≡ y)
mapped f None y e = absurd (none_some e)
mapped f (Some x) y e = (x, refl, some_same e)
