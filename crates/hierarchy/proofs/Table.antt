-- A table of names that grows along a list of classes.
use Rattle.std.proofs.Common.{zero, suc, ◌⊎◌, inl, inr, ◌-◌, Option, Some, None, option_map, position, drop, slice_get, ◌≡◌, ℕ, ◌+◌, ◌<◌, ◌≤◌, List, [], ◌∷◌, ◌++◌, Bool, true, false, map, length, take, get_or, refl, ap, sym, ◌∙◌, arith, not, cond}
use Rattle.std.specs.List.{IsDistinct, list_any}
use Rattle.std.specs.Str.{bytes_eq}
use Rattle.std.proofs.lemmas.Bool.{true≢false, false≢true, cases_lt}
use Rattle.std.proofs.lemmas.List.Quantifiers.{position-Some}
use Rattle.std.proofs.lemmas.List.{length-map, map-append, take_more, get_or-map, get_or-take, length-take, take_all}
use Rattle.std.proofs.lemmas.List.Folds.{Any-from_list_any}
use Rattle.std.proofs.lemmas.Option.{get_or_from_slice_get, slice_get_within, slice_get-map, slice_get-get_or}
use Rattle.std.proofs.lemmas.Map.Keys.{apart_from_distinct}
use Rattle.std.proofs.lemmas.Slice.Eq.{bytes_eq-Decides}
use Rattle.hierarchy.specs.declared.name_key.NameKey.{NameKey}
use Rattle.hierarchy.specs.declared.summary.Summary.{Summary}
use Rattle.hierarchy.specs.Class.{ClassFact}
use Rattle.hierarchy.specs.Summary.{fact_of, facts_of}
use Rattle.hierarchy.specs.Rules.{IsTwice, IsNamedAt, NoClass, IsFirst}
use Rattle.hierarchy.specs.Ancestors.{HasNone, IsLowest}
use Rattle.hierarchy.proofs.Names.{at_map, mapped, found_some, position_within, same_some, no_place}

abbrev pub names_of : List Summary → List (List ℕ)
names_of xs = map (λ c. c.name) (facts_of xs)

abbrev pub same_key : NameKey → NameKey → Bool
same_key a b = bytes_eq a.bytes.now b.bytes.now

-- the keys are the names of the first classes
pub record Filled (xs : List Summary) (keys : List NameKey) (i : ℕ) : Type 0 where
  pub named : map (λ k. k.bytes.now) keys ≡ take i (names_of xs)
  pub distinct : IsDistinct same_key keys

name_at : (xs : List Summary) (i : ℕ) (d : Summary) → i < length xs → get_or (names_of xs) i [] ≡ (get_or xs i d).name.now
name_at xs i d h =
    let e = length-map xs fact_of in
    let k : i < length (facts_of xs) = omega arith in
    get_or-map (λ (c : ClassFact). c.name) (facts_of xs) i (fact_of d) [] k ∙ ap (λ (c : ClassFact). c.name) (get_or-map fact_of xs i d (fact_of d) h)

pub grown : (xs : List Summary) (keys : List NameKey) (k : NameKey) (i : ℕ) (d : Summary) → i < length xs → map (λ k. k.bytes.now) keys ≡ take i (names_of xs) → k.bytes.now ≡ (get_or xs i d).name.now → map (λ k. k.bytes.now) (keys ++ k ∷ []) ≡ take (i + 1) (names_of xs)
grown xs keys k i d h e f =
    let a = length-map xs fact_of in
    let b = length-map (facts_of xs) (λ (c : ClassFact). c.name) in
    let l : i < length (names_of xs) = omega arith in
    map-append (λ (k : NameKey). k.bytes.now) keys (k ∷ [])
    ∙ ap (λ ns. ns ++ k.bytes.now ∷ []) e
    ∙ ap (λ n. take i (names_of xs) ++ n ∷ []) (f ∙ sym (name_at xs i d h))
    ∙ sym (take_more (names_of xs) i [] l)

elem : {X : Type 0} (xs : List X) → 0 < length xs → X
elem [] h = absurd (omega arith)
elem (x ∷ xs) h = x

named_at : (xs : List Summary) (i : ℕ) (n : List ℕ) → IsNamedAt (facts_of xs) i n → get_or (names_of xs) i [] ≡ n
named_at xs i n w =
    get_or-map (λ (c : ClassFact). c.name) (facts_of xs) i w.0 [] (slice_get_within (facts_of xs) i w.0 w.1)
    ∙ ap (λ (c : ClassFact). c.name) (get_or_from_slice_get (facts_of xs) i w.0 w.0 w.1) ∙ w.2

key_at : (keys : List NameKey) (i : ℕ) (d : NameKey) → i < length keys → (get_or keys i d).bytes.now ≡ get_or (map (λ k. k.bytes.now) keys) i []
key_at keys i d h = sym (get_or-map (λ (k : NameKey). k.bytes.now) keys i d [] h)

-- keys that differ are names of which none stands twice
pub none_twice : (xs : List Summary) (keys : List NameKey) → map (λ k. k.bytes.now) keys ≡ names_of xs → IsDistinct same_key keys → NoClass (IsTwice (facts_of xs)) (facts_of xs)
none_twice xs keys e distinct j h c f t =
    let a = length-map keys (λ (k : NameKey). k.bytes.now) in
    let b = length-map (facts_of xs) (λ (c : ClassFact). c.name) in
    let g = ap length e in
    let within = slice_get_within (facts_of xs) t.1 t.4.0 t.4.1 in
    let second : t.1 < length keys = omega (arith, a, b, g, within) in
    let first : t.0 < length keys = omega (arith, second, t.2) in
    let some : 0 < length keys = omega (arith, second) in
    let d = elem keys some in
    let one = key_at keys t.0 d first ∙ ap (λ ns. get_or ns t.0 []) e ∙ named_at xs t.0 c.name t.3 in
    let two = key_at keys t.1 d second ∙ ap (λ ns. get_or ns t.1 []) e ∙ named_at xs t.1 c.name t.4 in
    let same = (bytes_eq-Decides (get_or keys t.0 d).bytes.now (get_or keys t.1 d).bytes.now).1 (one ∙ sym two) in
    false≢true (sym (apart_from_distinct same_key keys t.0 t.1 d distinct t.2 second) ∙ same)

slice_get-drop : {X : Type 0} (k : ℕ) (xs : List X) (i : ℕ) → slice_get (drop k xs) i ≡ slice_get xs (k + i)
slice_get-drop zero xs i = let e : zero + i ≡ i = omega arith in ap (slice_get xs) (sym e)
slice_get-drop (suc k) [] i = refl
slice_get-drop (suc k) (x ∷ xs) i = let e : suc k + i ≡ suc (k + i) = omega arith in slice_get-drop k xs i ∙ ap (slice_get (x ∷ xs)) (sym e)

-- a table of the names up to a place, and the places in it of the names from there on
module _ (xs : List Summary) (keys : List NameKey) (k : ℕ) (named : map (λ k. k.bytes.now) keys ≡ take k (names_of xs)) (within : k < length xs) where
  keys_long : length keys ≡ k
  keys_long =
      let a = length-map keys (λ (q : NameKey). q.bytes.now) in
      let b = ap length named ∙ length-take k (names_of xs) in
      let c = length-map (facts_of xs) (λ (c : ClassFact). c.name) in
      let d = length-map xs fact_of in
      omega (arith, a, b, c, d)

  -- the key at a place is the name of the class there
  key_named : (l : ℕ) (d : NameKey) (s : Summary) → l < k → (get_or keys l d).bytes.now ≡ (get_or xs l s).name.now
  key_named l d s h =
      let e = keys_long in
      let inside : l < length keys = omega arith in
      let here : l < length xs = omega arith in
      key_at keys l d inside ∙ ap (λ ns. get_or ns l []) named ∙ get_or-take k (names_of xs) l [] h ∙ name_at xs l s here

  key_is : (l : ℕ) (d : NameKey) (n : List ℕ) → l < k → IsNamedAt (facts_of xs) l n → (get_or keys l d).bytes.now ≡ n
  key_is l d n h w =
      let e = keys_long in
      let inside : l < length keys = omega arith in
      key_at keys l d inside ∙ ap (λ ns. get_or ns l []) named ∙ get_or-take k (names_of xs) l [] h ∙ named_at xs l n w

  module _ (places : List (Option ℕ)) (e : places ≡ map (λ c. position (λ q. bytes_eq c.name.now q.bytes.now) keys) (drop k xs)) where
    -- a place in the table is that of a name that stands again from the place on
    led : (i l : ℕ) → slice_get places i ≡ Some (Some l) → (l < k) × (k + i < length xs) × ((n : List ℕ) × IsNamedAt (facts_of xs) l n × IsNamedAt (facts_of xs) (k + i) n)
    led i l h =
        let f = λ (c : Summary). position (λ (q : NameKey). bytes_eq c.name.now q.bytes.now) keys in
        let r = mapped f (slice_get (drop k xs) i) (Some l) (sym (slice_get-map f (drop k xs) i) ∙ ap (λ ps. slice_get ps i) (sym e) ∙ h) in
        let at = sym (slice_get-drop k xs i) ∙ r.1 in
        let there = slice_get_within xs (k + i) r.0 at in
        let m = keys_long in
        let inside = position_within (λ (q : NameKey). bytes_eq r.0.name.now q.bytes.now) keys l r.2 in
        let some : 0 < length keys = omega (arith, inside) in
        let d = elem keys some in
        let p = position-Some (λ (q : NameKey). bytes_eq r.0.name.now q.bytes.now) keys l d r.2 in
        let low : l < k = omega (arith, inside, m) in
        let here : l < length xs = omega (arith, low) in
        let same = (bytes_eq-Decides r.0.name.now (get_or keys l d).bytes.now).0 p.1 ∙ key_named l d r.0 low in (
          low,
          there,
          (
            r.0.name.now,
            (fact_of (get_or xs l r.0), at_map fact_of xs l r.0 here, sym same),
            (fact_of r.0, slice_get-map fact_of xs (k + i) ∙ ap (option_map fact_of) at, refl),
          ),
        )

    -- a name of the table has a place in it, no later than its own
    leads : (j q : ℕ) (n : List ℕ) → j < k → k ≤ q → IsNamedAt (facts_of xs) j n → IsNamedAt (facts_of xs) q n → (p : ℕ) × (p ≤ j) × (slice_get places (q - k) ≡ Some (Some p))
    leads j q n h g a b = by (position test keys) refl
      where
        long : length keys ≡ k
        long = keys_long

        inside : j < length keys
        inside = omega (arith, long, h)

        d : NameKey
        d = elem keys (omega (arith, inside))

        s : (s : Summary) × (slice_get xs q ≡ Some s) × (fact_of s ≡ b.0)
        s = mapped fact_of (slice_get xs q) b.0 (sym (slice_get-map fact_of xs q) ∙ b.1)

        test : NameKey → Bool
        test k = bytes_eq s.0.name.now k.bytes.now

        passes : bytes_eq s.0.name.now (get_or keys j d).bytes.now ≡ true
        passes = (bytes_eq-Decides s.0.name.now (get_or keys j d).bytes.now).1 (ap (λ (c : ClassFact). c.name) s.2 ∙ b.2 ∙ sym (key_is j d n h a))

        f : Summary → Option ℕ
        f c = position (λ (q : NameKey). bytes_eq c.name.now q.bytes.now) keys

        there : slice_get (drop k xs) (q - k) ≡ Some s.0
        there = let e : k + (q - k) ≡ q = omega (arith, g) in slice_get-drop k xs (q - k) ∙ ap (slice_get xs) e ∙ s.1

        by : (o : Option ℕ) → position (λ (k : NameKey). bytes_eq s.0.name.now k.bytes.now) keys ≡ o → (p : ℕ) × (p ≤ j) × (slice_get places (q - k) ≡ Some (Some p))
        by None w = absurd (found_some (λ (k : NameKey). bytes_eq s.0.name.now k.bytes.now) keys j (get_or keys j d) (slice_get-get_or keys j d inside) passes (no_place (λ (k : NameKey). bytes_eq s.0.name.now k.bytes.now) keys w))
        by (Some p) w = (p, early (cases_lt j p), ap (λ ps. slice_get ps (q - k)) e ∙ slice_get-map (λ (c : Summary). position (λ (q : NameKey). bytes_eq c.name.now q.bytes.now) keys) (drop k xs) (q - k) ∙ ap (option_map (λ (c : Summary). position (λ (q : NameKey). bytes_eq c.name.now q.bytes.now) keys)) there ∙ ap (λ o. Some o) w)
          where
            early : (j < p) ⊎ (p ≤ j) → p ≤ j
            early (inl l) = absurd (false≢true (sym ((position-Some (λ (k : NameKey). bytes_eq s.0.name.now k.bytes.now) keys p d w).2 j l) ∙ passes))
            early (inr l) = l

    -- the class at the lowest place is the first whose name stands twice
    module _ (l : ℕ) (low : IsLowest places l) where
      pub lowest_within : l < length xs
      lowest_within = let r = led low.0.0 l low.0.1 in omega (arith, r.0, within)

      pub lowest_twice : (name : List ℕ) → IsDistinct same_key keys → IsNamedAt (facts_of xs) l name → IsFirst (IsTwice (facts_of xs)) (facts_of xs) name
      lowest_twice name distinct n = (l, n.0, n.1, n.2, (l, k + low.0.0, omega (arith, r.0), (n.0, n.1, refl), (r.2.2.0, r.2.2.1, r.2.2.2 ∙ sym same)), none)
        where
          r : (l < k) × (k + low.0.0 < length xs) × ((n : List ℕ) × IsNamedAt (facts_of xs) l n × IsNamedAt (facts_of xs) (k + low.0.0) n)
          r = led low.0.0 l low.0.1

          same : n.0.name ≡ r.2.0
          same = ap (λ (c : ClassFact). c.name) (same_some n.1 r.2.1.1) ∙ r.2.1.2

          none : (j : ℕ) → j < l → (c : ClassFact) → slice_get (facts_of xs) j ≡ Some c → IsTwice (facts_of xs) c → ⊥
          none j h c f t = by (cases_lt t.1 k)
            where
              by : (t.1 < k) ⊎ (k ≤ t.1) → ⊥
              by (inl g) =
                  let m = keys_long in
                  let second : t.1 < length keys = omega (arith, m, g) in
                  let first : t.0 < k = omega (arith, g, t.2) in
                  let d = elem keys (omega (arith, second)) in
                  let equal = (bytes_eq-Decides (get_or keys t.0 d).bytes.now (get_or keys t.1 d).bytes.now).1 (key_is t.0 d c.name first t.3 ∙ sym (key_is t.1 d c.name g t.4)) in
                  false≢true (sym (apart_from_distinct same_key keys t.0 t.1 d distinct t.2 second) ∙ equal)
              by (inr g) =
                  let before : j < k = omega (arith, h, r.0) in
                  let p = leads j t.1 c.name before g (c, f, refl) t.4 in
                  let least = low.1 (t.1 - k) p.0 p.2 in
                  absurd (omega (arith, least, p.1, h))

    -- a name that is there already has a place
    pub not_none : (c : ClassFact) → slice_get (facts_of xs) k ≡ Some c → list_any (λ q. bytes_eq c.name q.bytes.now) keys ≡ true → HasNone places → ⊥
    not_none c at t none =
        let a = Any-from_list_any (λ (q : NameKey). bytes_eq c.name q.bytes.now) keys t in
        let m = keys_long in
        let s = mapped fact_of (slice_get xs k) c (sym (slice_get-map fact_of xs k) ∙ at) in
        let before : a.0 < k = omega (arith, a.2, m) in
        let here : a.0 < length xs = omega (arith, before, within) in
        let same = sym (key_named a.0 a.1 s.0 before) ∙ ap (λ (q : NameKey). q.bytes.now) a.3 ∙ sym ((bytes_eq-Decides c.name a.1.bytes.now).0 a.4) in
        let p = leads a.0 k c.name before (omega arith) (fact_of (get_or xs a.0 s.0), at_map fact_of xs a.0 s.0 here, same) (c, at, refl) in
        none (k - k) p.0 p.2

pub added_last : {X : Type 0} (t added : Bool) (ks : List X) (k : X) → added ≡ not t → added ≡ true → cond t ks (ks ++ k ∷ []) ≡ ks ++ k ∷ []
added_last true added ks k e f = absurd (true≢false (sym f ∙ e))
added_last false added ks k e f = refl

pub was_there : (t added : Bool) → added ≡ not t → added ≡ false → t ≡ true
was_there true added e f = refl
was_there false added e f = absurd (false≢true (sym f ∙ e))

pub filled_all : (xs : List Summary) (keys : List NameKey) (i : ℕ) → length xs ≤ i → map (λ k. k.bytes.now) keys ≡ take i (names_of xs) → map (λ k. k.bytes.now) keys ≡ names_of xs
filled_all xs keys i h e =
    let r = length-map (facts_of xs) (λ (c : ClassFact). c.name) in
    let s = length-map xs fact_of in
    let past : length (names_of xs) ≤ i = omega (arith, r, s) in
    e ∙ take_all i (names_of xs) past

pub summary_within : (xs : List Summary) (k : ℕ) (c : ClassFact) → slice_get (facts_of xs) k ≡ Some c → k < length xs
summary_within xs k c e =
    let h = slice_get_within (facts_of xs) k c e in
    let l = length-map xs fact_of in
    omega (arith, h, l)

pub kept_all : {X : Type 0} (t : Bool) (ks : List X) (k : X) → t ≡ true → cond t ks (ks ++ k ∷ []) ≡ ks
kept_all true ks k e = refl
kept_all false ks k e = absurd (false≢true e)
