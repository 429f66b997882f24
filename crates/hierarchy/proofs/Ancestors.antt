-- Classes on cycles: those that stand more steps above some class than there are classes.
use Rattle.std.proofs.Common.{◌≡◌, ◌⊎◌, ℕ, zero, suc, ◌+◌, ◌*◌, ◌-◌, ◌/◌, ◌<◌, ◌≤◌, List, [], ◌∷◌, map, length, find, position, slice_get, Option, Some, None, option_map, refl, ap, sym, ◌∙◌, subst, inl, inr, arith}
use Rattle.std.specs.Option.{option_and_then}
use Rattle.std.specs.Str.{bytes_eq}
use Rattle.std.proofs.lemmas.Bool.{cases_lt}
use Rattle.std.proofs.lemmas.Option.{slice_get_within, slice_get-map}
use Rattle.std.proofs.lemmas.Slice.Eq.{bytes_eq-Decides}
use Rattle.std.proofs.Math.Nat.{mul-le-mul_right, div-add-mod}
use Rattle.hierarchy.specs.declared.summary.Summary.{Summary}
use Rattle.hierarchy.specs.World.{Entry, World, superclass_in, climb}
use Rattle.hierarchy.specs.Class.{ClassFact, class_of, entry_of, world_of, superclass_of}
use Rattle.hierarchy.specs.Summary.{fact_of, facts_of}
use Rattle.hierarchy.specs.Rules.{IsNamedAt, IsTwice, IsOnCycle, NoClass, IsFirst}
use Rattle.hierarchy.specs.Ancestors.{superclass_place, place_after, AreAncestors, HasNone, IsLowest}
use Rattle.std.proofs.lemmas.List.{length-map}
use Rattle.hierarchy.proofs.Names.{found_class, find_passes, at_place, no_place, none_some, same_some, found_some, position_within, slice_none, mapped}
use Rattle.hierarchy.proofs.Chain.{IsWithin, here, up, shorten}
use Rattle.hierarchy.proofs.Worlds.{up_from, steps_of, chain_of, with_entry, entry_found}

module _ (w : World) where
  pub climb_add : (m n : ℕ) (a : List ℕ) → climb w (m + n) a ≡ option_and_then (climb w n) (climb w m a)
  climb_add zero n a =
      let e : zero + n ≡ n = omega arith in
      ap (λ k. climb w k a) e
  climb_add (suc m) n a =
      let e : suc m + n ≡ suc (m + n) = omega arith in
      ap (λ k. climb w k a) e ∙ onward (superclass_in w a) (climb_add m n)
    where
      onward : (o : Option (List ℕ)) → ((s : List ℕ) → climb w (m + n) s ≡ option_and_then (climb w n) (climb w m s)) → option_and_then (climb w (m + n)) o ≡ option_and_then (climb w n) (option_and_then (climb w m) o)
      onward None k = refl
      onward (Some s) k = k s

  -- from what is m steps above a, n steps more
  pub climb_on : (m n : ℕ) (a s : List ℕ) → climb w m a ≡ Some s → climb w (m + n) a ≡ climb w n s
  climb_on m n a s e = climb_add m n a ∙ ap (option_and_then (climb w n)) e

  one_up : (a b : List ℕ) → climb w 1 a ≡ Some b → superclass_in w a ≡ Some b
  one_up a b e = let r = up_from (superclass_in w a) (climb w 0) b e in r.1 ∙ r.2

  IsPeriod : List ℕ → ℕ → Type 0
  IsPeriod a m = climb w (suc m) a ≡ Some a

  -- on a cycle there is a class any number of steps below
  back : (a : List ℕ) (m : ℕ) → climb w (suc m) a ≡ Some a → (n : ℕ) → (x : List ℕ) × (climb w n x ≡ Some a)
  back a m p zero = (a, refl)
  back a m p (suc n) =
      let e : m + 1 ≡ suc m = omega arith in
      let r = up_from (climb w m a) (climb w 1) a (sym (climb_add m 1 a) ∙ ap (λ k. climb w k a) e ∙ p) in
      let around : climb w (suc m) r.0 ≡ Some r.0 = ap (option_and_then (climb w m)) (one_up r.0 a r.2) ∙ r.1 in
      let below = back r.0 m around n in
      let f : n + 1 ≡ suc n = omega arith in
      (below.0, ap (λ k. climb w k below.0) (sym f) ∙ climb_on n 1 below.0 r.0 below.1 ∙ r.2)

module _ (classes : List ClassFact) where
  steps_within : (k : ℕ) (a b : List ℕ) → IsWithin classes k a b → (n : ℕ) × (n ≤ k) × (climb (world_of classes) n a ≡ Some b)
  steps_within k a b here = (zero, omega arith, refl)
  steps_within (suc k) a b (up {s = s} e p) =
      let r = steps_within k s b p in
      (suc r.0, omega (arith, r.1), ap (option_and_then (climb (world_of classes) r.0)) e ∙ r.2)

  -- what stands more steps above than there are classes stands above itself
  pub around : (n : ℕ) (x a : List ℕ) → length classes < n → climb (world_of classes) n x ≡ Some a → (m : ℕ) × (climb (world_of classes) (suc m) a ≡ Some a)
  around n x a h e =
      let r = steps_within (length classes) x a (shorten classes (chain_of (world_of classes) n x a e)) in
      let m = n - (r.0 + 1) in
      let f : r.0 + suc m ≡ n = omega (arith, r.1) in
      (m, sym (climb_on (world_of classes) r.0 (suc m) x a r.2) ∙ ap (λ k. climb (world_of classes) k x) f ∙ e)

  -- a name with a superclass is that of a class
  pub present : (a s : List ℕ) → superclass_of classes a ≡ Some s → (j : ℕ) × (d : ClassFact) × (slice_get classes j ≡ Some d) × (d.name ≡ a)
  present a s e =
      let r = with_entry (world_of classes a) s e in
      let c = entry_found classes a (class_of classes a) refl r.0 r.1 in
      let at = found_class classes a c.0 c.1 in
      (at.0, c.0, at.2, at.3)

-- the lowest of the places before k
pub record IsLow (places : List (Option ℕ)) (k : ℕ) (low : Option ℕ) : Type 0 where
  pub below : (i j : ℕ) → i < k → slice_get places i ≡ Some (Some j) → (l : ℕ) × (low ≡ Some l) × (l ≤ j)
  pub among : (l : ℕ) → low ≡ Some l → (i : ℕ) × (slice_get places i ≡ Some (Some l))

-- the table is for some number of steps, which is more than the classes when nothing is left
pub record IsDoubled (classes : List ClassFact) (left : ℕ) (places : List (Option ℕ)) : Type 0 where
  pub steps : ℕ
  pub some : 0 < steps
  pub many : length classes < (left + 1) * steps
  pub ancestors : AreAncestors classes steps places

-- what an equation of `option_and_then` says
pub taken : {X Y : Type 0} (f : X → Option Y) (o : Option X) (y : Y) → option_and_then f o ≡ Some y → (x : X) × (o ≡ Some x) × (f x ≡ Some y)
taken f None y e = absurd (none_some e)
taken f (Some x) y e = (x, refl, e)

module _ (classes : List ClassFact) (one_each : NoClass (IsTwice classes) classes) where
  abbrev world : World
  world = world_of classes

  -- two places of one name are one place
  pub one_place : (i j : ℕ) (c d : ClassFact) → slice_get classes i ≡ Some c → slice_get classes j ≡ Some d → c.name ≡ d.name → i ≡ j
  one_place i j c d e f n = by (cases_lt i j) (cases_lt j i)
    where
      by : (i < j) ⊎ (j ≤ i) → (j < i) ⊎ (i ≤ j) → i ≡ j
      by (inl h) _ = absurd (one_each j (slice_get_within classes j d f) d f (i, j, h, (c, e, n), (d, f, refl)))
      by (inr h) (inl k) = absurd (one_each i (slice_get_within classes i c e) c e (j, i, k, (d, f, sym n), (c, e, refl)))
      by (inr h) (inr k) = omega arith

  -- the place and the class of a name that stands in the list
  pub place_of : (j : ℕ) (d : ClassFact) → slice_get classes j ≡ Some d → position (λ c. bytes_eq d.name c.name) classes ≡ Some j
  place_of j d e = by (position (λ c. bytes_eq d.name c.name) classes) refl
    where
      by : (o : Option ℕ) → position (λ c. bytes_eq d.name c.name) classes ≡ o → position (λ c. bytes_eq d.name c.name) classes ≡ Some j
      by None f = absurd (found_some (λ (c : ClassFact). bytes_eq d.name c.name) classes j d e ((bytes_eq-Decides d.name d.name).1 refl) (no_place (λ (c : ClassFact). bytes_eq d.name c.name) classes f))
      by (Some k) f = f ∙ ap (λ n. Some n) (go (find (λ c. bytes_eq d.name c.name) classes) refl)
        where
          at : find (λ c. bytes_eq d.name c.name) classes ≡ slice_get classes k
          at = at_place (λ (c : ClassFact). bytes_eq d.name c.name) classes k f

          go : (o : Option ClassFact) → find (λ c. bytes_eq d.name c.name) classes ≡ o → k ≡ j
          go None g = absurd (found_some (λ (c : ClassFact). bytes_eq d.name c.name) classes j d e ((bytes_eq-Decides d.name d.name).1 refl) g)
          go (Some c) g = one_place k j c d (sym at ∙ g) e (sym ((bytes_eq-Decides d.name c.name).0 (find_passes (λ (c : ClassFact). bytes_eq d.name c.name) classes c g)))

  pub own_class : (j : ℕ) (d : ClassFact) → slice_get classes j ≡ Some d → class_of classes d.name ≡ Some d
  own_class j d e = at_place (λ (c : ClassFact). bytes_eq d.name c.name) classes j (place_of j d e) ∙ e

  pub own_super : (j : ℕ) (d : ClassFact) → slice_get classes j ≡ Some d → superclass_of classes d.name ≡ d.superclass
  own_super j d e = ap (λ o. option_and_then (λ (e : Entry). e.superclass) (option_map entry_of o)) (own_class j d e)

  -- the class at the place that is found
  pub at_found : (s : List ℕ) (j : ℕ) → position (λ c. bytes_eq s c.name) classes ≡ Some j → (d : ClassFact) × (slice_get classes j ≡ Some d) × (d.name ≡ s)
  at_found s j e = by (slice_get classes j) refl
    where
      at : find (λ c. bytes_eq s c.name) classes ≡ slice_get classes j
      at = at_place (λ (c : ClassFact). bytes_eq s c.name) classes j e

      by : (o : Option ClassFact) → slice_get classes j ≡ o → (d : ClassFact) × (slice_get classes j ≡ Some d) × (d.name ≡ s)
      by None f = absurd (slice_none classes j (position_within (λ (c : ClassFact). bytes_eq s c.name) classes j e) f)
      by (Some d) f = (d, f, sym ((bytes_eq-Decides s d.name).0 (find_passes (λ (c : ClassFact). bytes_eq s c.name) classes d (at ∙ f))))

  up_one : (o : Option (List ℕ)) → option_and_then (climb world 0) o ≡ o
  up_one None = refl
  up_one (Some s) = refl

  above_some : (n : ℕ) (a b : List ℕ) → 0 < n → climb world n a ≡ Some b → (s : List ℕ) × (superclass_of classes a ≡ Some s)
  above_some zero a b h e = absurd (omega arith)
  above_some (suc n) a b h e = let r = up_from (superclass_of classes a) (climb world n) b e in (r.0, r.1)

  -- the table of direct superclasses
  pub first_table : (places : List (Option ℕ)) → places ≡ map (superclass_place classes) classes → AreAncestors classes 1 places
  first_table places e = record {
    sound = λ i j f.
        let r = mapped (superclass_place classes) (slice_get classes i) (Some j) (sym (slice_get-map (superclass_place classes) classes i) ∙ ap (λ ps. slice_get ps i) (sym e) ∙ f) in
        let t = taken (λ s. position (λ (d : ClassFact). bytes_eq s d.name) classes) r.0.superclass j r.2 in
        let d = at_found t.0 j t.2 in
        (r.0, d.0, r.1, d.1, up_one (superclass_of classes r.0.name) ∙ own_super i r.0 r.1 ∙ t.1 ∙ ap (λ n. Some n) (sym d.2));
    complete = λ i j c d f g h.
        let s = sym (own_super i c f) ∙ sym (up_one (superclass_of classes c.name)) ∙ h in
        ap (λ ps. slice_get ps i) e ∙ slice_get-map (superclass_place classes) classes i ∙ ap (option_map (superclass_place classes)) f
        ∙ ap (λ (o : Option (List ℕ)). Some (option_and_then (λ n. position (λ (d : ClassFact). bytes_eq n d.name) classes) o)) s ∙ ap (λ o. Some o) (place_of j d g);
  }

  -- the table for twice as many steps
  pub next_table : (n : ℕ) (places twice : List (Option ℕ)) → 0 < n → twice ≡ map (place_after places) places → AreAncestors classes n places → AreAncestors classes (n + n) twice
  next_table n places twice h e t = record {
    sound = λ i k f.
        let r = mapped (place_after places) (slice_get places i) (Some k) (sym (slice_get-map (place_after places) places i) ∙ ap (λ ps. slice_get ps i) (sym e) ∙ f) in
        let j = taken (λ j. option_and_then (λ next. next) (slice_get places j)) r.0 k r.2 in
        let o = taken (λ (next : Option ℕ). next) (slice_get places j.0) k j.2 in
        let low = t.sound i j.0 (r.1 ∙ ap (λ o. Some o) j.1) in
        let high = t.sound j.0 k (o.1 ∙ ap (λ o. Some o) o.2) in
        let same = same_some low.3 high.2 in
        (low.0, high.1, low.2, high.3, climb_on world n n low.0.name low.1.name low.4 ∙ ap (λ (d : ClassFact). climb world n d.name) same ∙ high.4);
    complete = λ i k c d f g up.
        let m = taken (climb world n) (climb world n c.name) d.name (sym (climb_add world n n c.name) ∙ up) in
        let s = above_some n m.0 d.name h m.2 in
        let at = present classes m.0 s.0 s.1 in
        let low = t.complete i at.0 c at.1 f at.2 (m.1 ∙ ap (λ n. Some n) (sym at.3)) in
        let high = t.complete at.0 k at.1 d at.2 g (ap (climb world n) at.3 ∙ m.2) in
        ap (λ ps. slice_get ps i) e ∙ slice_get-map (place_after places) places i ∙ ap (option_map (place_after places)) low ∙ ap (λ o. Some (option_and_then (λ next. next) o)) high;
  }

  -- on a cycle is what a table for more steps than classes leads to
  module _ (n : ℕ) (places : List (Option ℕ)) (many : length classes < n) (t : AreAncestors classes n places) where
    pub on_cycle_led : (j : ℕ) (c : ClassFact) → slice_get classes j ≡ Some c → IsOnCycle classes c → (i : ℕ) × (slice_get places i ≡ Some (Some j))
    on_cycle_led j c e p =
        let r = steps_of world p.0 c.name p.2 in
        let around : climb world (suc r.0) c.name ≡ Some c.name = ap (option_and_then (climb world r.0)) (own_super j c e ∙ p.1) ∙ r.1 in
        let x = back world c.name r.0 around n in
        let s = above_some n x.0 c.name (omega arith) x.1 in
        let at = present classes x.0 s.0 s.1 in
        (at.0, t.complete at.0 j at.1 c at.2 e (ap (climb world n) at.3 ∙ x.1))

    pub led_on_cycle : (i j : ℕ) → slice_get places i ≡ Some (Some j) → (c : ClassFact) × (slice_get classes j ≡ Some c) × IsOnCycle classes c
    led_on_cycle i j e =
        let r = t.sound i j e in
        let m = around classes n r.0.name r.1.name many r.4 in
        let s = up_from (superclass_of classes r.1.name) (climb world m.0) r.1.name m.1 in
        (r.1, r.3, (s.0, sym (own_super j r.1 r.3) ∙ s.1, chain_of world m.0 s.0 r.1.name s.2))

    pub none_on_cycle : HasNone places → NoClass (IsOnCycle classes) classes
    none_on_cycle none j h c e p = let r = on_cycle_led j c e p in none r.0 j r.1

    pub first_found : (j : ℕ) → IsLowest places j → (c : ClassFact) × (slice_get classes j ≡ Some c) × IsFirst (IsOnCycle classes) classes c.name
    first_found j low =
        let r = led_on_cycle low.0.0 j low.0.1 in
        (r.0, r.1, (j, r.0, r.1, refl, r.2, λ k h c e p. let q = on_cycle_led k c e p in let l = low.1 q.0 k q.1 in absurd (omega arith)))

pub halved : (n left steps : ℕ) → n < (left + 1) * steps → n < (left / 2 + 1) * (steps + steps)
halved n left steps h =
    let d = div-add-mod left 2 in
    let m : left + 1 ≤ 2 * (left / 2 + 1) = omega arith in
    let r = mul-le-mul_right steps m in
    let e : 2 * (left / 2 + 1) * steps ≡ (left / 2 + 1) * (steps + steps) = omega arith in
    omega arith

pub none_left : (n left steps : ℕ) → left ≤ 0 → n < (left + 1) * steps → n < steps
none_left n zero steps h k = omega arith
none_left n (suc left) steps h k = absurd (omega arith)

pub table_of : (f : ClassFact → Option ℕ) (xs : List Summary) → map (λ c. f (fact_of c)) xs ≡ map f (facts_of xs)
table_of f [] = refl
table_of f (x ∷ xs) = ap (λ os. f (fact_of x) ∷ os) (table_of f xs)

-- the class at the lowest place of the last table
module _ (xs : List Summary) (one_each : NoClass (IsTwice (facts_of xs)) (facts_of xs)) (left : ℕ) (places : List (Option ℕ)) (h : left ≤ 0) (d : IsDoubled (facts_of xs) left places) where
  pub none_first : HasNone places → NoClass (IsOnCycle (facts_of xs)) (facts_of xs)
  none_first = none_on_cycle (facts_of xs) one_each d.steps places (none_left (length (facts_of xs)) left d.steps h d.many) d.ancestors

  found : (j : ℕ) → IsLowest places j → (c : ClassFact) × (slice_get (facts_of xs) j ≡ Some c) × IsFirst (IsOnCycle (facts_of xs)) (facts_of xs) c.name
  found = first_found (facts_of xs) one_each d.steps places (none_left (length (facts_of xs)) left d.steps h d.many) d.ancestors

  pub place_within : (j : ℕ) → IsLowest places j → j < length xs
  place_within j low =
      let r = found j low in
      let e = length-map xs fact_of in
      let k = slice_get_within (facts_of xs) j r.0 r.1 in
      omega arith

  pub first_name : (j : ℕ) (name : List ℕ) → IsLowest places j → IsNamedAt (facts_of xs) j name → IsFirst (IsOnCycle (facts_of xs)) (facts_of xs) name
  first_name j name low n =
      let r = found j low in
      subst (IsFirst (IsOnCycle (facts_of xs)) (facts_of xs)) (ap (λ (c : ClassFact). c.name) (same_some r.1 n.1) ∙ n.2) r.2
