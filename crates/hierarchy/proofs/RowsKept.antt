-- Rows of ancestors as they are kept, and how they answer about subclasses.
use Rattle.std.proofs.Common.{◌≡◌, ◌≢◌, ◌⊎◌, ℕ, zero, suc, ◌+◌, ◌-◌, ◌*◌, ◌/◌, ◌%◌, ◌^◌, ◌<◌, ◌≤◌, List, [], length, get_or, slice_get, Bool, true, false, position, Option, Some, None, MatchOption, refl, ap, sym, subst, ◌∙◌, inl, inr, arith, pow-add, count_ones}
use Rattle.std.specs.Prelude.{slice_index}
use Rattle.std.specs.Str.{bytes_eq}
use Rattle.std.specs.Int.Count.{ones_step}
use Rattle.std.proofs.lemmas.Nat.{ones_le_self}
use Rattle.std.proofs.lemmas.Bool.{cases_lt, false≢true}
use Rattle.std.proofs.lemmas.Slice.Eq.{bytes_eq-Decides}
use Rattle.std.proofs.lemmas.Option.{slice_get_within, slice_get-get_or, slice_get_cases}
use Rattle.std.proofs.lemmas.List.{get_or-map, get_or_read}
use Rattle.std.proofs.Math.Nat.{mul-le-mul_right}
use Rattle.names.specs.StandardNames.{object_name}
use Rattle.hierarchy.specs.declared.skips.Skip.{Skip}
use Rattle.hierarchy.specs.World.{World, climb}
use Rattle.hierarchy.specs.Class.{ClassFact, class_of, world_of, superclass_of, IsPresent, IsAbsent, IsSubclass}
use Rattle.hierarchy.specs.Answer.{SubclassAnswer, yes_if}
use Rattle.hierarchy.specs.Rules.{IsNamedAt, IsHierarchy}
use Rattle.hierarchy.specs.Ancestors.{IsAncestor}
use Rattle.hierarchy.specs.Rows.{IsDepth, AncestorAnswer, IsLookedUp, AreRows}
use Rattle.hierarchy.specs.private.Skips.{AreSkips, skip_at, row_of, AreTables, FitTogether, HaveRows}
use Rattle.hierarchy.proofs.Names.{found_class, found_some, same_some, some_same, none_some}
use Rattle.hierarchy.proofs.Worlds.{up_from, steps_of, chain_of}
use Rattle.hierarchy.proofs.Ancestors.{climb_on, present, at_found, one_place}
use Rattle.hierarchy.proofs.Depths.{IsThere, past_depth, one_depth, within_depth, upward, below}
use Rattle.hierarchy.proofs.RowLists.{power_below, not_reached}

-- the way up: so many steps are walked, and the steps left are counted from where it has come
pub record IsOnTheWay (classes : List ClassFact) (from steps at left k looks : ℕ) : Type 0 where
  pub walked : ℕ
  pub sum : left * 2 ^ k + walked ≡ steps
  pub there : IsAncestor classes walked from at
  pub count : looks + count_ones left ≡ count_ones steps
  pub few : looks ≤ k

module _ (classes : List ClassFact) (h : IsHierarchy classes) where
  abbrev world : World
  world = world_of classes

  module _ (tables : List (List Skip)) (tops : List Skip) (t : AreTables classes tables tops) where
    pub fit_together : FitTogether tables tops
    fit_together =
        let each = t.top_each in
        let few = h.few in
        record {
          few = omega (arith, each, few);
          each = λ k skips e. (t.table k skips e).each ∙ sym each;
          enough = λ i lt. t.enough i (omega (arith, each, lt));
        }

    module _ (depths starts entries : List ℕ) (r : HaveRows tables tops (length tops) depths starts entries) where
      in_tops : (i : ℕ) → i < length classes → i < length tops
      in_tops i lt = let each = t.top_each in omega (arith, each, lt)

      depth_is : (i : ℕ) → i < length classes → slice_index depths i ≡ (skip_at tops i).steps
      depth_is i lt = r.depth i (in_tops i lt)

      depth_of : (i : ℕ) (c : ClassFact) → slice_get classes i ≡ Some c → IsDepth classes c.name (skip_at tops i).steps
      depth_of i c e =
          let a = t.top i (slice_get_within classes i c e) in
          let p = a.0 in
          let named = a.1 in
          ap (λ (d : ClassFact). climb world (skip_at tops i).steps d.name) (same_some e p.2) ∙ p.4 ∙ ap (λ (d : ClassFact). Some d.name) (same_some p.3 named.1) ∙ ap (λ n. Some n) named.2

      entry_is : (i k : ℕ) → i < length classes → 2 ^ k ≤ (skip_at tops i).steps → IsAncestor classes (2 ^ k) i (slice_index (row_of tables i) k)
      entry_is i k lt p = by (cases_lt (skip_at (get_or tables k []) i).steps (2 ^ k))
        where
          short : k < length tables
          short = power_below k (length tables) (skip_at tops i).steps p (t.enough i lt)

          skips : AreSkips classes (2 ^ k) (get_or tables k [])
          skips = t.table k (get_or tables k []) (slice_get-get_or tables k [] short)

          inside : i < length (get_or tables k [])
          inside = let each = skips.each in omega (arith, each, lt)

          there : slice_get (get_or tables k []) i ≡ Some (skip_at (get_or tables k []) i)
          there = slice_get-get_or (get_or tables k []) i (record { place = 0; steps = 0 }) inside

          to : IsAncestor classes (skip_at (get_or tables k []) i).steps i (skip_at (get_or tables k []) i).place
          to = (skips.skip i (skip_at (get_or tables k []) i) there).to

          entry : slice_index (row_of tables i) k ≡ (skip_at (get_or tables k []) i).place
          entry = get_or-map (λ (skips : List Skip). (skip_at skips i).place) tables k [] 0 short

          whole : (skip_at (get_or tables k []) i).steps ≡ 2 ^ k → IsAncestor classes (2 ^ k) i (slice_index (row_of tables i) k)
          whole e = subst (λ n. IsAncestor classes n i (slice_index (row_of tables i) k)) e (subst (λ j. IsAncestor classes (skip_at (get_or tables k []) i).steps i j) (sym entry) to)

          by : ((skip_at (get_or tables k []) i).steps < 2 ^ k) ⊎ (2 ^ k ≤ (skip_at (get_or tables k []) i).steps) → IsAncestor classes (2 ^ k) i (slice_index (row_of tables i) k)
          by (inl less) =
              let named = (skips.skip i (skip_at (get_or tables k []) i) there).whole less in
              let deep = to.4 ∙ ap (λ (d : ClassFact). Some d.name) (same_some to.3 named.1) ∙ ap (λ n. Some n) named.2 in
              let e = one_depth classes h to.0.name (skip_at (get_or tables k []) i).steps (skip_at tops i).steps deep (depth_of i to.0 to.2) in
              absurd (omega (arith, e, less, p))
          by (inr more) = let most = (skips.skip i (skip_at (get_or tables k []) i) there).most in whole (omega (arith, more, most))

      pub are_rows : AreRows classes depths starts entries
      are_rows = record {
        depth_each = r.depth_each ∙ t.top_each;
        start_each = r.start_each ∙ t.top_each;
        depth = λ i c e. subst (IsDepth classes c.name) (sym (depth_is i (slice_get_within classes i c e))) (depth_of i c e);
        within = λ i k lt p. r.within i k (in_tops i lt) (subst (λ d. 2 ^ k ≤ d) (depth_is i lt) p);
        row = λ i k lt p.
            let q = subst (λ d. 2 ^ k ≤ d) (depth_is i lt) p in
            subst (IsAncestor classes (2 ^ k) i) (sym (r.row i k (in_tops i lt) q)) (entry_is i k lt q);
      }

  pub class_at : (i : ℕ) → i < length classes → (c : ClassFact) × (slice_get classes i ≡ Some c)
  class_at i lt = by (slice_get_cases classes i).1
    where
      by : ((x : ClassFact) × (i < length classes) × (slice_get classes i ≡ Some x) × (get_or classes i x ≡ x)) ⊎ ((length classes ≤ i) × (slice_get classes i ≡ None)) → (c : ClassFact) × (slice_get classes i ≡ Some c)
      by (inl r) = (r.0, r.2)
      by (inr r) = absurd (omega (arith, r.0, lt))

  pub none_so_far : (depths starts entries : List ℕ) → AreRows classes depths starts entries → (i k : ℕ) (b : Bool) → i < length classes → (2 ^ k ≤ slice_index depths i → b ≡ true) → b ≡ false → AncestorAnswer classes (2 ^ k) i None
  none_so_far depths starts entries r i k b lt f e =
      let c = class_at i lt in
      (c.0, c.1, past_depth classes h c.0.name (slice_index depths i) (2 ^ k) (r.depth i c.0 c.1) (not_reached k (slice_index depths i) b f e))

  pub begun : (from steps : ℕ) (c : ClassFact) → slice_get classes from ≡ Some c → IsOnTheWay classes from steps from steps 0 0
  begun from steps c e = record { walked = 0; sum = omega arith; there = (c, c, e, e, refl); count = omega arith; few = omega arith }

  module _ (from steps at left k looks : ℕ) (w : IsOnTheWay classes from steps at left k looks) where
    halves : (b : ℕ) → left % 2 ≡ b → left * 2 ^ k ≡ left / 2 * 2 ^ (k + 1) + b * 2 ^ k
    halves b e =
        let p = pow-add 2 k 1 in
        let split : left ≡ 2 * (left / 2) + b = omega (arith, e) in
        let q = ap (λ n. n * 2 ^ k) split in
        let r = ap (λ n. left / 2 * n) p in
        omega (arith, q, r)

    pub passed : left % 2 ≡ 0 → IsOnTheWay classes from steps at (left / 2) (k + 1) looks
    passed e =
        let s = w.sum in
        let f = w.few in
        let c = w.count in
        let o = ones_step left in
        let m = halves 0 e in
        record { walked = w.walked; sum = omega (arith, s, m); there = w.there; count = omega (arith, c, o, e); few = omega (arith, f) }

    pub walked_on : (next : ℕ) → left % 2 ≡ 1 → IsAncestor classes (2 ^ k) at next → IsOnTheWay classes from steps next (left / 2) (k + 1) (looks + 1)
    walked_on next e a =
        let s = w.sum in
        let f = w.few in
        let c = w.count in
        let o = ones_step left in
        let m = halves 1 e in
        let t = w.there in
        record {
          walked = w.walked + 2 ^ k;
          sum = omega (arith, s, m);
          there = (t.0, a.1, t.2, a.3, climb_on world w.walked (2 ^ k) t.0.name t.1.name t.4 ∙ ap (λ (d : ClassFact). climb world (2 ^ k) d.name) (same_some t.3 a.2) ∙ a.4);
          count = omega (arith, c, o, e);
          few = omega (arith, f);
        }

    room : 0 < left → 2 ^ k + w.walked ≤ steps
    room some =
        let s = w.sum in
        let m : 1 * 2 ^ k ≤ left * 2 ^ k = mul-le-mul_right (2 ^ k) some in
        omega (arith, s, m)

    pub low : 0 < left → steps < 2 ^ 16 → k < 16
    low some small = let r = room some in power_below k 16 steps (omega (arith, r)) small

    pub not_over : 0 < left → (c : ClassFact) (d : ℕ) → slice_get classes from ≡ Some c → IsDepth classes c.name d → steps ≤ d → AncestorAnswer classes (2 ^ k) at None → ⊥
    not_over some c d e deep le none =
        let t = w.there in
        let r = room some in
        let up = upward classes h c.name d (w.walked + 2 ^ k) deep (omega (arith, r, le)) in
        let on = climb_on world w.walked (2 ^ k) t.0.name t.1.name t.4 in
        let here = ap (λ (d : ClassFact). climb world (2 ^ k) d.name) (same_some none.1 t.3) in
        none_some (sym none.2 ∙ here ∙ sym on ∙ ap (λ (d : ClassFact). climb world (w.walked + 2 ^ k) d.name) (same_some t.2 e) ∙ up.1)

    pub arrived : left ≤ 0 → IsAncestor classes steps from at × (looks ≡ count_ones steps)
    arrived z =
        let e : left ≡ 0 = omega (arith, z) in
        let s = ap (λ n. n * 2 ^ k + w.walked) (sym e) ∙ w.sum in
        let c = ap (λ n. looks + count_ones n) (sym e) ∙ w.count in
        let all : w.walked ≡ steps = omega (arith, s) in
        let none = ones_le_self 0 in
        (subst (λ n. IsAncestor classes n from at) all w.there, omega (arith, c, none))

  object_there : (o : Option ClassFact) → class_of classes object_name ≡ o → MatchOption o ⊥ (λ c. (c.interface ≡ false) × (c.superclass ≡ None)) → IsThere classes object_name
  object_there None e m = absurd m
  object_there (Some c) e m = let at = found_class classes object_name c e in (at.0, c, at.2, at.3)

  -- what has a depth is in the list
  depth_there : (a : List ℕ) (m : ℕ) → IsDepth classes a m → IsThere classes a
  depth_there a zero e = subst (IsThere classes) (sym (some_same e)) (object_there (class_of classes object_name) refl h.object)
  depth_there a (suc m) e = let s = up_from (superclass_of classes a) (climb world m) object_name e in present classes a s.0 s.1

  there_found : (a : List ℕ) → IsThere classes a → IsAbsent classes a → ⊥
  there_found a t none = found_some (λ (d : ClassFact). bytes_eq a d.name) classes t.0 t.1 t.2 ((bytes_eq-Decides a t.1.name).1 (sym t.3)) none

  is_present : (a : List ℕ) → IsThere classes a → (o : Option ClassFact) → class_of classes a ≡ o → IsPresent classes a
  is_present a t None e = absurd (there_found a t e)
  is_present a t (Some c) e = rw e refl

  pub present_at : (a : List ℕ) (i : ℕ) (c : ClassFact) → slice_get classes i ≡ Some c → c.name ≡ a → IsPresent classes a
  present_at a i c e n = is_present a (i, c, e, n) (class_of classes a) refl

  pub looked_absent : (a b : List ℕ) → IsAbsent classes a ⊎ IsAbsent classes b → IsLookedUp classes a b 0
  looked_absent a b p = record {
    deeper = λ m n e f lt. absurd (by m n e f p);
    no_deeper = λ m n e f le. refl;
    absent = λ q. refl;
    few = omega arith;
  }
    where
      by : (m n : ℕ) → IsDepth classes a m → IsDepth classes b n → IsAbsent classes a ⊎ IsAbsent classes b → ⊥
      by m n e f (inl q) = there_found a (depth_there a m e) q
      by m n e f (inr q) = there_found b (depth_there b n f) q

  pub looked_level : (a b : List ℕ) → ((m n : ℕ) → IsDepth classes a m → IsDepth classes b n → m ≤ n) → IsLookedUp classes a b 0
  looked_level a b p = record {
    deeper = λ m n e f lt. let le = p m n e f in absurd (omega (arith, le, lt));
    no_deeper = λ m n e f le. refl;
    absent = λ q. refl;
    few = omega arith;
  }

  pub looked_same : (a : List ℕ) → IsLookedUp classes a a 0
  looked_same a = looked_level a a (λ m n e f. let s = one_depth classes h a m n e f in omega (arith, s))

  module _ (a b : List ℕ) (m n : ℕ) (e : IsDepth classes a m) (f : IsDepth classes b n) where
    pub looked_high : m ≤ n → IsLookedUp classes a b 0
    looked_high le = looked_level a b (λ i j p q. let s = one_depth classes h a m i e p in let t = one_depth classes h b n j f q in omega (arith, s, t, le))

    pub looked_deep : (looks : ℕ) → n < m → looks ≡ count_ones (m - n) → looks ≤ 16 → IsLookedUp classes a b looks
    looked_deep looks lt is few = record {
      deeper = λ i j p q l. is ∙ ap (λ i. count_ones (i - n)) (one_depth classes h a m i e p) ∙ ap (λ j. count_ones (i - j)) (one_depth classes h b n j f q);
      no_deeper = λ i j p q le. let s = one_depth classes h a m i e p in let t = one_depth classes h b n j f q in absurd (omega (arith, s, t, le, lt));
      absent = by;
      few = few;
    }
      where
        by : IsAbsent classes a ⊎ IsAbsent classes b → looks ≡ 0
        by (inl q) = absurd (there_found a (depth_there a m e) q)
        by (inr q) = absurd (there_found b (depth_there b n f) q)

    pub not_below_higher : a ≢ b → m ≤ n → IsSubclass classes a b → ⊥
    not_below_higher ne le p =
        let r = below classes h a b m n e f p in
        let level : m - n ≡ 0 = omega (arith, le) in
        ne (some_same (ap (λ k. climb world k a) (sym level) ∙ r.1))

    -- what stands at the depth of b above a is b, or b is not above a
    pub met : (from above to : ℕ) (t : Bool) → IsAncestor classes (m - n) from above → IsNamedAt classes from a → IsNamedAt classes to b → (t ≡ true → above ≡ to) → (above ≡ to → t ≡ true) → SubclassAnswer classes a b (yes_if t)
    met from above to true up x y is k =
        let same = ap (slice_get classes) (sym (is refl)) ∙ up.3 in
        let low = ap (λ (c : ClassFact). c.name) (same_some x.1 up.2) in
        let high = ap (λ (c : ClassFact). c.name) (same_some same y.1) in
        chain_of world (m - n) a b (ap (climb world (m - n)) (sym x.2 ∙ low) ∙ up.4 ∙ ap (λ s. Some s) (high ∙ y.2))
    met from above to false up x y is k = (
      present_at a from x.0 x.1 x.2,
      λ p.
          let r = below classes h a b m n e f p in
          let low = ap (λ (c : ClassFact). c.name) (same_some x.1 up.2) in
          let named = some_same (sym up.4 ∙ ap (climb world (m - n)) (sym low ∙ x.2) ∙ r.1) in
          false≢true (k (one_place classes h.one_each above to up.1 y.0 up.3 y.1 (named ∙ sym y.2))),
    )

  pub not_below_absent : (a b : List ℕ) (m : ℕ) → IsDepth classes a m → IsAbsent classes b → IsSubclass classes a b → ⊥
  not_below_absent a b m e none p =
      let r = steps_of world a b p in
      let up = upward classes h a m r.0 e (within_depth classes h a b m r.0 e r.1) in
      let deep = ap (climb world (m - r.0)) (same_some r.1 up.1) ∙ up.2 in
      there_found b (depth_there b (m - r.0) deep) none

  pub named_at : (a : List ℕ) (i : ℕ) → position (λ c. bytes_eq a c.name) classes ≡ Some i → IsNamedAt classes i a
  named_at a i e = let d = at_found classes h.one_each a i e in (d.0, d.1, d.2)

  -- the depth that is kept is that of the class
  pub kept_depth : (depths starts entries : List ℕ) → AreRows classes depths starts entries → (a : List ℕ) (i : ℕ) (d : ℕ) → IsNamedAt classes i a → d ≡ get_or depths i d → IsDepth classes a d
  kept_depth depths starts entries r a i d x e =
      let lt = slice_get_within classes i x.0 x.1 in
      let each = r.depth_each in
      let is = get_or_read depths i d (omega (arith, lt, each)) e 0 in
      subst (λ n. IsDepth classes n d) x.2 (subst (IsDepth classes x.0.name) (sym is) (r.depth i x.0 x.1))
