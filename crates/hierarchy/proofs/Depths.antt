-- How deep a class stands in a hierarchy.
use Rattle.std.proofs.Common.{◌≡◌, ◌≢◌, ◌⊎◌, ◌↔◌, ℕ, zero, suc, ◌+◌, ◌-◌, ◌<◌, ◌≤◌, List, length, slice_get, Option, Some, None, option_map, Bool, true, false, MatchOption, refl, ap, sym, ◌∙◌, inl, inr, arith, IsSome}
use Rattle.std.specs.Option.{option_and_then}
use Rattle.std.specs.Str.{bytes_eq}
use Rattle.std.proofs.lemmas.Bool.{cases_lt, cases_order, false≢true}
use Rattle.std.proofs.lemmas.Option.{slice_get_within}
use Rattle.std.proofs.lemmas.Slice.Eq.{bytes_eq-Decides}
use Rattle.names.specs.StandardNames.{object_name}
use Rattle.hierarchy.specs.World.{Entry, World, climb}
use Rattle.hierarchy.specs.Class.{ClassFact, class_of, entry_of, world_of, superclass_of, IsPresent, IsSubclass}
use Rattle.hierarchy.specs.Rules.{LacksSuper, IsHierarchy}
use Rattle.hierarchy.specs.Rows.{IsDepth, HasOneDepth, IsBelowByDepth}
use Rattle.hierarchy.proofs.Names.{found_class, none_some}
use Rattle.hierarchy.proofs.Worlds.{up_from, steps_of, chain_of}
use Rattle.hierarchy.proofs.Ancestors.{climb_add, climb_on, around, taken, own_super}

-- a class of the list has the name
abbrev pub IsThere : List ClassFact → List ℕ → Type 0
IsThere classes a = (j : ℕ) × (d : ClassFact) × (slice_get classes j ≡ Some d) × (d.name ≡ a)

module _ (classes : List ClassFact) (h : IsHierarchy classes) where
  abbrev world : World
  world = world_of classes

  super_of : (o : Option ClassFact) → MatchOption o ⊥ (λ c. (c.interface ≡ false) × (c.superclass ≡ None)) → option_and_then (λ (e : Entry). e.superclass) (option_map entry_of o) ≡ None
  super_of None m = absurd m
  super_of (Some c) m = m.1

  -- Object has no superclass
  object_top : superclass_of classes object_name ≡ None
  object_top = super_of (class_of classes object_name) h.object

  over_object : (n : ℕ) → 0 < n → climb world n object_name ≡ None
  over_object zero lt = absurd (omega arith)
  over_object (suc n) lt = ap (option_and_then (climb world n)) object_top

  -- above Object stands nothing
  pub past_depth : (a : List ℕ) (d n : ℕ) → IsDepth classes a d → d < n → climb world n a ≡ None
  past_depth a d n e lt =
      let f : d + (n - d) ≡ n = omega arith in
      sym (ap (λ k. climb world k a) f) ∙ climb_on world d (n - d) a object_name e ∙ over_object (n - d) (omega arith)

  none_is_some : {o : Option (List ℕ)} {x : List ℕ} → o ≡ None → o ≡ Some x → ⊥
  none_is_some e f = none_some (sym e ∙ f)

  pub one_depth : (a : List ℕ) (m n : ℕ) → IsDepth classes a m → IsDepth classes a n → m ≡ n
  one_depth a m n e f = by (cases_order m n)
    where
      by : (m ≡ n) ⊎ ((m < n) ⊎ (n < m)) → m ≡ n
      by (inl s) = s
      by (inr (inl lt)) = absurd (none_is_some (past_depth a m n e lt) f)
      by (inr (inr lt)) = absurd (none_is_some (past_depth a n m f lt) e)

  -- no more steps up than the depth
  pub within_depth : (a b : List ℕ) (m r : ℕ) → IsDepth classes a m → climb world r a ≡ Some b → r ≤ m
  within_depth a b m r e f = by (cases_lt m r)
    where
      by : (m < r) ⊎ (r ≤ m) → r ≤ m
      by (inl lt) = absurd (none_is_some (past_depth a m r e lt) f)
      by (inr le) = le

  -- as many steps up as the depth says
  pub upward : (a : List ℕ) (m r : ℕ) → IsDepth classes a m → r ≤ m → (x : List ℕ) × (climb world r a ≡ Some x) × IsDepth classes x (m - r)
  upward a m r e le =
      let f : r + (m - r) ≡ m = omega arith in
      let t = taken (climb world (m - r)) (climb world r a) object_name (sym (climb_add world r (m - r) a) ∙ ap (λ k. climb world k a) f ∙ e) in
      (t.0, t.1, t.2)

  pub below : (a b : List ℕ) (m n : ℕ) → IsDepth classes a m → IsDepth classes b n → IsSubclass classes a b → (n ≤ m) × (climb world (m - n) a ≡ Some b)
  below a b m n e f p =
      let r = steps_of world a b p in
      let s : m ≡ r.0 + n = one_depth a m (r.0 + n) e (climb_on world r.0 n a b r.1 ∙ f) in
      let g : r.0 ≡ m - n = omega (arith, s) in
      (omega (arith, s), ap (λ k. climb world k a) (sym g) ∙ r.1)

  pub by_depth : (a b : List ℕ) (m n : ℕ) → IsDepth classes a m → IsDepth classes b n → IsSubclass classes a b ↔ ((n ≤ m) × (climb world (m - n) a ≡ Some b))
  by_depth a b m n e f = (below a b m n e f, λ p. chain_of world (m - n) a b p.1)

  -- the superclass of a class but Object is in the list
  pub super_there : (j : ℕ) (d : ClassFact) → slice_get classes j ≡ Some d → d.name ≢ object_name → (s : List ℕ) × (d.superclass ≡ Some s) × IsThere classes s
  super_there j d e n = by d.superclass refl
    where
      lacks : LacksSuper classes d → ⊥
      lacks p = h.rooted j (slice_get_within classes j d e) d e p

      by : (o : Option (List ℕ)) → d.superclass ≡ o → (s : List ℕ) × (d.superclass ≡ Some s) × IsThere classes s
      by None f = absurd (lacks (n, rw f tt))
      by (Some s) f = found (class_of classes s) refl
        where
          found : (o : Option ClassFact) → class_of classes s ≡ o → (s : List ℕ) × (d.superclass ≡ Some s) × IsThere classes s
          found None g = absurd (lacks (n, rw f g))
          found (Some c) g = let at = found_class classes s c g in (s, f, (at.0, c, at.2, at.3))

  -- no class has as many above it as there are
  pub no_longer : (n : ℕ) (a b : List ℕ) → climb world n a ≡ Some b → IsThere classes b → n ≤ length classes
  no_longer n a b e t = by (cases_lt (length classes) n)
    where
      by : (length classes < n) ⊎ (n ≤ length classes) → n ≤ length classes
      by (inl lt) =
          let named = t.3 in
          let m = around classes n a b lt e in
          let s = up_from (superclass_of classes b) (climb world m.0) b m.1 in
          let own = sym (own_super classes h.one_each t.0 t.1 t.2) ∙ ap (superclass_of classes) named ∙ s.1 in
          absurd (h.acyclic t.0 (slice_get_within classes t.0 t.1 t.2) t.1 t.2 (s.0, own, chain_of world m.0 s.0 t.1.name (s.2 ∙ ap (λ x. Some x) (sym named))))
      by (inr le) = le

  -- so many steps up, unless Object is met before
  climbs : (k : ℕ) (a : List ℕ) → IsThere classes a → ((n : ℕ) × IsDepth classes a n) ⊎ ((x : List ℕ) × (climb world k a ≡ Some x) × IsThere classes x)
  climbs zero a t = inr (a, refl, t)
  climbs (suc k) a t = by (climbs k a t)
    where
      by : ((n : ℕ) × IsDepth classes a n) ⊎ ((x : List ℕ) × (climb world k a ≡ Some x) × IsThere classes x) → ((n : ℕ) × IsDepth classes a n) ⊎ ((x : List ℕ) × (climb world (suc k) a ≡ Some x) × IsThere classes x)
      by (inl d) = inl d
      by (inr r) = at (bytes_eq r.0 object_name) refl
        where
          at : (b : Bool) → bytes_eq r.0 object_name ≡ b → ((n : ℕ) × IsDepth classes a n) ⊎ ((x : List ℕ) × (climb world (suc k) a ≡ Some x) × IsThere classes x)
          at true g = inl (k, r.1 ∙ ap (λ x. Some x) ((bytes_eq-Decides r.0 object_name).0 g))
          at false g =
              let t = r.2 in
              let s = super_there t.0 t.1 t.2 (λ q. false≢true (sym g ∙ (bytes_eq-Decides r.0 object_name).1 (sym t.3 ∙ q))) in
              let own = sym (ap (superclass_of classes) t.3) ∙ own_super classes h.one_each t.0 t.1 t.2 ∙ s.1 in
              let f : k + 1 ≡ suc k = omega arith in
              inr (s.0, ap (λ n. climb world n a) (sym f) ∙ climb_on world k 1 a r.0 r.1 ∙ ap (option_and_then (climb world 0)) own, s.2)

  pub some_depth : (a : List ℕ) → IsThere classes a → (n : ℕ) × IsDepth classes a n
  some_depth a t = by (climbs (suc (length classes)) a t)
    where
      by : ((n : ℕ) × IsDepth classes a n) ⊎ ((x : List ℕ) × (climb world (suc (length classes)) a ≡ Some x) × IsThere classes x) → (n : ℕ) × IsDepth classes a n
      by (inl d) = d
      by (inr r) = let le = no_longer (suc (length classes)) a r.0 r.1 r.2 in absurd (omega (arith, le))

there : (classes : List ClassFact) (a : List ℕ) (o : Option ClassFact) → class_of classes a ≡ o → IsSome o → IsThere classes a
there classes a None e p = absurd (false≢true p)
there classes a (Some c) e p = let at = found_class classes a c e in (at.0, c, at.2, at.3)

pub present_there : (classes : List ClassFact) (a : List ℕ) → IsPresent classes a → IsThere classes a
present_there classes a p = there classes a (class_of classes a) refl p

pub has_one : HasOneDepth
has_one classes a h p =
    let d = some_depth classes h a (present_there classes a p) in
    (d.0, d.1, λ m e. one_depth classes h a m d.0 e d.1)

pub is_below : IsBelowByDepth
is_below classes a b m n h e f = by_depth classes h a b m n e f
