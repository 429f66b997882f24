-- Skips of twice as many steps, until each leads to Object.
use Rattle.std.proofs.Common.{◌≡◌, ◌⊎◌, ℕ, zero, suc, ◌+◌, ◌*◌, ◌/◌, ◌^◌, ◌<◌, ◌≤◌, List, [], ◌∷◌, ◌++◌, map, length, slice_get, Bool, true, false, position, Some, None, refl, ap, sym, subst, ◌∙◌, inl, inr, arith, pow-add}
use Rattle.std.specs.Option.{option_and_then}
use Rattle.std.specs.Str.{bytes_eq}
use Rattle.std.proofs.lemmas.Bool.{cases_lt, false≢true}
use Rattle.std.proofs.lemmas.Slice.Eq.{bytes_eq-Decides}
use Rattle.std.proofs.lemmas.Option.{slice_get_within, slice_get-get_or, get_or_from_slice_get}
use Rattle.std.proofs.lemmas.List.{length-map, length-append, get_or-map}
use Rattle.names.specs.StandardNames.{object_name}
use Rattle.hierarchy.specs.declared.skips.Skip.{Skip}
use Rattle.hierarchy.specs.World.{World, climb}
use Rattle.hierarchy.specs.Class.{ClassFact, world_of}
use Rattle.hierarchy.specs.Rules.{IsNamedAt, IsHierarchy}
use Rattle.hierarchy.specs.Ancestors.{IsAncestor, superclass_place}
use Rattle.hierarchy.specs.private.Skips.{IsSkip, AreSkips, LeadOn, skip_at, onward, AreTables}
use Rattle.hierarchy.proofs.Names.{same_some, some_same, none_some, no_place, found_some}
use Rattle.hierarchy.proofs.Ancestors.{climb_on, taken, own_super, at_found, halved, none_left}
use Rattle.hierarchy.proofs.Depths.{past_depth, super_there, no_longer}

-- what stands in a list that one is put after
pub appended : {X : Type 0} (xs : List X) (x y : X) (i : ℕ) → slice_get (xs ++ x ∷ []) i ≡ Some y → (slice_get xs i ≡ Some y) ⊎ ((i ≡ length xs) × (y ≡ x))
appended [] x y zero e = inr (refl, sym (some_same e))
appended [] x y (suc i) e = absurd (none_some e)
appended (z ∷ zs) x y zero e = inl e
appended (z ∷ zs) x y (suc i) e = by (appended zs x y i e)
  where
    by : (slice_get zs i ≡ Some y) ⊎ ((i ≡ length zs) × (y ≡ x)) → (slice_get zs i ≡ Some y) ⊎ ((suc i ≡ suc (length zs)) × (y ≡ x))
    by (inl f) = inl f
    by (inr f) = inr (ap suc f.0, f.1)

pub all_and_one : {X : Type 0} (P : ℕ → X → Type 0) (xs ys : List X) (x : X) (n : ℕ) → ys ≡ xs ++ x ∷ [] → length xs ≡ n → P n x → ((i : ℕ) (y : X) → slice_get xs i ≡ Some y → P i y) → (i : ℕ) (y : X) → slice_get ys i ≡ Some y → P i y
all_and_one P xs ys x n e l p all i y f = by (appended xs x y i (ap (λ zs. slice_get zs i) (sym e) ∙ f))
  where
    by : (slice_get xs i ≡ Some y) ⊎ ((i ≡ length xs) × (y ≡ x)) → P i y
    by (inl g) = all i y g
    by (inr g) = subst (λ z. P i z) (sym g.1) (subst (λ k. P k x) (sym (g.0 ∙ l)) p)

-- the tables so far, and the skips of twice as many steps as those of the last
pub record AreDoubled (classes : List ClassFact) (left : ℕ) (tables : List (List Skip)) (tops : List Skip) : Type 0 where
  pub table : (k : ℕ) (skips : List Skip) → slice_get tables k ≡ Some skips → AreSkips classes (2 ^ k) skips
  pub last : AreSkips classes (2 ^ length tables) tops
  pub many : length classes < (left + 1) * 2 ^ length tables

module _ (classes : List ClassFact) (h : IsHierarchy classes) where
  abbrev world : World
  world = world_of classes

  -- no step from Object
  pub stay : (i : ℕ) (c : ClassFact) → slice_get classes i ≡ Some c → superclass_place classes c ≡ None → IsSkip classes 1 i (record { place = i; steps = 0 })
  stay i c e f = record {
    to = (c, c, e, e, refl);
    most = omega arith;
    whole = λ _. (c, e, by (bytes_eq c.name object_name) refl);
  }
    where
      by : (b : Bool) → bytes_eq c.name object_name ≡ b → c.name ≡ object_name
      by true g = (bytes_eq-Decides c.name object_name).0 g
      by false g =
          let s = super_there classes h i c e (λ q. false≢true (sym g ∙ (bytes_eq-Decides c.name object_name).1 q)) in
          let t = s.2 in
          absurd (found_some (λ (d : ClassFact). bytes_eq s.0 d.name) classes t.0 t.1 t.2 ((bytes_eq-Decides s.0 t.1.name).1 (sym t.3))
          (no_place (λ (d : ClassFact). bytes_eq s.0 d.name) classes (sym (ap (option_and_then (λ (n : List ℕ). position (λ (d : ClassFact). bytes_eq n d.name) classes)) s.1) ∙ f)))

  -- one step to the superclass
  pub step : (i j : ℕ) (c : ClassFact) → slice_get classes i ≡ Some c → superclass_place classes c ≡ Some j → IsSkip classes 1 i (record { place = j; steps = 1 })
  step i j c e f =
      let t = taken (λ s. position (λ (d : ClassFact). bytes_eq s d.name) classes) c.superclass j f in
      let d = at_found classes h.one_each t.0 j t.2 in
      record {
        to = (c, d.0, e, d.1, ap (option_and_then (climb world 0)) (own_super classes h.one_each i c e ∙ t.1) ∙ ap (λ n. Some n) (sym d.2));
        most = omega arith;
        whole = λ lt. absurd (omega (arith, lt));
      }

  module _ (n : ℕ) (skips : List Skip) (t : AreSkips classes n skips) where
    at : (i : ℕ) → i < length skips → IsSkip classes n i (skip_at skips i)
    at i lt = t.skip i (skip_at skips i) (slice_get-get_or skips i (record { place = 0; steps = 0 }) lt)

    inside : (i : ℕ) (c : ClassFact) → slice_get classes i ≡ Some c → i < length skips
    inside i c e = let k = slice_get_within classes i c e in let l = t.each in omega (arith, k, l)

    leads : (i : ℕ) → i < length skips → (skip_at skips i).place < length skips
    leads i lt = let a = (at i lt).to in inside (skip_at skips i).place a.1 a.3

    -- the next skip leads on
    joined : (i : ℕ) → i < length skips → IsAncestor classes (onward skips (skip_at skips i)).steps i (onward skips (skip_at skips i)).place
    joined i lt =
        let a = (at i lt).to in
        let b = (at (skip_at skips i).place (leads i lt)).to in
        let same = same_some a.3 b.2 in
        (a.0, b.1, a.2, b.3, climb_on world (skip_at skips i).steps (skip_at skips (skip_at skips i).place).steps a.0.name a.1.name a.4 ∙ ap (λ (c : ClassFact). climb world (skip_at skips (skip_at skips i).place).steps c.name) same ∙ b.4)

    pub lead_on : LeadOn skips
    lead_on = record {
      within = leads;
      fits = λ i lt.
          let a = joined i lt in
          let le = no_longer classes h (onward skips (skip_at skips i)).steps a.0.name a.1.name a.4 ((onward skips (skip_at skips i)).place, a.1, a.3, refl) in
          let few = h.few in
          omega (arith, le, few);
    }

    twice_whole : (i : ℕ) → i < length skips → (onward skips (skip_at skips i)).steps < n + n → IsNamedAt classes (onward skips (skip_at skips i)).place object_name
    twice_whole i lt few = by (cases_lt (skip_at skips (skip_at skips i).place).steps n)
      where
        next : IsSkip classes n (skip_at skips i).place (skip_at skips (skip_at skips i).place)
        next = at (skip_at skips i).place (leads i lt)

        by : ((skip_at skips (skip_at skips i).place).steps < n) ⊎ (n ≤ (skip_at skips (skip_at skips i).place).steps) → IsNamedAt classes (onward skips (skip_at skips i)).place object_name
        by (inl l) = next.whole l
        by (inr l) =
            let o = (at i lt).whole (omega (arith, l, few)) in
            let b = next.to in
            let named = ap (λ (c : ClassFact). c.name) (same_some b.2 o.1) ∙ o.2 in
            let some : 0 < (skip_at skips (skip_at skips i).place).steps = omega (arith, l, few) in
            let none = past_depth classes h object_name 0 (skip_at skips (skip_at skips i).place).steps refl some in
            absurd (none_some (sym none ∙ sym (ap (climb world (skip_at skips (skip_at skips i).place).steps) named) ∙ b.4))

    twice_skip : (i : ℕ) → i < length skips → IsSkip classes (n + n) i (onward skips (skip_at skips i))
    twice_skip i lt = record {
      to = joined i lt;
      most = let a = (at i lt).most in let b = (at (skip_at skips i).place (leads i lt)).most in omega (arith, a, b);
      whole = twice_whole i lt;
    }

    pub twice : (next : List Skip) → next ≡ map (onward skips) skips → AreSkips classes (n + n) next
    twice next e =
        let l = length-map skips (onward skips) in
        let long = ap length e in
        let each = t.each in
        record {
          each = omega (arith, l, long, each);
          skip = λ i skip f.
              let k = slice_get_within next i skip f in
              let lt : i < length skips = omega (arith, k, l, long) in
              let is = sym (get_or_from_slice_get next i skip (record { place = 0; steps = 0 }) f) ∙ ap (λ js. skip_at js i) e ∙ get_or-map (onward skips) skips i (record { place = 0; steps = 0 }) (record { place = 0; steps = 0 }) lt in
              subst (IsSkip classes (n + n) i) (sym is) (twice_skip i lt);
        }

    -- more steps than there are classes lead to Object
    pub to_top : (i : ℕ) → length classes < n → i < length skips → IsNamedAt classes (skip_at skips i).place object_name × ((skip_at skips i).steps < n)
    to_top i many lt =
        let a = at i lt in
        let p = a.to in
        let le = no_longer classes h (skip_at skips i).steps p.0.name p.1.name p.4 ((skip_at skips i).place, p.1, p.3, refl) in
        let less : (skip_at skips i).steps < n = omega (arith, le, many) in
        (a.whole less, less)

  pub first_doubled : (tops : List Skip) → AreSkips classes 1 tops → AreDoubled classes (length classes) [] tops
  first_doubled tops t = record { table = λ k skips e. absurd (none_some e); last = t; many = omega arith }

  pub next_doubled : (left : ℕ) (tables all : List (List Skip)) (tops next : List Skip) → AreDoubled classes left tables tops → all ≡ tables ++ tops ∷ [] → next ≡ map (onward tops) tops → AreDoubled classes (left / 2) all next
  next_doubled left tables all tops next d e f =
      let long : length all ≡ length tables + 1 = ap length e ∙ length-append tables (tops ∷ []) in
      let pow = pow-add 2 (length tables) 1 in
      let same : 2 ^ length tables + 2 ^ length tables ≡ 2 ^ length all = omega (arith, ap (λ k. 2 ^ k) long, pow) in
      record {
        table = all_and_one (λ k skips. AreSkips classes (2 ^ k) skips) tables all tops (length tables) e refl d.last d.table;
        last = subst (λ n. AreSkips classes n next) same (twice (2 ^ length tables) tops d.last next f);
        many = subst (λ n. length classes < (left / 2 + 1) * n) same (halved (length classes) left (2 ^ length tables) d.many);
      }

  pub all_tables : (left : ℕ) (tables : List (List Skip)) (tops : List Skip) → left ≤ 0 → AreDoubled classes left tables tops → AreTables classes tables tops
  all_tables left tables tops z d =
      let many = none_left (length classes) left (2 ^ length tables) z d.many in
      let each = d.last.each in
      record {
        table = d.table;
        top_each = each;
        top = λ i lt. ((at (2 ^ length tables) tops d.last i (omega (arith, each, lt))).to, (to_top (2 ^ length tables) tops d.last i many (omega (arith, each, lt))).0);
        enough = λ i lt. (to_top (2 ^ length tables) tops d.last i many (omega (arith, each, lt))).1;
      }
