-- Values put into a version at once: each by the node that it is for.
use Rattle.std.proofs.Common.{◌≡◌, ◌⊎◌, inl, inr, ◌==◌, ◌+◌, ◌-◌, ◌*◌, ◌/◌, ◌%◌, ◌<◌, ◌≤◌, ℕ, zero, suc, true, cond, List, [], ◌∷◌, ◌++◌, length, slice_get, Some, refl, ap, sym, ◌∙◌, subst, arith}
use Rattle.std.proofs.lemmas.Bool.{eq-eqb, ne_eqb, cases_eq, eqb-true}
use Rattle.hierarchy.specs.declared.versions.Node.{Node}
use Rattle.hierarchy.specs.declared.versions.Put.{Put}
use Rattle.hierarchy.specs.declared.versions.Split.{Split}
use Rattle.hierarchy.specs.declared.versions.Versions.{Versions}
use Rattle.hierarchy.specs.private.Versions.{AreNamed, AreVersions, IsAdded, IsSplit, IsVersion, Most, Puts, PutsAll, PutsNested, Takes, node_at, node_below, put_in, value_at}
use Rattle.hierarchy.proofs.Sharing.{at_even, at_odd, down}
use Rattle.hierarchy.proofs.TextPlaces.{behind_cases, first_stays, last_is}

-- ---- one value more

pub put_last : (ps : List Put) (p : Put) (j v : ℕ) → put_in (ps ++ p ∷ []) j v ≡ cond (p.index == j) p.value (put_in ps j v)
put_last [] p j v = refl
put_last (q ∷ ps) p j v = put_last ps p j (cond (q.index == j) q.value v)

same_test : (a b c d : ℕ) → (a ≡ b → c ≡ d) → (c ≡ d → a ≡ b) → (a == b) ≡ (c == d)
same_test a b c d f g = by (cases_eq a b)
  where
    by : (a ≡ b) ⊎ (a ≡ b → ⊥) → (a == b) ≡ (c == d)
    by (inl e) = eq-eqb a b e ∙ sym (eq-eqb c d (f e))
    by (inr n) = ne_eqb a b n ∙ sym (ne_eqb c d (λ e. n (g e)))

module _ (old new : Split) (p : Put) where
  pub take_top : p.index ≡ 0 → new.value ≡ p.value → new.odd.items ≡ old.odd.items → new.even.items ≡ old.even.items → Takes old new p
  take_top z value odd even = record {
    top = value ∙ ap (λ b. cond b p.value old.value) (sym (eq-eqb p.index 0 z));
    odd = λ j v. ap (λ xs. put_in xs j v) odd ∙ ap (λ b. cond b p.value (put_in old.odd.items j v)) (sym (ne_eqb p.index (2 * j + 1) (λ e. absurd (omega (arith, e, z)))));
    even = λ j v. ap (λ xs. put_in xs j v) even ∙ ap (λ b. cond b p.value (put_in old.even.items j v)) (sym (ne_eqb p.index (2 * j + 2) (λ e. absurd (omega (arith, e, z)))));
    most_odd = λ most le h. subst (Most ((most - 1) / 2)) (sym odd) h;
    most_even = λ most le h. subst (Most ((most - 1) / 2)) (sym even) h;
  }

  -- the value goes to a node below
  module _ (some : p.index ≡ 0 → ⊥) (below : Put) (index : below.index ≡ (p.index - 1) / 2) (value : below.value ≡ p.value) where
    with_more : (xs ys : List Put) (k j v : ℕ) → ys ≡ xs ++ below ∷ [] → ((below.index == j) ≡ (p.index == k)) → put_in ys j v ≡ cond (p.index == k) p.value (put_in xs j v)
    with_more xs ys k j v pushed test = ap (λ zs. put_in zs j v) pushed ∙ put_last xs below j v ∙ λ i. cond (test i) (value i) (put_in xs j v)

    with_most : (xs ys : List Put) (most : ℕ) → ys ≡ xs ++ below ∷ [] → p.index ≤ most → Most ((most - 1) / 2) xs → Most ((most - 1) / 2) ys
    with_most xs ys most pushed le h i q e = by (behind_cases xs below i q (ap (λ zs. slice_get zs i) (sym pushed) ∙ e))
      where
        by : (slice_get xs i ≡ Some q) ⊎ ((i ≡ length xs) × (below ≡ q)) → q.index ≤ (most - 1) / 2
        by (inl g) = h i q g
        by (inr g) = let is = ap (λ (x : Put). x.index) (sym g.1) ∙ index in omega (arith, is, le)

    pub take_odd : p.index % 2 ≡ 1 → new.value ≡ old.value → new.odd.items ≡ old.odd.items ++ below ∷ [] → new.even.items ≡ old.even.items → Takes old new p
    take_odd is same odd even = record {
      top = same ∙ ap (λ b. cond b p.value old.value) (sym (ne_eqb p.index 0 some));
      odd = λ j v. with_more old.odd.items new.odd.items (2 * j + 1) j v odd
          (same_test below.index j p.index (2 * j + 1) (λ e. omega (arith, e, index, is, some)) (λ e. omega (arith, e, index)));
      even = λ j v. ap (λ xs. put_in xs j v) even ∙ ap (λ b. cond b p.value (put_in old.even.items j v)) (sym (ne_eqb p.index (2 * j + 2) (λ e. absurd (omega (arith, e, is)))));
      most_odd = λ most le h. with_most old.odd.items new.odd.items most odd le h;
      most_even = λ most le h. subst (Most ((most - 1) / 2)) (sym even) h;
    }

    pub take_even : (p.index % 2 ≡ 1 → ⊥) → new.value ≡ old.value → new.odd.items ≡ old.odd.items → new.even.items ≡ old.even.items ++ below ∷ [] → Takes old new p
    take_even not same odd even = record {
      top = same ∙ ap (λ b. cond b p.value old.value) (sym (ne_eqb p.index 0 some));
      odd = λ j v. ap (λ xs. put_in xs j v) odd ∙ ap (λ b. cond b p.value (put_in old.odd.items j v)) (sym (ne_eqb p.index (2 * j + 1) (λ e. not (omega (arith, e)))));
      even = λ j v. with_more old.even.items new.even.items (2 * j + 2) j v even
          (same_test below.index j p.index (2 * j + 2) (λ e. by_half e) (λ e. omega (arith, e, index)));
      most_odd = λ most le h. subst (Most ((most - 1) / 2)) (sym odd) h;
      most_even = λ most le h. with_most old.even.items new.even.items most even le h;
    }
      where
        by_half : {j : ℕ} → below.index ≡ j → p.index ≡ 2 * j + 2
        by_half {j = j} e = by (cases_eq (p.index % 2) 1)
          where
            by : (p.index % 2 ≡ 1) ⊎ (p.index % 2 ≡ 1 → ⊥) → p.index ≡ 2 * j + 2
            by (inl o) = absurd (not o)
            by (inr o) = omega (arith, e, index, o, some)

pub most_more : (puts more : List Put) (p : Put) (old new : ℕ) → old ≤ new → p.index ≤ new → Most old puts → more ≡ puts ++ p ∷ [] → Most new more
most_more puts more p old new first second most pushed i q e = by (behind_cases puts p i q (ap (λ zs. slice_get zs i) (sym pushed) ∙ e))
  where
    by : (slice_get puts i ≡ Some q) ⊎ ((i ≡ length puts) × (p ≡ q)) → q.index ≤ new
    by (inl g) = let le = most i q g in omega (arith, le, first)
    by (inr g) = let same = ap (λ (x : Put). x.index) (sym g.1) in omega (arith, same, second)

pub split_more : (value : ℕ) (ps : List Put) (p : Put) (old new : Split) → IsSplit value ps old → Takes old new p → IsSplit value (ps ++ p ∷ []) new
split_more value ps p old new is takes = record {
  top = takes.top ∙ ap (cond (p.index == 0) p.value) is.top ∙ sym (put_last ps p 0 value);
  odd = λ j v. takes.odd j v ∙ ap (cond (p.index == 2 * j + 1) p.value) (is.odd j v) ∙ sym (put_last ps p (2 * j + 1) v);
  even = λ j v. takes.even j v ∙ ap (cond (p.index == 2 * j + 2) p.value) (is.even j v) ∙ sym (put_last ps p (2 * j + 2) v);
  most_odd = λ most h. takes.most_odd most (h (length ps) p (last_is ps p)) (is.most_odd most (λ i q e. h i q (first_stays ps p i q e)));
  most_even = λ most h. takes.most_even most (h (length ps) p (last_is ps p)) (is.most_even most (λ i q e. h i q (first_stays ps p i q e)));
}

-- ---- the node at the top

-- the version that has the node already
pub top_is : (vs : Versions) (from : ℕ) (node : Node) → AreVersions vs → IsVersion vs from → node_at vs.nodes.items from ≡ node → IsAdded vs vs node from
top_is vs from node good there is = record {
  version = there;
  own = ap (λ (x : Node). x.value) is;
  further = λ i some. down vs.nodes.items from i some ∙ ap (λ (x : Node). value_at vs (node_below x i) ((i - 1) / 2)) is;
  kept = λ v p j. refl;
  stays = λ v p. p;
  good = good;
}

-- ---- all values

-- behind the greatest index nothing was put
far : (puts : List Put) (most : ℕ) → Most most puts → (j v : ℕ) → most < j → put_in puts j v ≡ v
far [] most h j v lt = refl
far (p ∷ ps) most h j v lt =
    let le = h zero p refl in
    ap (λ b. put_in ps j (cond b p.value v)) (ne_eqb p.index j (λ e. absurd (omega (arith, e, le, lt)))) ∙ far ps most (λ i q e. h (suc i) q e) j v lt

pub no_puts : (puts : List Put) → (length puts == 0) ≡ true → puts ≡ []
no_puts [] e = refl
no_puts (p ∷ ps) e = let none = eqb-true (length (p ∷ ps)) 0 e in absurd (omega (arith, none))

pub puts_nothing : (vs : Versions) (from : ℕ) → AreVersions vs → IsVersion vs from → PutsAll vs vs from [] from
puts_nothing vs from good there = record { version = there; values = λ j. refl; kept = λ v p j. refl; stays = λ v p. p; good = good }

module _ (old : Versions) (from : ℕ) (good : AreVersions old) (there : IsVersion old from) (puts : List Put) (s : Split) where
  abbrev node : Node
  node = node_at old.nodes.items from

  abbrev is_split : Type 0
  is_split = IsSplit node.value puts s

  -- all are for index 0
  pub puts_here : is_split → Most 0 puts → (new : Versions) (made : ℕ) → IsAdded old new (record { value = s.value; odd = node.odd; even = node.even }) made → PutsAll old new from puts made
  puts_here split most new made a = record { version = a.version; values = λ j. by j (cases_eq j 0); kept = a.kept; stays = a.stays; good = a.good }
    where
      by : (j : ℕ) → (j ≡ 0) ⊎ (j ≡ 0 → ⊥) → value_at new made j ≡ put_in puts j (value_at old from j)
      by j (inl z) = ap (value_at new made) z ∙ a.own ∙ split.top ∙ λ i. put_in puts (sym z i) (value_at old from (sym z i))
      by j (inr n) =
          let some : 0 < j = omega (arith, n) in
          a.further j some ∙ sym (down old.nodes.items from j some) ∙ sym (far puts 0 most j (value_at old from j) some)

  module _ (split : is_split) (first mid new : Versions) (odd even made : ℕ) (left : PutsAll old first node.odd s.odd.items odd) (right : PutsAll first mid node.even s.even.items even)
      (a : IsAdded mid new (record { value = s.value; odd = odd; even = even }) made) where
    abbrev next : Node
    next = record { value = s.value; odd = odd; even = even }

    in_odd : (j x : ℕ) → j ≡ 2 * x + 1 → value_at new made j ≡ put_in puts j (value_at old from j)
    in_odd j x is =
        let some : 0 < j = omega (arith, is) in
        let o : j % 2 ≡ 1 = omega (arith, is) in
        let half : (j - 1) / 2 ≡ x = omega (arith, is) in
        let here : value_at old node.odd x ≡ value_at old from j =
        sym (down old.nodes.items from j some ∙ (λ i. value_at old (at_odd node j o i) (half i))) in
        a.further j some ∙ (λ i. value_at mid (at_odd next j o i) (half i))
        ∙ right.kept odd left.version x ∙ left.values x ∙ split.odd x (value_at old node.odd x) ∙ λ i. put_in puts (sym is i) (here i)

    in_even : (j x : ℕ) → j ≡ 2 * x + 2 → value_at new made j ≡ put_in puts j (value_at old from j)
    in_even j x is =
        let some : 0 < j = omega (arith, is) in
        let o : j % 2 ≡ 1 → ⊥ = λ e. absurd (omega (arith, is, e)) in
        let half : (j - 1) / 2 ≡ x = omega (arith, is) in
        let here : value_at first node.even x ≡ value_at old from j =
        left.kept node.even (good.even from there) x ∙ sym (down old.nodes.items from j some ∙ (λ i. value_at old (at_even node j o i) (half i))) in
        a.further j some ∙ (λ i. value_at mid (at_even next j o i) (half i))
        ∙ right.values x ∙ split.even x (value_at first node.even x) ∙ λ i. put_in puts (sym is i) (here i)

    pub puts_below : PutsAll old new from puts made
    puts_below = record {
      version = a.version;
      values = λ j. by j (cases_eq j 0) (cases_eq (j % 2) 1);
      kept = λ v p j. a.kept v (right.stays v (left.stays v p)) j ∙ right.kept v (left.stays v p) j ∙ left.kept v p j;
      stays = λ v p. a.stays v (right.stays v (left.stays v p));
      good = a.good;
    }
      where
        by : (j : ℕ) → (j ≡ 0) ⊎ (j ≡ 0 → ⊥) → (j % 2 ≡ 1) ⊎ (j % 2 ≡ 1 → ⊥) → value_at new made j ≡ put_in puts j (value_at old from j)
        by j (inl z) o = ap (value_at new made) z ∙ a.own ∙ split.top ∙ λ i. put_in puts (sym z i) (value_at old from (sym z i))
        by j (inr n) (inl o) = in_odd j ((j - 1) / 2) (omega (arith, n, o))
        by j (inr n) (inr o) = in_even j ((j - 1) / 2) (omega (arith, n, o))

-- ---- versions of versions

-- a version is named at an index in place of the one before
module _ (old mid new : Versions) (from outer : ℕ) (puts : List Put) (has made : ℕ) (there : IsVersion old from) (named : AreNamed old from) (all : PutsAll old mid (value_at old from outer) puts has)
    (one : Puts mid new from outer has made) where
  same_name : (q : ℕ) → (q ≡ outer → ⊥) → value_at new made q ≡ value_at old from q
  same_name q n = one.others q n ∙ all.kept from there q

  pub nested : PutsNested old new from outer puts made
  nested = record {
    version = one.version;
    named = λ q. by q (cases_eq q outer);
    here = λ j. ap (λ v. value_at new v j) one.here ∙ one.kept has all.version j ∙ all.values j;
    others = λ q n j. ap (λ v. value_at new v j) (same_name q n) ∙ one.kept (value_at old from q) (all.stays _ (named q)) j ∙ all.kept (value_at old from q) (named q) j;
    keeps = record {
      good = one.good;
      stays = λ v e. one.stays v (all.stays v e);
      same = λ v e j. one.kept v (all.stays v e) j ∙ all.kept v e j;
    };
  }
    where
      by : (q : ℕ) → (q ≡ outer) ⊎ (q ≡ outer → ⊥) → IsVersion new (value_at new made q)
      by q (inl e) = subst (IsVersion new) (sym (ap (value_at new made) e ∙ one.here)) (one.stays has all.version)
      by q (inr n) = subst (IsVersion new) (sym (same_name q n)) (one.stays _ (all.stays _ (named q)))
