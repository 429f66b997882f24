-- Copies of nodes in another list.
use Rattle.std.proofs.Common.{◌≡◌, ◌≢◌, ◌∙◌, ℕ, zero, suc, ◌+◌, ◌-◌, ◌%◌, ◌<◌, ◌≤◌, ◌⊎◌, inl, inr, List, [], ◌∷◌, ◌++◌, map, length, get_or, set, Option, Some, None, Result, Ok, Err, IfOk, OnErr, refl, sym, ap, subst, arith, length-append, length-set, get_or-set_same, get_or-set_other}
use Rattle.std.specs.declared.alloc.AllocError.{AllocError}
use Rattle.std.proofs.lemmas.Bool.{cases_eq, cases_lt}
use Rattle.std.proofs.lemmas.List.{get_or_append_left, get_or_push, get_or-map, ext_get_or, length-map}
use Rattle.std.proofs.lemmas.Nat.{mod_below}
use Rattle.blocks.specs.Rows.{Rows}
use Rattle.blocks.specs.declared.node.Node.{Node}
use Rattle.blocks.specs.declared.compacting.Copies.{Copies}
use Rattle.blocks.specs.private.Blocks.{place_in}
use Rattle.blocks.specs.private.Trees.{no_node, node_at, level_of, below, number_at, width, IsForest, IsTree}
use Rattle.blocks.specs.private.Arenas.{row_of, rows_of, known_pairs, pairs_of, IsArena, AreEmpty}
use Rattle.blocks.specs.private.Compacting.{IsSameIn, AreFresh, AreCopies, AreCopiesOf, AreSameIn, GrowsTo, IsKept}
use Rattle.blocks.proofs.Trees.{place_low, number_same}
use Rattle.blocks.proofs.Arenas.{row_same, rows_same, kept_long}

place_or : ℕ → Option ℕ → ℕ
place_or d None = d
place_or d (Some n) = n

some_same : {a b : ℕ} → (let x : Option ℕ = Some a in x) ≡ Some b → a ≡ b
unfolding place_or
some_same {a} {b} e = ap (place_or a) e

none_some : {r : ℕ} → (let x : Option ℕ = None in x) ≡ Some r → ⊥
unfolding place_or
none_some {r} e = let f : r + 1 ≡ r = ap (place_or (r + 1)) e in omega (arith, f)

pub grows_itself : (ms : List Node) → GrowsTo ms ms
grows_itself ms = record { more = omega arith; old = λ i lt. refl }

pub grows_on : (ms ls ks : List Node) → GrowsTo ms ls → GrowsTo ls ks → GrowsTo ms ks
grows_on ms ls ks a b =
    let more = a.more in
    let on = b.more in
    record { more = omega (arith, more, on); old = λ i lt. b.old i (omega (arith, lt, more)) ∙ a.old i lt }

-- a copy stays one
pub still_same : (ns ms ls : List Node) (id now : ℕ) → IsForest ms → GrowsTo ms ls → IsSameIn ns ms id now → IsSameIn ns ls id now
still_same ns ms ls id now f g s =
    let inside = s.inside in
    let more = g.more in
    record {
      inside = omega (arith, inside, more);
      alike = ap (λ n. n.level) (g.old now inside) ∙ s.alike;
      numbers = λ slot. number_same ms ls (length ms) f.inner (λ j h. ap (λ n. n.numbers) (g.old j h)) (level_of ns id) now slot inside s.alike ∙ s.numbers slot;
    }

-- ---- a node that was put after the others

module _ (ms ls : List Node) (level now : ℕ) (numbers : List ℕ) (fresh : AreFresh ms) (last : now ≡ length ms) (few : length ls < 4294967296)
    (pushed : ls ≡ ms ++ record { numbers = numbers; level = level; seen = None } ∷ []) where
  abbrev one : Node
  one = record { numbers = numbers; level = level; seen = None }

  long : length ls ≡ length ms + 1
  long = ap length pushed ∙ length-append ms (one ∷ [])

  first : (i : ℕ) → i < length ms → node_at ls i ≡ node_at ms i
  first i lt = ap (λ ns. node_at ns i) pushed ∙ get_or_append_left ms (one ∷ []) no_node i lt

  here : node_at ls now ≡ one
  here = ap (λ ns. node_at ns now) pushed ∙ get_or_push ms one no_node now (sym last)

  pub put_grows : GrowsTo ms ls
  put_grows = record { more = omega (arith, long); old = first }

  either : (i : ℕ) → i < length ls → ((i < length ms) × (node_at ls i ≡ node_at ms i)) ⊎ (node_at ls i ≡ one)
  either i lt = elim (cases_lt i (length ms)) [
    | inl less ↦ inl (less, first i less)
    | inr past ↦ inr (let e : i ≡ now = omega (arith, lt, past, long, last) in ap (node_at ls) e ∙ here)
  ]

  pub put_fresh : length numbers ≡ 16 → level < 4
      → ((j l : ℕ) → j < 16 → level ≡ suc l → (get_or numbers j 0 < length ms) × (level_of ms (get_or numbers j 0) ≡ l)) → AreFresh ls
  put_fresh wide low children =
      let f = fresh.forest in
      record {
        forest = record {
          few = few;
          wide = λ i lt. elim (either i lt) [
            | inl e ↦ ap (λ n. length n.numbers) e.1 ∙ f.wide i e.0
            | inr e ↦ ap (λ n. length n.numbers) e ∙ wide
          ];
          low = λ i lt. elim (either i lt) [
            | inl e ↦ (let same : level_of ls i ≡ level_of ms i = ap (λ n. n.level) e.1 in let low = f.low i e.0 in omega (arith, same, low))
            | inr e ↦ (let same : level_of ls i ≡ level = ap (λ n. n.level) e in omega (arith, same, low))
          ];
          inner = λ i j l it jt up. elim (either i it) [
            | inl e ↦
                (let same : below ls i j ≡ below ms i j = ap (λ n. get_or n.numbers j 0) e.1 in
                let one = f.inner i j l e.0 jt (sym (ap (λ n. n.level) e.1) ∙ up) in
                let inside : below ms i j < length ms = one.0 in
                (omega (arith, same, inside, long), ap (level_of ls) same ∙ ap (λ n. n.level) (first (below ms i j) inside) ∙ one.1))
            | inr e ↦
                (let same : below ls i j ≡ get_or numbers j 0 = ap (λ n. get_or n.numbers j 0) e in
                let one = children j l jt (sym (ap (λ n. n.level) e) ∙ up) in
                let inside : get_or numbers j 0 < length ms = one.0 in
                (omega (arith, same, inside, long), ap (level_of ls) same ∙ ap (λ n. n.level) (first (get_or numbers j 0) inside) ∙ one.1))
          ];
        };
        base = (let base = fresh.base in omega (arith, base, long));
        none = λ i lt. elim (either i lt) [
          | inl e ↦ ap (λ n. n.seen) e.1 ∙ fresh.none i e.0
          | inr e ↦ ap (λ n. n.seen) e
        ];
      }

  -- as the copy of another
  module _ (ns : List Node) (id : ℕ) (known : id < length ns) (f : IsForest ns) (alike : level ≡ level_of ns id) where
    inside : now < length ls
    inside = omega (arith, last, long)

    same_level : level_of ls now ≡ level_of ns id
    same_level = ap (λ n. n.level) here ∙ alike

    pub block_same : level_of ns id ≡ 0 → ((k : ℕ) → k < 16 → get_or numbers k 0 ≡ below ns id k) → IsSameIn ns ls id now
    block_same flat each = record {
      inside = inside;
      alike = same_level;
      numbers = λ slot.
          ap (λ l. number_at ls l now slot) flat
          ∙ ap (λ n. get_or n.numbers (slot % 16) 0) here
          ∙ each (slot % 16) (mod_below slot 16 (omega arith))
          ∙ sym (ap (λ l. number_at ns l id slot) flat);
    }

    module _ (l : ℕ) (up : level_of ns id ≡ suc l) (each : (k : ℕ) → k < 16 → IsSameIn ns ms (below ns id k) (get_or numbers k 0)) where
      pub inner_same : IsSameIn ns ls id now
      inner_same = record {
        inside = inside;
        alike = same_level;
        numbers = λ slot.
            let p : ℕ = place_in slot (suc l) in
            let low : p < 16 = place_low slot (suc l) in
            let flat : level_of ns (below ns id p) ≡ l = (f.inner id p l known low up).1 in
            let s = still_same ns ms ls (below ns id p) (get_or numbers p 0) fresh.forest put_grows (each p low) in
            ap (λ k. number_at ls k now slot) up
            ∙ ap (λ n. number_at ls l (get_or n.numbers p 0) slot) here
            ∙ ap (λ k. number_at ls k (get_or numbers p 0) slot) (sym flat)
            ∙ s.numbers slot
            ∙ ap (λ k. number_at ns k (below ns id p) slot) flat
            ∙ sym (ap (λ k. number_at ns k id slot) up);
      }

-- and it is known as the copy
pub known_copies : (ns : List Node) (old new : Copies) (id now : ℕ) → id < length ns → AreCopiesOf ns old → AreFresh new.nodes.items → GrowsTo old.nodes.items new.nodes.items
    → new.known.items ≡ set old.known.items id (Some now) → IsSameIn ns new.nodes.items id now → AreCopiesOf ns new
known_copies ns old new id now lt are fresh g known is = record {
  fresh = fresh;
  long = ap length known ∙ length-set old.known.items id (Some now) ∙ are.long;
  same = λ i k less e. elim (cases_eq i id) [
    | inl same ↦
        (let long = are.long in
        let at : get_or (set old.known.items id (Some now)) i None ≡ Some now = ap (λ j. get_or (set old.known.items id (Some now)) j None) same ∙ get_or-set_same old.known.items id (Some now) None (omega (arith, lt, long)) in
        let which : now ≡ k = some_same (sym at ∙ sym (ap (λ xs. get_or xs i None) known) ∙ e) in
        subst (λ j. IsSameIn ns new.nodes.items j k) (sym same) (subst (IsSameIn ns new.nodes.items id) which is))
    | inr other ↦
        still_same ns old.nodes.items new.nodes.items i k are.fresh.forest g
        (are.same i k less (sym (get_or-set_other old.known.items id i (Some now) None other) ∙ sym (ap (λ xs. get_or xs i None) known) ∙ e))
  ];
}

-- ---- the step of a copy

module _ (ns : List Node) (old new : Copies) (id level : ℕ) (numbers : List ℕ) (f : IsForest ns) (known : id < length ns) (are : AreCopiesOf ns old) (alike : level ≡ level_of ns id) (wide : length numbers ≡ 16)
    (step : ((level_of ns id ≡ 0) × ((k : ℕ) → k < 16 → get_or numbers k 0 ≡ below ns id k))
    ⊎ ((level_of ns id ≢ 0) × ((k : ℕ) → k < 16 → IsSameIn ns old.nodes.items (below ns id k) (get_or numbers k 0)))) where
  below_it : (j l : ℕ) → j < 16 → level ≡ suc l → (get_or numbers j 0 < length old.nodes.items) × (level_of old.nodes.items (get_or numbers j 0) ≡ l)
  below_it j l jt e = elim step [
    | inl block ↦ absurd (let flat = block.0 in omega (arith, e, alike, flat))
    | inr inner ↦ ((inner.1 j jt).inside, (inner.1 j jt).alike ∙ (f.inner id j l known jt (sym alike ∙ e)).1)
  ]

  is_fresh : (now : ℕ) → IsKept old new id level numbers now → AreFresh new.nodes.items
  is_fresh now k = put_fresh old.nodes.items new.nodes.items level now numbers are.fresh k.last k.few k.pushed wide (let low = f.low id known in omega (arith, alike, low)) below_it

  is_grown : (now : ℕ) → IsKept old new id level numbers now → GrowsTo old.nodes.items new.nodes.items
  is_grown now k = put_grows old.nodes.items new.nodes.items level now numbers are.fresh k.last k.few k.pushed

  is_same : (now : ℕ) → IsKept old new id level numbers now → IsSameIn ns new.nodes.items id now
  is_same now k = elim step [
    | inl block ↦ block_same old.nodes.items new.nodes.items level now numbers are.fresh k.last k.few k.pushed ns id known f alike block.0 block.1
    | inr inner ↦
        (let ne = inner.0 in
        let up : level_of ns id ≡ suc (level_of ns id - 1) = grind (arith, ne) in
        inner_same old.nodes.items new.nodes.items level now numbers are.fresh k.last k.few k.pushed ns id known f alike (level_of ns id - 1) up inner.1)
  ]

  pub step_grown : (r : Result ℕ AllocError) → IfOk r (IsKept old new id level numbers) → OnErr r (new.nodes.items ≡ old.nodes.items) → GrowsTo old.nodes.items new.nodes.items
  step_grown (Ok now) k err = is_grown now k
  step_grown (Err e) k err = subst (GrowsTo old.nodes.items) (sym err) (grows_itself old.nodes.items)

  pub step_copies : (r : Result ℕ AllocError) → IfOk r (IsKept old new id level numbers) → OnErr r (new.nodes.items ≡ old.nodes.items) → OnErr r (new.known ≡ old.known) → AreCopiesOf ns new
  step_copies (Ok now) k err same = known_copies ns old new id now known are (is_fresh now k) (is_grown now k) k.known (is_same now k)
  step_copies (Err e) k err same = record {
    fresh = subst AreFresh (sym err) are.fresh;
    long = ap (λ v. length v.items) same ∙ are.long;
    same = λ i j lt e. subst (λ xs. IsSameIn ns xs i j) (sym err) (are.same i j lt (sym (ap (λ v. get_or v.items i None) same) ∙ e));
  }

  pub step_same : (r : Result ℕ AllocError) → IfOk r (IsKept old new id level numbers) → IfOk r (IsSameIn ns new.nodes.items id)
  step_same (Ok now) k = is_same now k
  step_same (Err e) k = tt

-- ---- an arena of copies

none_known : (ms : List Node) → AreFresh ms → (n : ℕ) → n ≤ length ms → known_pairs ms n ≡ []
none_known ms fresh zero le = refl
none_known ms fresh (suc n) le =
    ap (λ xs. xs ++ pairs_of ms n (node_at ms n).seen) (none_known ms fresh n (omega (arith, le)))
    ∙ ap (pairs_of ms n) (fresh.none n (omega (arith, le)))

pub fresh_tree : (ms : List Node) → AreFresh ms → IsTree ms (length ms)
fresh_tree ms fresh =
    let f = fresh.forest in
    let low : (i j : ℕ) → i < length ms → j < 16 → 0 < level_of ms i → below ms i j < length ms =
    λ i j it jt up. (f.inner i j (level_of ms i - 1) it jt (omega (arith, up))).0 in
    record {
      forest = f;
      within = omega arith;
      shared = low;
      once = λ i j p q it pt jt qt iup pup far e. let less = low i j it jt iup in absurd (omega (arith, less, far));
      seen = λ i r it e. absurd (none_some (sym (fresh.none i it) ∙ e));
    }

module _ (ns ms : List Node) (own root kept count : ℕ) (declared nows : List ℕ) (root' kept' : ℕ) (a : IsArena ns own root kept count declared) (fresh : AreFresh ms)
    (r : IsSameIn ns ms root root') (k : IsSameIn ns ms kept kept') (d : AreSameIn ns ms declared nows) where
  level : level_of ms root' ≡ level_of ns root
  level = r.alike

  pub compact_arena : IsArena ms (length ms) root' kept' count nows
  compact_arena = record {
    tree = fresh_tree ms fresh;
    base = fresh.base;
    inside = r.inside;
    few = a.few;
    reach = subst (λ l. count ≤ width l) (sym level) a.reach;
    rows = λ i lt.
        let long = d.long in
        let less : i < length declared = omega (arith, lt, long) in
        let s = d.each i less in
        (s.inside, s.alike ∙ (a.rows i less).1 ∙ sym level);
    keeps = (k.inside, k.alike ∙ a.keeps.1 ∙ sym level);
    rest = λ slot from to. ap (λ l. number_at ms l root' slot) level ∙ r.numbers slot ∙ a.rest slot from (subst (λ l. slot < width l) level to);
    rests = λ i slot lt from to.
        let long = d.long in
        let less : i < length declared = omega (arith, lt, long) in
        let s = d.each i less in
        let same = (a.rows i less).1 in
        ap (λ l. number_at ms l (get_or nows i 0) slot) (level ∙ sym same)
        ∙ s.numbers slot
        ∙ ap (λ l. number_at ns l (get_or declared i 0) slot) same
        ∙ a.rests i slot less from (subst (λ l. slot < width l) level to);
  }

  same_row : (id now : ℕ) → IsSameIn ns ms id now → row_of ms count now ≡ row_of ns count id
  same_row id now s = row_same ns ms count id now (level_of ns id) refl s.alike s.numbers

  same_rows : map (row_of ms count) nows ≡ map (row_of ns count) declared
  same_rows =
      ext_get_or [] _ _ (length-map nows (row_of ms count) ∙ d.long ∙ sym (length-map declared (row_of ns count))) (λ i lt.
      let here = length-map nows (row_of ms count) in
      let long = d.long in
      let less : i < length declared = omega (arith, lt, here, long) in
      get_or-map (row_of ms count) nows i 0 [] (omega (arith, less, long))
      ∙ same_row (get_or declared i 0) (get_or nows i 0) (d.each i less)
      ∙ sym (get_or-map (row_of ns count) declared i 0 [] less))

  pub compact_rows : (rows : Rows) → rows_of ns root kept count declared ≡ rows → rows_of ms root' kept' count nows ≡ record rows { known = [] }
  compact_rows rows is =
      rows_same (same_row root root' r) same_rows (same_row kept kept' k) (none_known ms fresh (length ms) (omega arith))
      ∙ ap (λ (x : Rows). let y : Rows = record x { known = [] } in y) is
