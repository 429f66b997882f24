-- Nodes put after others, each like one of them.
use Rattle.std.proofs.Common.{◌≡◌, ◌∙◌, ℕ, zero, suc, ◌+◌, ◌-◌, ◌%◌, ◌<◌, ◌≤◌, inl, inr, List, [], map, length, get_or, refl, sym, ap, subst, arith}
use Rattle.std.specs.List.{Contains}
use Rattle.std.proofs.lemmas.Bool.{cases_lt}
use Rattle.blocks.specs.Rows.{Rows, StandsAt, IsSaidToFit}
use Rattle.blocks.specs.declared.node.Node.{Node}
use Rattle.blocks.specs.private.Blocks.{place_in}
use Rattle.blocks.specs.private.Trees.{node_at, level_of, below, number_at, width, IsForest, IsTree, IsKnown, SharesSame}
use Rattle.blocks.specs.private.Arenas.{row_of, rows_of, IsArena}
use Rattle.blocks.specs.private.Remembering.{IsAlike, AreCopied}
use Rattle.blocks.proofs.Trees.{place_low, number_same}
use Rattle.blocks.proofs.Arenas.{row_same, declared_same, kept_same, known_contains, contains_known}

module _ (ns ms : List Node) (f : IsForest ns) (c : AreCopied ns ms) where
  all_alike : (i : ℕ) → i < length ms → IsAlike ns ms i
  all_alike i lt = elim (cases_lt i (length ns)) [
    | inl less ↦ record { like = i; inside = less; same = c.old i less }
    | inr past ↦ c.news i past lt
  ]

  pub copied_same : (level i slot : ℕ) → i < length ns → level_of ns i ≡ level → number_at ms level i slot ≡ number_at ns level i slot
  copied_same = number_same ns ms (length ns) f.inner (λ j h. ap (λ n. n.numbers) (c.old j h))

  pub copied_forest : IsForest ms
  copied_forest = record {
    few = c.few;
    wide = λ i lt. let a = all_alike i lt in ap (λ n. length n.numbers) a.same ∙ f.wide a.like a.inside;
    low = λ i lt. let a = all_alike i lt in let e = ap (λ n. n.level) a.same in let k = f.low a.like a.inside in omega (arith, e, k);
    inner = λ i j level lt jt e.
        let a = all_alike i lt in
        let one = f.inner a.like j level a.inside jt (sym (ap (λ n. n.level) a.same) ∙ e) in
        let at : below ms i j ≡ below ns a.like j = ap (λ n. get_or n.numbers j 0) a.same in
        let inside = one.0 in
        let more = c.more in
        (omega (arith, at, inside, more), ap (level_of ms) at ∙ ap (λ n. n.level) (c.old (below ns a.like j) inside) ∙ one.1);
  }

-- and once more
pub copied_on : (ns ms ls : List Node) → AreCopied ns ms → AreCopied ms ls → AreCopied ns ls
copied_on ns ms ls c d =
    let more = c.more in
    let on = d.more in
    record {
      few = d.few;
      more = omega (arith, more, on);
      old = λ i lt. d.old i (omega (arith, lt, more)) ∙ c.old i lt;
      news = λ i from to. elim (cases_lt i (length ms)) [
        | inl less ↦ (let a = c.news i from less in record { like = a.like; inside = a.inside; same = d.old i less ∙ a.same })
        | inr past ↦ (let a = d.news i past to in
            elim (cases_lt a.like (length ns)) [
              | inl less ↦ record { like = a.like; inside = less; same = a.same ∙ c.old a.like less }
              | inr more ↦ (let b = c.news a.like more a.inside in record { like = b.like; inside = b.inside; same = a.same ∙ b.same })
            ])
      ];
    }

module _ (ns ms : List Node) (own root kept count : ℕ) (declared : List ℕ) (a : IsArena ns own root kept count declared) (c : AreCopied ns ms) where
  same : (i slot : ℕ) → i < length ns → number_at ms (level_of ns i) i slot ≡ number_at ns (level_of ns i) i slot
  same i slot lt = copied_same ns ms a.tree.forest c (level_of ns i) i slot lt refl

  levels : (i : ℕ) → i < length ns → level_of ms i ≡ level_of ns i
  levels i lt = ap (λ n. n.level) (c.old i lt)

  pub copied_shares : SharesSame ns ms own
  copied_shares =
      let within = a.tree.within in
      record {
        levels = λ i lt. levels i (omega (arith, lt, within));
        seen = λ i lt. ap (λ n. n.seen) (c.old i (omega (arith, lt, within)));
        numbers = λ i slot lt. same i slot (omega (arith, lt, within));
      }

  copied_tree : IsTree ms (length ms)
  copied_tree =
      let g = copied_forest ns ms a.tree.forest c in
      let within = a.tree.within in
      let more = c.more in
      let low : (i j : ℕ) → i < length ms → j < 16 → 0 < level_of ms i → below ms i j < length ms =
      λ i j it jt up. (g.inner i j (level_of ms i - 1) it jt (omega (arith, up))).0 in
      record {
        forest = g;
        within = omega arith;
        shared = low;
        once = λ i j p q it pt jt qt iup pup far e. let less = low i j it jt iup in absurd (omega (arith, less, far));
        seen = λ i r it e.
            let k = all_alike ns ms a.tree.forest c i it in
            let s = a.tree.seen k.like r k.inside (sym (ap (λ n. n.seen) k.same) ∙ e) in
            let small = s.1 in
            let inside : r < length ns = omega (arith, small, within) in
            (it, omega (arith, inside, more), levels r inside ∙ s.2 ∙ sym (ap (λ n. n.level) k.same));
      }

  level : level_of ms root ≡ level_of ns root
  level = levels root a.inside

  pub copied_arena : IsArena ms (length ms) root kept count declared
  copied_arena =
      let within = a.tree.within in
      let more = c.more in
      record {
        tree = copied_tree;
        base = let base = a.base in omega (arith, base, within, more);
        inside = let inside = a.inside in omega (arith, inside, more);
        few = a.few;
        reach = subst (λ l. count ≤ width l) (sym level) a.reach;
        rows = λ i lt. let r = a.rows i lt in let low = r.0 in (omega (arith, low, within, more), copied_shares.levels _ low ∙ r.1 ∙ sym level);
        keeps = let low = a.keeps.0 in (omega (arith, low, within, more), copied_shares.levels kept low ∙ a.keeps.1 ∙ sym level);
        rest = λ slot from to. ap (λ l. number_at ms l root slot) level ∙ same root slot a.inside ∙ a.rest slot from (subst (λ l. slot < width l) level to);
        rests = λ i slot lt from to.
            let r = a.rows i lt in
            ap (λ l. number_at ms l (get_or declared i 0) slot) (level ∙ sym r.1)
            ∙ copied_shares.numbers _ slot r.0
            ∙ ap (λ l. number_at ns l (get_or declared i 0) slot) r.1
            ∙ a.rests i slot lt from (subst (λ l. slot < width l) level to);
      }

  pub copied_running : row_of ms count root ≡ row_of ns count root
  copied_running = row_same ns ms count root root (level_of ns root) refl level (λ slot. same root slot a.inside)

  like_number : (i slot : ℕ) (lt : i < length ms) (k : IsAlike ns ms i) → number_at ms (level_of ms i) i slot ≡ number_at ns (level_of ns k.like) k.like slot
  like_number i slot lt k =
      ap (λ l. number_at ms l i slot) (ap (λ n. n.level) k.same) ∙ by_level (level_of ns k.like) refl
    where
      by_level : (l : ℕ) → level_of ns k.like ≡ l → number_at ms l i slot ≡ number_at ns l k.like slot
      by_level zero e = ap (λ n. get_or n.numbers (slot % 16) 0) k.same
      by_level (suc l) e =
          let p : ℕ = place_in slot (suc l) in
          let one = a.tree.forest.inner k.like p l k.inside (place_low slot (suc l)) e in
          ap (λ n. number_at ms l (get_or n.numbers p 0) slot) k.same
          ∙ copied_same ns ms a.tree.forest c l (below ns k.like p) slot one.0 one.1

  -- what is known afterwards was known
  pub copied_known : (x y : ℕ) → IsKnown ms x y → IsKnown ns x y
  copied_known x y k =
      let j = all_alike ns ms a.tree.forest c k.node k.inside in
      let within = a.tree.within in
      let seen = sym (ap (λ n. n.seen) j.same) ∙ k.seen in
      let s = a.tree.seen j.like k.fit j.inside seen in
      let small = s.1 in
      let inside : k.fit < length ns = omega (arith, small, within) in
      record {
        node = j.like;
        fit = k.fit;
        slot = k.slot;
        inside = j.inside;
        seen = seen;
        fits = k.fits
            ∙ ap (λ l. number_at ms l k.fit k.slot) (ap (λ n. n.level) j.same ∙ sym s.2)
            ∙ same k.fit k.slot inside
            ∙ ap (λ l. number_at ns l k.fit k.slot) s.2;
        asks = k.asks ∙ like_number k.node k.slot k.inside j;
      }

  -- a row that is said to fit afterwards is said to fit before
  pub said_before : (old new : Rows) (row : ℕ) → rows_of ns root kept count declared ≡ old → IsSaidToFit (rows_of ms root kept count declared) new row → IsSaidToFit old new row
  said_before old new row is s =
      let running : row_of ms count root ≡ old.running = copied_running ∙ ap (λ r. r.running) is in
      let rows : map (row_of ms count) declared ≡ old.declared = declared_same ns ms own root kept count declared a copied_shares ∙ ap (λ r. r.declared) is in
      record {
        running = s.running ∙ running;
        declared = s.declared ∙ rows;
        kept = s.kept ∙ kept_same ns ms own root kept count declared a copied_shares ∙ ap (λ r. r.kept) is;
        settled = λ k lt. s.settled k (let e = ap length running in omega (arith, e, lt));
        only = λ x y h. elim (s.only x y h) [
          | inl k ↦ inl (subst (λ r. Contains r.known (x, y)) is (known_contains ns x y (copied_known x y (contains_known ms x y (length ms) (omega arith) k))))
          | inr either ↦ inr (elim either [
            | inl e ↦ inl e
            | inr stands ↦ inr (subst (λ ds. StandsAt old.running (get_or ds row []) x y) rows (subst (λ xs. StandsAt xs (get_or (map (row_of ms count) declared) row []) x y) running stands))
          ])
        ];
      }
