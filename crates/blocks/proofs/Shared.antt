-- The rows of an arena whose own nodes were given back, and of one in which nodes were put after others.
use Rattle.std.proofs.Common.{◌≡◌, ◌∙◌, ℕ, zero, suc, ◌-◌, ◌<◌, ◌≤◌, inl, inr, ◌++◌, false, cond, List, [], ◌∷◌, map, take, length, get_or, Some, None, refl, sym, ap, subst, arith}
use Rattle.std.specs.Prelude.{nat_eq}
use Rattle.std.proofs.lemmas.Bool.{cases_lt}
use Rattle.std.proofs.lemmas.Bool.Decides.{nat_tests}
use Rattle.std.proofs.lemmas.List.{append-nil, ext_get_or, get_or-take, length-map, length-take-le}
use Rattle.blocks.specs.Rows.{replaced}
use Rattle.blocks.specs.declared.node.Node.{Node}
use Rattle.blocks.specs.private.Trees.{no_node, node_at, level_of, below, number_at, width, IsTree, NotesOnly, SharesSame}
use Rattle.blocks.specs.private.Arenas.{row_of, pairs_of, known_pairs, rows_of, IsArena}
use Rattle.blocks.specs.private.Replacing.{IsReplaced, Grows}
use Rattle.blocks.proofs.Trees.{closed_below, number_same}
use Rattle.blocks.proofs.Arenas.{row_length, row_slot, row_same, rows_same, known_below, known_same, declared_same, kept_same, frozen}
use Rattle.blocks.proofs.Noting.{noted_numbers}
use Rattle.blocks.proofs.Outcomes.{HoldSame, grown_same}

-- shared nodes hold what they held
pub shared_hold : (ns ms : List Node) (own : ℕ) → SharesSame ns ms own → HoldSame ns ms own
shared_hold ns ms own s = record { levels = s.levels; numbers = s.numbers }

-- and so do nodes that were only said to fit others
pub noted_hold : (ns ms : List Node) (own root id kept count : ℕ) (declared : List ℕ) → IsArena ns own root kept count declared → NotesOnly ns ms (level_of ns root) root id → HoldSame ns ms own
noted_hold ns ms own root id kept count declared a n =
    let within = a.tree.within in
    record {
      levels = λ i lt. n.levels i;
      numbers = λ i slot lt. noted_numbers ns ms (level_of ns root) root id a.tree.forest n i slot (omega (arith, lt, within));
    }

-- ---- own nodes are given back

module _ (ns : List Node) (own root kept count : ℕ) (declared : List ℕ) (a : IsArena ns own root kept count declared) where
  cut_node : (i : ℕ) → i < own → node_at (take own ns) i ≡ node_at ns i
  cut_node i lt = get_or-take own ns i no_node lt

  cut_length : length (take own ns) ≡ own
  cut_length = length-take-le own ns a.tree.within

  pub cut_shares : SharesSame ns (take own ns) own
  cut_shares = record {
    levels = λ i lt. ap (λ n. n.level) (cut_node i lt);
    seen = λ i lt. ap (λ n. n.seen) (cut_node i lt);
    numbers = λ i slot lt. number_same ns (take own ns) own (closed_below ns own a.tree) (λ j h. ap (λ n. n.numbers) (cut_node j h)) (level_of ns i) i slot lt refl;
  }

  cut_below : (i j : ℕ) → i < own → below (take own ns) i j ≡ below ns i j
  cut_below i j lt = ap (λ n. get_or n.numbers j 0) (cut_node i lt)

  pub cut_tree : IsTree (take own ns) own
  cut_tree =
      let t = a.tree in
      let within = t.within in
      let long = cut_length in
      let here : (i : ℕ) → i < length (take own ns) → i < own = λ i it. omega (arith, it, long) in
      let there : (i : ℕ) → i < own → i < length ns = λ i lt. omega (arith, lt, within) in
      let low : (i j : ℕ) → i < own → j < 16 → 0 < level_of (take own ns) i → below (take own ns) i j < own =
      λ i j lt jt up.
      let e = cut_shares.levels i lt in
      let less = t.shared i j lt jt (omega (arith, e, up)) in
      let same = cut_below i j lt in
      omega (arith, less, same) in
      record {
        forest = record {
          few = let few = t.forest.few in omega (arith, few, long, within);
          wide = λ i it. ap (λ n. length n.numbers) (cut_node i (here i it)) ∙ t.forest.wide i (there i (here i it));
          low = λ i it. let e = cut_shares.levels i (here i it) in let k = t.forest.low i (there i (here i it)) in omega (arith, e, k);
          inner = λ i j level it jt e.
              let lt = here i it in
              let one = closed_below ns own t i j level lt jt (sym (cut_shares.levels i lt) ∙ e) in
              let same = cut_below i j lt in
              let less = one.0 in
              (omega (arith, same, less, long), ap (level_of (take own ns)) same ∙ cut_shares.levels (below ns i j) less ∙ one.1);
        };
        within = omega (arith, long);
        shared = low;
        once = λ i j p q it pt jt qt iup pup far e. let less = low i j (here i it) jt iup in absurd (omega (arith, less, far));
        seen = λ i r it e.
            let lt = here i it in
            let s = t.seen i r (there i lt) (sym (cut_shares.seen i lt) ∙ e) in
            (s.0, s.1, cut_shares.levels r s.1 ∙ s.2 ∙ sym (cut_shares.levels i lt));
      }

  module _ (row id : ℕ) (lt : row < length declared) (at : id ≡ get_or declared row 0) where
    id_low : id < own
    id_low = let low = (a.rows row lt).0 in omega (arith, low, at)

    id_level : level_of ns id ≡ level_of ns root
    id_level = ap (level_of ns) at ∙ (a.rows row lt).1

    now_level : level_of (take own ns) id ≡ level_of ns root
    now_level = cut_shares.levels id id_low ∙ id_level

    pub taken_arena : IsArena (take own ns) own id kept count declared
    taken_arena = record {
      tree = cut_tree;
      base = a.base;
      inside = let low = id_low in let long = cut_length in omega (arith, low, long);
      few = a.few;
      reach = subst (λ l. count ≤ width l) (sym now_level) a.reach;
      rows = λ i less. let r = a.rows i less in (r.0, cut_shares.levels _ r.0 ∙ r.1 ∙ sym now_level);
      keeps = (a.keeps.0, cut_shares.levels kept a.keeps.0 ∙ a.keeps.1 ∙ sym now_level);
      rest = λ slot from to.
          ap (λ l. number_at (take own ns) l id slot) (now_level ∙ sym id_level)
          ∙ cut_shares.numbers id slot id_low
          ∙ ap (λ l. number_at ns l id slot) id_level
          ∙ ap (λ n. number_at ns (level_of ns root) n slot) at
          ∙ a.rests row slot lt from (subst (λ l. slot < width l) now_level to);
      rests = λ i slot less from to.
          let r = a.rows i less in
          ap (λ l. number_at (take own ns) l (get_or declared i 0) slot) (now_level ∙ sym r.1)
          ∙ cut_shares.numbers _ slot r.0
          ∙ ap (λ l. number_at ns l (get_or declared i 0) slot) r.1
          ∙ a.rests i slot less from (subst (λ l. slot < width l) now_level to);
    }

    pub taken_rows : rows_of (take own ns) id kept count declared ≡ record (rows_of ns root kept count declared) { running = row_of ns count id }
    taken_rows = rows_same
        (row_same ns (take own ns) count id id (level_of ns id) refl (cut_shares.levels id id_low) (λ slot. cut_shares.numbers id slot id_low))
        (declared_same ns (take own ns) own root kept count declared a cut_shares)
        (kept_same ns (take own ns) own root kept count declared a cut_shares)
        (known_same ns (take own ns) own a.tree cut_tree cut_shares)

-- ---- nodes are put after others

known_news : (ns ms : List Node) → Grows ns ms → (n : ℕ) → length ns ≤ n → n ≤ length ms → known_pairs ms n ≡ known_pairs ms (length ns)
known_news ns ms g zero le few = ap (known_pairs ms) (let e : 0 ≡ length ns = omega (arith, le) in e)
known_news ns ms g (suc n) le few = elim (cases_lt n (length ns)) [
  | inl less ↦ ap (known_pairs ms) (let e : suc n ≡ length ns = omega (arith, le, less) in e)
  | inr more ↦
      ap (λ o. known_pairs ms n ++ pairs_of ms n o) (g.news n more (omega (arith, few)))
      ∙ append-nil (known_pairs ms n)
      ∙ known_news ns ms g n more (omega (arith, few))
]

module _ (ns ms : List Node) (own root kept count : ℕ) (declared : List ℕ) (a : IsArena ns own root kept count declared) (g : Grows ns ms) where
  same : HoldSame ns ms (length ns)
  same = grown_same ns ms a.tree.forest g

  grown_shares : SharesSame ns ms (length ns)
  grown_shares = record { levels = same.levels; seen = λ i lt. ap (λ n. n.seen) (g.old i lt); numbers = same.numbers }

  own_shares : SharesSame ns ms own
  own_shares =
      let within = a.tree.within in
      record {
        levels = λ i lt. same.levels i (omega (arith, lt, within));
        seen = λ i lt. grown_shares.seen i (omega (arith, lt, within));
        numbers = λ i slot lt. same.numbers i slot (omega (arith, lt, within));
      }

  grown_tree : IsTree ms (length ms)
  grown_tree =
      let low : (i j : ℕ) → i < length ms → j < 16 → 0 < level_of ms i → below ms i j < length ms =
      λ i j it jt up. (g.forest.inner i j (level_of ms i - 1) it jt (omega (arith, up))).0 in
      record {
        forest = g.forest;
        within = omega arith;
        shared = low;
        once = λ i j p q it pt jt qt iup pup far e. let less = low i j it jt iup in absurd (omega (arith, less, far));
        seen = λ i r it e. elim (cases_lt i (length ns)) [
          | inl less ↦
              (let within = a.tree.within in
              let more = g.more in
              let s = a.tree.seen i r less (sym (grown_shares.seen i less) ∙ e) in
              let small : r < own = s.1 in
              (it, omega (arith, small, within, more), same.levels r (omega (arith, small, within)) ∙ s.2 ∙ sym (same.levels i less)))
          | inr past ↦ (let none : None ≡ Some r = sym (g.news i past it) ∙ e in absurd (let z = none in cc))
        ];
      }

  grown_known : known_pairs ms (length ms) ≡ known_pairs ns (length ns)
  grown_known =
      known_news ns ms g (length ms) g.more (omega arith)
      ∙ known_below ns ms (length ns) (frozen ns own a.tree) grown_shares (length ns) (omega arith)

  -- a row of the arena's level becomes the running one
  module _ (now : ℕ) (inside : now < length ms) (level : level_of ms now ≡ level_of ns root)
      (rest : (slot : ℕ) → count ≤ slot → slot < width (level_of ns root) → number_at ms (level_of ns root) now slot ≡ 0) where
    pub grown_arena : IsArena ms (length ms) now kept count declared
    grown_arena =
        let within = a.tree.within in
        let more = g.more in
        record {
          tree = grown_tree;
          base = let base = a.base in omega (arith, base, within, more);
          inside = inside;
          few = a.few;
          reach = subst (λ l. count ≤ width l) (sym level) a.reach;
          rows = λ i less. let r = a.rows i less in let low = r.0 in (omega (arith, low, within, more), own_shares.levels _ low ∙ r.1 ∙ sym level);
          keeps = let low = a.keeps.0 in (omega (arith, low, within, more), own_shares.levels kept low ∙ a.keeps.1 ∙ sym level);
          rest = λ slot from to. ap (λ l. number_at ms l now slot) level ∙ rest slot from (subst (λ l. slot < width l) level to);
          rests = λ i slot less from to.
              let r = a.rows i less in
              ap (λ l. number_at ms l (get_or declared i 0) slot) (level ∙ sym r.1)
              ∙ own_shares.numbers _ slot r.0
              ∙ ap (λ l. number_at ns l (get_or declared i 0) slot) r.1
              ∙ a.rests i slot less from (subst (λ l. slot < width l) level to);
        }

    pub grown_rows : (running : List ℕ) → row_of ms count now ≡ running → rows_of ms now kept count declared ≡ record (rows_of ns root kept count declared) { running = running }
    grown_rows running e = rows_same e
        (declared_same ns ms own root kept count declared a own_shares)
        (kept_same ns ms own root kept count declared a own_shares)
        grown_known

  -- the running row stays
  pub same_level : level_of ms root ≡ level_of ns root
  same_level = same.levels root a.inside

  pub same_inside : root < length ms
  same_inside = let inside = a.inside in let more = g.more in omega (arith, inside, more)

  pub same_rest : (slot : ℕ) → count ≤ slot → slot < width (level_of ns root) → number_at ms (level_of ns root) root slot ≡ 0
  same_rest slot from to = same.numbers root slot a.inside ∙ a.rest slot from to

  pub same_row : row_of ms count root ≡ row_of ns count root
  same_row = row_same ns ms count root root (level_of ns root) refl same_level (λ slot. same.numbers root slot a.inside)

  -- a number is replaced by another
  module _ (number by now : ℕ) (is : IsReplaced ms (length ms) root number by now) (high : 0 < number) where
    pub other_level : level_of ms now ≡ level_of ns root
    other_level = is.alike ∙ same_level

    other_number : (slot : ℕ) → number_at ms (level_of ns root) now slot ≡ replaced number by (number_at ns (level_of ns root) root slot)
    other_number slot =
        ap (λ l. number_at ms l now slot) (sym same_level)
        ∙ is.numbers slot
        ∙ ap (λ l. replaced number by (number_at ms l root slot)) same_level
        ∙ ap (replaced number by) (same.numbers root slot a.inside)

    pub other_rest : (slot : ℕ) → count ≤ slot → slot < width (level_of ns root) → number_at ms (level_of ns root) now slot ≡ 0
    other_rest slot from to =
        other_number slot
        ∙ ap (replaced number by) (a.rest slot from to)
        ∙ ap (λ b. cond b by 0) (let e : nat_eq 0 number ≡ false = grind (arith, nat_tests) in e)

    pub other_row : row_of ms count now ≡ map (replaced number by) (row_of ns count root)
    other_row =
        ext_get_or 0 _ _
        (row_length ms count now ∙ sym (length-map (row_of ns count root) (replaced number by) ∙ row_length ns count root))
        (λ k less.
        let few : k < count = let e = row_length ms count now in omega (arith, e, less) in
        row_slot ms count now k few
        ∙ ap (λ l. number_at ms l now k) other_level
        ∙ other_number k
        ∙ sym (ap (replaced number by) (row_slot ns count root k few))
        ∙ sym (mapped (replaced number by) (row_of ns count root) k (let e = row_length ns count root in omega (arith, e, few))))
      where
        mapped : (f : ℕ → ℕ) (xs : List ℕ) (i : ℕ) → i < length xs → get_or (map f xs) i 0 ≡ f (get_or xs i 0)
        mapped f [] i lt = absurd (omega (arith, lt))
        mapped f (x ∷ xs) zero lt = refl
        mapped f (x ∷ xs) (suc i) lt = mapped f xs i (omega (arith, lt))
