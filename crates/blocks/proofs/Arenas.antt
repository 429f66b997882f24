-- The rows of a method by the slots of its trees.
use Rattle.std.proofs.Common.{◌≡◌, ◌∙◌, ℕ, zero, suc, ◌+◌, ◌-◌, ◌*◌, ◌%◌, ◌<◌, ◌≤◌, ◌^◌, ◌⊎◌, inl, inr, true, ◌||◌, eq-eqb, List, [], ◌∷◌, ◌++◌, map, length, get_or, set, replicate, Option, Some, None, refl, sym, ap, subst, arith, add-one, length-append, length-set, get_or-set_same, get_or-set_other}
use Rattle.std.specs.Prelude.{nat_eq, IsTrue, is_none}
use Rattle.std.specs.List.{range_with_len, Contains}
use Rattle.std.proofs.lemmas.List.{length-map, append-nil, ext_get_or, get_or_append_left, get_or_at, get_or_past, get_or-replicate, length-replicate}
use Rattle.std.proofs.lemmas.List.Elements.{Contains-append_left, Contains-append_right, Contains-append_cases}
use Rattle.std.proofs.lemmas.Nat.{pow_pos, mod_below}
use Rattle.std.proofs.Math.Nat.{mod-eq_of_lt}
use Rattle.std.proofs.lemmas.Bool.{cases_eq, cases_lt, or_right}
use Rattle.std.proofs.lemmas.List.FromFn.{length-map-range_with_len, get_or-map-range_with_len}
use Rattle.blocks.specs.declared.node.Node.{Node}
use Rattle.blocks.specs.Rows.{Rows, declared_row, AreEqualBetween, is_decided, IsSettled, IsFirstUndecided, IsFirstUnequal, StandsAt, IsSaidToFit}
use Rattle.blocks.specs.private.Trees.{node_at, level_of, below, number_at, width, IsTree, IsPut, IsKnown, IsSettledBelow, IsFirstUndecidedBelow, IsEqualBelow, IsFirstUnequalBelow, Keeps, SharesSame, NotesOnly, IsKnownToFit}
use Rattle.blocks.specs.private.Arenas.{row_of, pairs_of, known_pairs, rows_of, IsArena, AreEmpty}
use Rattle.blocks.proofs.Places.{number_modulo}
use Rattle.blocks.specs.private.Blocks.{place_in}
use Rattle.blocks.proofs.Trees.{place_low}
use Rattle.blocks.proofs.Noting.{noted_numbers, noted_below, noted_forest}
use Rattle.blocks.proofs.Putting.{shares_kept}
use Rattle.blocks.proofs.Remembered.{remembered_known}

pub row_length : (ns : List Node) (count id : ℕ) → length (row_of ns count id) ≡ count
row_length ns count id = length-map-range_with_len (number_at ns (level_of ns id) id) 0 count

pub row_slot : (ns : List Node) (count id slot : ℕ) → slot < count → get_or (row_of ns count id) slot 0 ≡ number_at ns (level_of ns id) id slot
row_slot ns count id slot lt = get_or-map-range_with_len (number_at ns (level_of ns id) id) 0 count slot slot 0 lt (omega arith)

map_at : (f : ℕ → List ℕ) (ids : List ℕ) (i : ℕ) → i < length ids → get_or (map f ids) i [] ≡ f (get_or ids i 0)
map_at f [] i lt = absurd (omega (arith, lt))
map_at f (x ∷ ids) zero lt = refl
map_at f (x ∷ ids) (suc i) lt = map_at f ids i (omega (arith, lt))

module _ (ns : List Node) (root kept count : ℕ) (declared : List ℕ) (rows : Rows) (is : rows_of ns root kept count declared ≡ rows) where
  pub running_length : length rows.running ≡ count
  running_length = ap (λ r. length r.running) (sym is) ∙ row_length ns count root

  pub declared_length : length rows.declared ≡ length declared
  declared_length = ap (λ r. length r.declared) (sym is) ∙ length-map declared (row_of ns count)

  pub running_slot : (slot : ℕ) → slot < length rows.running → get_or rows.running slot 0 ≡ number_at ns (level_of ns root) root slot
  running_slot slot lt = ap (λ r. get_or r.running slot 0) (sym is) ∙ row_slot ns count root slot (let e = running_length in omega (arith, e, lt))

  pub declared_is : (row : ℕ) → row < length rows.declared → declared_row rows row ≡ row_of ns count (get_or declared row 0)
  declared_is row lt = ap (λ r. get_or r.declared row []) (sym is) ∙ map_at (row_of ns count) declared row (let e = declared_length in omega (arith, e, lt))

  pub declared_slot : (row slot : ℕ) → row < length rows.declared → slot < length rows.running
      → get_or (declared_row rows row) slot 0 ≡ number_at ns (level_of ns (get_or declared row 0)) (get_or declared row 0) slot
  declared_slot row slot lt less = ap (λ r. get_or r slot 0) (declared_is row lt) ∙ row_slot ns count (get_or declared row 0) slot (let e = running_length in omega (arith, e, less))

-- ---- rows that hold the same

map_range_same : {X : Type 0} (f g : ℕ → X) → ((k : ℕ) → f k ≡ g k) → (a n : ℕ) → map f (range_with_len a n) ≡ map g (range_with_len a n)
map_range_same f g h a zero = refl
map_range_same f g h a (suc n) = ap (λ x. x ∷ map f (range_with_len (a + 1) n)) (h a) ∙ ap (λ xs. g a ∷ xs) (map_range_same f g h (a + 1) n)

map_same : (f g : ℕ → List ℕ) (ids : List ℕ) → ((i : ℕ) → i < length ids → f (get_or ids i 0) ≡ g (get_or ids i 0)) → map f ids ≡ map g ids
map_same f g [] h = refl
map_same f g (x ∷ ids) h =
    ap (λ y. y ∷ map f ids) (h 0 (omega arith))
    ∙ ap (λ ys. g x ∷ ys) (map_same f g ids (λ i lt. let e = h (i + 1) (omega (arith, lt)) in rw add-one at e))

pub row_same : (ns ms : List Node) (count id id' level : ℕ) → level_of ns id ≡ level → level_of ms id' ≡ level
    → ((slot : ℕ) → number_at ms level id' slot ≡ number_at ns level id slot) → row_of ms count id' ≡ row_of ns count id
row_same ns ms count id id' level e k h =
    map_range_same (number_at ms (level_of ms id') id') (number_at ns (level_of ns id) id)
    (λ slot. ap (λ l. number_at ms l id' slot) k ∙ h slot ∙ ap (λ l. number_at ns l id slot) (sym e)) 0 count

pub rows_same : {a a' d d' : List ℕ} {b b' : List (List ℕ)} {c c' : List (ℕ × ℕ)} → a ≡ a' → b ≡ b' → d ≡ d' → c ≡ c'
    → (let x : Rows = record { running = a; declared = b; kept = d; known = c } in x) ≡ record { running = a'; declared = b'; kept = d'; known = c' }
rows_same {a} {a'} {d} {d'} {b} {b'} {c} {c'} p q t r =
    ap (λ x. let y : Rows = record { running = x; declared = b; kept = d; known = c } in y) p
    ∙ ap (λ x. let y : Rows = record { running = a'; declared = x; kept = d; known = c } in y) q
    ∙ ap (λ x. let y : Rows = record { running = a'; declared = b'; kept = x; known = c } in y) t
    ∙ ap (λ x. let y : Rows = record { running = a'; declared = b'; kept = d'; known = x } in y) r

-- ---- what is known of shared nodes

pairs_same : (ns ms : List Node) (own node : ℕ) → IsTree ns own → SharesSame ns ms own → node < own → (seen : Option ℕ) → (node_at ns node).seen ≡ seen
    → pairs_of ms node seen ≡ pairs_of ns node seen
pairs_same ns ms own node t s lt None e = refl
pairs_same ns ms own node t s lt (Some fit) e =
    let within = t.within in
    let told = t.seen node fit (omega (arith, lt, within)) e in
    let level = s.levels node lt in
    ap (λ l. map (λ slot. (number_at ms l fit slot, number_at ms l node slot)) (range_with_len 0 (width l))) level
    ∙ map_range_same _ _ (λ slot.
    ap (λ a. (a, number_at ms (level_of ns node) node slot))
    (ap (λ l. number_at ms l fit slot) (sym told.2) ∙ s.numbers fit slot told.1 ∙ ap (λ l. number_at ns l fit slot) told.2)
    ∙ ap (λ a. (number_at ns (level_of ns node) fit slot, a)) (s.numbers node slot lt)) 0 (width (level_of ns node))

pub known_below : (ns ms : List Node) (own : ℕ) → IsTree ns own → SharesSame ns ms own → (n : ℕ) → n ≤ own → known_pairs ms n ≡ known_pairs ns n
known_below ns ms own t s zero le = refl
known_below ns ms own t s (suc n) le =
    ap (λ xs. xs ++ pairs_of ms n (node_at ms n).seen) (known_below ns ms own t s n (omega (arith, le)))
    ∙ ap (λ o. known_pairs ns n ++ pairs_of ms n o) (s.seen n (omega (arith, le)))
    ∙ ap (λ xs. known_pairs ns n ++ xs) (pairs_same ns ms own n t s (omega (arith, le)) (node_at ns n).seen refl)

nothing_own : (ns : List Node) (own node : ℕ) → IsTree ns own → own ≤ node → node < length ns → (seen : Option ℕ) → (node_at ns node).seen ≡ seen → pairs_of ns node seen ≡ []
nothing_own ns own node t le lt None e = refl
nothing_own ns own node t le lt (Some fit) e = let low = (t.seen node fit lt e).0 in absurd (omega (arith, low, le))

known_above : (ns : List Node) (own : ℕ) → IsTree ns own → (n : ℕ) → own ≤ n → n ≤ length ns → known_pairs ns n ≡ known_pairs ns own
known_above ns own t zero le few = ap (known_pairs ns) (let e : 0 ≡ own = omega (arith, le) in e)
known_above ns own t (suc n) le few = elim (cases_lt n own) [
  | inl less ↦ ap (known_pairs ns) (let e : suc n ≡ own = omega (arith, le, less) in e)
  | inr more ↦
      ap (λ xs. known_pairs ns n ++ xs) (nothing_own ns own n t more (omega (arith, few)) (node_at ns n).seen refl)
      ∙ append-nil (known_pairs ns n)
      ∙ known_above ns own t n more (omega (arith, few))
]

pub known_same : (ns ms : List Node) (own : ℕ) → IsTree ns own → IsTree ms own → SharesSame ns ms own → known_pairs ms (length ms) ≡ known_pairs ns (length ns)
known_same ns ms own t u s =
    known_above ms own u (length ms) u.within (omega arith)
    ∙ known_below ns ms own t s own (omega arith)
    ∙ sym (known_above ns own t (length ns) t.within (omega arith))

-- ---- what the calls leave

pub declared_same : (ns ms : List Node) (own root kept count : ℕ) (declared : List ℕ) → IsArena ns own root kept count declared → SharesSame ns ms own
    → map (row_of ms count) declared ≡ map (row_of ns count) declared
declared_same ns ms own root kept count declared a s =
    map_same (row_of ms count) (row_of ns count) declared (λ i lt.
    let low = (a.rows i lt).0 in
    row_same ns ms count (get_or declared i 0) (get_or declared i 0) (level_of ns (get_or declared i 0)) refl (s.levels _ low) (λ slot. s.numbers _ slot low))

pub kept_same : (ns ms : List Node) (own root kept count : ℕ) (declared : List ℕ) → IsArena ns own root kept count declared → SharesSame ns ms own
    → row_of ms count kept ≡ row_of ns count kept
kept_same ns ms own root kept count declared a s =
    let low = a.keeps.0 in
    row_same ns ms count kept kept (level_of ns kept) refl (s.levels kept low) (λ slot. s.numbers kept slot low)

module _ (ns ms : List Node) (own root kept count slot number now : ℕ) (declared : List ℕ) (a : IsArena ns own root kept count declared)
    (u : IsTree ms own) (p : IsPut ns ms own root slot number now) (lt : slot < count) where
  put_running : row_of ms count now ≡ set (row_of ns count root) slot number
  put_running =
      ext_get_or 0 _ _
      (row_length ms count now ∙ sym (length-set (row_of ns count root) slot number ∙ row_length ns count root))
      (λ k less.
      let few : k < count = let e = row_length ms count now in omega (arith, e, less) in
      let reach = a.reach in
      row_slot ms count now k few
      ∙ ap (λ l. number_at ms l now k) p.alike
      ∙ elim (cases_eq k slot) [
        | inl e ↦
            ap (number_at ms (level_of ns root) now) e ∙ p.here
            ∙ sym (get_or-set_same (row_of ns count root) slot number 0 (let l = row_length ns count root in omega (arith, l, lt)))
            ∙ ap (λ j. get_or (set (row_of ns count root) slot number) j 0) (sym e)
        | inr ne ↦
            p.others k (omega (arith, few, reach)) ne
            ∙ sym (row_slot ns count root k few)
            ∙ sym (get_or-set_other (row_of ns count root) slot k number 0 ne)
      ])

  pub put_rows : rows_of ms now kept count declared ≡ record (rows_of ns root kept count declared) { running = set (row_of ns count root) slot number }
  put_rows = rows_same put_running (declared_same ns ms own root kept count declared a p.shared) (kept_same ns ms own root kept count declared a p.shared) (known_same ns ms own a.tree u p.shared)

  pub put_arena : IsArena ms own now kept count declared
  put_arena = record {
    tree = u;
    base = a.base;
    inside = p.inside;
    few = a.few;
    reach = subst (λ l. count ≤ width l) (sym p.alike) a.reach;
    rows = λ i less. let r = a.rows i less in (r.0, p.shared.levels _ r.0 ∙ r.1 ∙ sym p.alike);
    keeps = (a.keeps.0, p.shared.levels kept a.keeps.0 ∙ a.keeps.1 ∙ sym p.alike);
    rest = λ k from to.
        let inside : k < width (level_of ns root) = subst (λ l. k < width l) p.alike to in
        ap (λ l. number_at ms l now k) p.alike
        ∙ p.others k inside (λ e. omega (arith, e, from, lt))
        ∙ a.rest k from inside;
    rests = λ i k less from to.
        let inside : k < width (level_of ns root) = subst (λ l. k < width l) p.alike to in
        let r = a.rows i less in
        ap (λ l. number_at ms l (get_or declared i 0) k) (p.alike ∙ sym r.1)
        ∙ p.shared.numbers _ k r.0
        ∙ ap (λ l. number_at ns l (get_or declared i 0) k) r.1
        ∙ a.rests i k less from inside;
  }

module _ (ns ms : List Node) (own root kept count : ℕ) (declared : List ℕ) (a : IsArena ns own root kept count declared)
    (u : IsTree ms own) (k : Keeps ns ms (level_of ns root)) where
  shared : SharesSame ns ms own
  shared = shares_kept ns ms own (level_of ns root) a.tree.within k

  level : level_of ms root ≡ level_of ns root
  level = k.levels root a.inside

  pub kept_rows : rows_of ms root kept count declared ≡ rows_of ns root kept count declared
  kept_rows = rows_same
      (row_same ns ms count root root (level_of ns root) refl level (λ slot. k.numbers root slot a.inside))
      (declared_same ns ms own root kept count declared a shared)
      (kept_same ns ms own root kept count declared a shared)
      (known_same ns ms own a.tree u shared)

  pub kept_arena : IsArena ms own root kept count declared
  kept_arena = record {
    tree = u;
    base = a.base;
    inside = let more = k.more in let inside = a.inside in omega (arith, more, inside);
    few = a.few;
    reach = subst (λ l. count ≤ width l) (sym level) a.reach;
    rows = λ i less. let r = a.rows i less in (r.0, shared.levels _ r.0 ∙ r.1 ∙ sym level);
    keeps = (a.keeps.0, shared.levels kept a.keeps.0 ∙ a.keeps.1 ∙ sym level);
    rest = λ slot from to.
        ap (λ l. number_at ms l root slot) level ∙ k.numbers root slot a.inside ∙ a.rest slot from (subst (λ l. slot < width l) level to);
    rests = λ i slot less from to.
        let r = a.rows i less in
        ap (λ l. number_at ms l (get_or declared i 0) slot) (level ∙ sym r.1)
        ∙ shared.numbers _ slot r.0
        ∙ ap (λ l. number_at ns l (get_or declared i 0) slot) r.1
        ∙ a.rests i slot less from (subst (λ l. slot < width l) level to);
  }

-- ---- all nodes are shared

pub frozen : (ns : List Node) (own : ℕ) → IsTree ns own → IsTree ns (length ns)
frozen ns own t =
    let within = t.within in
    let low : (i j : ℕ) → i < length ns → j < 16 → 0 < level_of ns i → below ns i j < length ns =
    λ i j it jt up. (t.forest.inner i j (level_of ns i - 1) it jt (omega (arith, up))).0 in
    record {
      forest = t.forest;
      within = omega arith;
      shared = low;
      once = λ i j p q it pt jt qt iup pup far e. let less = low i j it jt iup in absurd (omega (arith, less, far));
      seen = λ i r it e. let s = t.seen i r it e in let less = s.1 in (it, omega (arith, less, within), s.2);
    }

pub declared_arena : (ns : List Node) (own root kept count : ℕ) (declared : List ℕ) → IsArena ns own root kept count declared → IsArena ns (length ns) root kept count (declared ++ root ∷ [])
declared_arena ns own root kept count declared a =
    let within = a.tree.within in
    let long = length-append declared (root ∷ []) in
    let at : (i : ℕ) → i < length (declared ++ root ∷ []) → (get_or (declared ++ root ∷ []) i 0 ≡ root) ⊎ ((i < length declared) × (get_or (declared ++ root ∷ []) i 0 ≡ get_or declared i 0)) =
    λ i lt. elim (cases_lt i (length declared)) [
      | inl less ↦ inr (less, get_or_append_left declared (root ∷ []) 0 i less)
      | inr more ↦ inl (get_or_at declared root [] 0 i (let e : length declared ≡ i = omega (arith, long, lt, more) in e))
    ] in
    record {
      tree = frozen ns own a.tree;
      base = let base = a.base in omega (arith, base, within);
      inside = a.inside;
      few = a.few;
      reach = a.reach;
      rows = λ i lt. elim (at i lt) [
        | inl e ↦ let inside = a.inside in (omega (arith, e, inside), ap (level_of ns) e)
        | inr e ↦ let r = a.rows i e.0 in let low = r.0 in let same = e.1 in (omega (arith, low, same, within), ap (level_of ns) e.1 ∙ r.1)
      ];
      keeps = let low = a.keeps.0 in (omega (arith, low, within), a.keeps.1);
      rest = a.rest;
      rests = λ i slot lt from to. elim (at i lt) [
        | inl e ↦ ap (λ n. number_at ns (level_of ns root) n slot) e ∙ a.rest slot from to
        | inr e ↦ ap (λ n. number_at ns (level_of ns root) n slot) e.1 ∙ a.rests i slot e.0 from to
      ];
    }

-- the running row is kept
pub keeping_arena : (ns : List Node) (own root kept count : ℕ) (declared : List ℕ) → IsArena ns own root kept count declared → IsArena ns (length ns) root root count declared
keeping_arena ns own root kept count declared a =
    let within = a.tree.within in
    record {
      tree = frozen ns own a.tree;
      base = let base = a.base in omega (arith, base, within);
      inside = a.inside;
      few = a.few;
      reach = a.reach;
      rows = λ i lt. let r = a.rows i lt in let low = r.0 in (omega (arith, low, within), r.1);
      keeps = (a.inside, refl);
      rest = a.rest;
      rests = a.rests;
    }

-- ---- what is known, as pairs

known_pair : (ns : List Node) (a b : ℕ) (k : IsKnown ns a b) → Contains (pairs_of ns k.node (Some k.fit)) (a, b)
known_pair ns a b k =
    let level : ℕ = level_of ns k.node in
    let w : ℕ = width level in
    let slot : ℕ = k.slot % w in
    let low : slot < w = mod_below k.slot w (pow_pos (4 + 4 * level)) in
    let same : k.slot % w ≡ slot % w = sym (mod-eq_of_lt low) in
    let f : ℕ → ℕ × ℕ = λ s. (number_at ns level k.fit s, number_at ns level k.node s) in
    let long = length-map-range_with_len f 0 w in (
      slot,
      omega (arith, long, low),
      get_or-map-range_with_len f 0 w slot slot (a, b) low (omega arith)
          ∙ ap (λ x. let p : ℕ × ℕ = (x, number_at ns level k.node slot) in p) (sym (number_modulo ns level k.fit k.slot slot same) ∙ sym k.fits)
          ∙ ap (λ x. let p : ℕ × ℕ = (a, x) in p) (sym (number_modulo ns level k.node k.slot slot same) ∙ sym k.asks),
    )

known_up_to : (ns : List Node) (a b : ℕ) (k : IsKnown ns a b) (n : ℕ) → k.node < n → Contains (known_pairs ns n) (a, b)
known_up_to ns a b k zero lt = absurd (omega (arith, lt))
known_up_to ns a b k (suc n) lt = elim (cases_lt k.node n) [
  | inl less ↦ Contains-append_left (known_pairs ns n) (pairs_of ns n (node_at ns n).seen) (a, b) (known_up_to ns a b k n less)
  | inr more ↦
      let e : k.node ≡ n = omega (arith, lt, more) in
      Contains-append_right (known_pairs ns n) (pairs_of ns n (node_at ns n).seen) (a, b)
      (subst (λ i. Contains (pairs_of ns i (node_at ns i).seen) (a, b)) e
      (subst (λ o. Contains (pairs_of ns k.node o) (a, b)) (sym k.seen) (known_pair ns a b k)))
]

pub known_contains : (ns : List Node) (a b : ℕ) → IsKnown ns a b → Contains (known_pairs ns (length ns)) (a, b)
known_contains ns a b k = known_up_to ns a b k (length ns) k.inside

pair_known : (ns : List Node) (a b node : ℕ) → node < length ns → (seen : Option ℕ) → (node_at ns node).seen ≡ seen → Contains (pairs_of ns node seen) (a, b) → IsKnown ns a b
pair_known ns a b node lt None e h = let low = h.1 in absurd (omega (arith, low))
pair_known ns a b node lt (Some fit) e h =
    let level : ℕ = level_of ns node in
    let f : ℕ → ℕ × ℕ = λ s. (number_at ns level fit s, number_at ns level node s) in
    let long = length-map-range_with_len f 0 (width level) in
    let less = h.1 in
    let is : f h.0 ≡ (a, b) = sym (get_or-map-range_with_len f 0 (width level) h.0 h.0 (a, b) (omega (arith, less, long)) (omega arith)) ∙ h.2 in
    record { node = node; fit = fit; slot = h.0; inside = lt; seen = e; fits = sym (ap (λ p. p.0) is); asks = sym (ap (λ p. p.1) is) }

pub contains_known : (ns : List Node) (a b n : ℕ) → n ≤ length ns → Contains (known_pairs ns n) (a, b) → IsKnown ns a b
contains_known ns a b zero few h = let low = h.1 in absurd (omega (arith, low))
contains_known ns a b (suc n) few h = elim (Contains-append_cases (known_pairs ns n) (pairs_of ns n (node_at ns n).seen) (a, b) h) [
  | inl k ↦ contains_known ns a b n (omega (arith, few)) k
  | inr k ↦ pair_known ns a b n (omega (arith, few)) (node_at ns n).seen refl k
]

-- ---- slots that are settled

module _ (ns : List Node) (own root kept count : ℕ) (declared : List ℕ) (rows : Rows) (a : IsArena ns own root kept count declared)
    (is : rows_of ns root kept count declared ≡ rows) (row id : ℕ) (lt : row < length rows.declared) (at : id ≡ get_or declared row 0) where
  pub id_level : level_of ns id ≡ level_of ns root
  id_level =
      let long = declared_length ns root kept count declared rows is in
      ap (level_of ns) at ∙ (a.rows row (omega (arith, long, lt))).1

  pub wanted_slot : (slot : ℕ) → slot < length rows.running → get_or (declared_row rows row) slot 0 ≡ number_at ns (level_of ns root) id slot
  wanted_slot slot less =
      declared_slot ns root kept count declared rows is row slot lt less
      ∙ ap (λ n. number_at ns (level_of ns n) n slot) (sym at)
      ∙ ap (λ l. number_at ns l id slot) id_level

  pub settled : (slot : ℕ) → slot < length rows.running → IsSettledBelow ns (level_of ns root) root id slot → IsSettled rows row slot
  settled slot less (inl e) =
      inl (ap (λ n. is_decided n (get_or (declared_row rows row) slot 0)) (running_slot ns root kept count declared rows is slot less)
      ∙ ap (is_decided (number_at ns (level_of ns root) root slot)) (wanted_slot slot less) ∙ e)
  settled slot less (inr k) =
      let known = known_contains ns _ _ k in
      inr (subst (λ xs. Contains xs (get_or rows.running slot 0, get_or (declared_row rows row) slot 0)) (ap (λ r. r.known) is)
      (subst (λ n. Contains (known_pairs ns (length ns)) (n, get_or (declared_row rows row) slot 0)) (sym (running_slot ns root kept count declared rows is slot less))
      (subst (λ n. Contains (known_pairs ns (length ns)) (number_at ns (level_of ns root) root slot, n)) (sym (wanted_slot slot less)) known)))

  pub first_undecided : (from : ℕ) (result : Option ℕ) → IsFirstUndecidedBelow ns (level_of ns root) root id from count result → IsFirstUndecided rows row from result
  first_undecided from None h =
      let long = running_length ns root kept count declared rows is in
      λ k ahead less. settled k less (h k ahead (omega (arith, less, long)))
  first_undecided from (Some slot) h =
      let long = running_length ns root kept count declared rows is in
      let less = h.1 in
      let inside : slot < length rows.running = omega (arith, less, long) in (
        h.0,
        inside,
        ap (λ n. is_decided n (get_or (declared_row rows row) slot 0)) (running_slot ns root kept count declared rows is slot inside)
            ∙ ap (is_decided (number_at ns (level_of ns root) root slot)) (wanted_slot slot inside) ∙ h.2,
        λ k ahead low. settled k (omega (arith, low, inside)) (h.3 k ahead low),
      )

-- ---- rows that differ

module _ (ns : List Node) (level id other count : ℕ) (a b : List ℕ) (long : length a ≡ count)
    (left : (k : ℕ) → k < count → get_or a k 0 ≡ number_at ns level id k) (right : (k : ℕ) → k < count → get_or b k 0 ≡ number_at ns level other k) where
  alike : (k : ℕ) → k < count → IsEqualBelow ns level id other k → get_or a k 0 ≡ get_or b k 0
  alike k less e = left k less ∙ e ∙ sym (right k less)

  pub first_unequal : (from : ℕ) (result : Option ℕ) → IsFirstUnequalBelow ns level id other from count result → IsFirstUnequal a b from result
  first_unequal from None h = λ k ahead less. let low : k < count = omega (arith, less, long) in alike k low (h k ahead low)
  first_unequal from (Some slot) h =
      let less : slot < count = h.1 in (
        h.0,
        omega (arith, less, long),
        λ e. h.2 (sym (left slot less) ∙ e ∙ right slot less),
        λ k ahead low. alike k (omega (arith, low, less)) (h.3 k ahead low),
      )

module _ (ns : List Node) (own root kept count : ℕ) (declared : List ℕ) (rows : Rows) (a : IsArena ns own root kept count declared)
    (is : rows_of ns root kept count declared ≡ rows) where
  long : length rows.running ≡ count
  long = running_length ns root kept count declared rows is

  slot_of : (row id : ℕ) → row < length rows.declared → id ≡ get_or declared row 0
      → (k : ℕ) → k < count → get_or (declared_row rows row) k 0 ≡ number_at ns (level_of ns root) id k
  slot_of row id lt at k less = wanted_slot ns own root kept count declared rows a is row id lt at k (omega (arith, less, long))

  row_long : (row : ℕ) → row < length rows.declared → length (declared_row rows row) ≡ count
  row_long row lt = ap length (declared_is ns root kept count declared rows is row lt) ∙ row_length ns count (get_or declared row 0)

  pub kept_long : length rows.kept ≡ count
  kept_long = ap (λ r. length r.kept) (sym is) ∙ row_length ns count kept

  pub first_changed : (from : ℕ) (result : Option ℕ) → IsFirstUnequalBelow ns (level_of ns root) root kept from count result → IsFirstUnequal rows.running rows.kept from result
  first_changed =
      first_unequal ns (level_of ns root) root kept count rows.running rows.kept long
      (λ k less. running_slot ns root kept count declared rows is k (omega (arith, less, long)))
      (λ k less. ap (λ r. get_or r.kept k 0) (sym is) ∙ row_slot ns count kept k less ∙ ap (λ l. number_at ns l kept k) a.keeps.1)

  pub first_unequal_rows : (row id other beside : ℕ) → row < length rows.declared → id ≡ get_or declared row 0 → other < length rows.declared
      → beside ≡ get_or declared other 0 → (result : Option ℕ) → IsFirstUnequalBelow ns (level_of ns id) id beside 0 count result
      → IsFirstUnequal (declared_row rows row) (declared_row rows other) 0 result
  first_unequal_rows row id other beside lt at inside there result h =
      first_unequal ns (level_of ns root) id beside count (declared_row rows row) (declared_row rows other) (row_long row lt)
      (slot_of row id lt at) (slot_of other beside inside there) 0 result
      (subst (λ l. IsFirstUnequalBelow ns l id beside 0 count result) (id_level ns own root kept count declared rows a is row id lt at) h)

  -- two rows hold equal numbers in a range exactly where no slot of the range before their ends is one that differs
  pub equal_rows : (row id other beside : ℕ) → row < length rows.declared → id ≡ get_or declared row 0 → other < length rows.declared → beside ≡ get_or declared other 0
      → (from to end : ℕ) → end ≤ to → end ≤ count → (to ≤ end) ⊎ (count ≤ end) → (result : Option ℕ) → IsFirstUnequalBelow ns (level_of ns id) id beside from end result
      → (IsTrue (is_none result) → AreEqualBetween (declared_row rows row) (declared_row rows other) from to)
      × (AreEqualBetween (declared_row rows row) (declared_row rows other) from to → IsTrue (is_none result))
  equal_rows row id other beside lt at inside there from to end low few last result found =
      by result (subst (λ l. IsFirstUnequalBelow ns l id beside from end result) (id_level ns own root kept count declared rows a is row id lt at) found)
    where
      one : (k : ℕ) → k < count → get_or (declared_row rows row) k 0 ≡ number_at ns (level_of ns root) id k
      one = slot_of row id lt at

      two : (k : ℕ) → k < count → get_or (declared_row rows other) k 0 ≡ number_at ns (level_of ns root) beside k
      two = slot_of other beside inside there

      past : (k : ℕ) → count ≤ k → get_or (declared_row rows row) k 0 ≡ get_or (declared_row rows other) k 0
      past k le =
          let a = row_long row lt in
          let b = row_long other inside in
          get_or_past (declared_row rows row) k 0 (omega (arith, a, le)) ∙ sym (get_or_past (declared_row rows other) k 0 (omega (arith, b, le)))

      by : (result : Option ℕ) → IsFirstUnequalBelow ns (level_of ns root) id beside from end result
          → (IsTrue (is_none result) → AreEqualBetween (declared_row rows row) (declared_row rows other) from to)
          × (AreEqualBetween (declared_row rows row) (declared_row rows other) from to → IsTrue (is_none result))
      by None h = (
        λ t k ahead less. elim (cases_lt k end) [
          | inl lt ↦ (let low : k < count = omega (arith, lt, few) in one k low ∙ h k ahead lt ∙ sym (two k low))
          | inr ge ↦ elim last [
            | inl to_end ↦ absurd (omega (arith, less, ge, to_end))
            | inr count_end ↦ past k (omega (arith, ge, count_end))
          ]
        ],
        λ same. refl,
      )
      by (Some slot) h =
          let less : slot < end = h.1 in
          let inner : slot < count = omega (arith, less, few) in (
            λ t. absurd (cc),
            λ same. absurd (h.2 (sym (one slot inner) ∙ same slot h.0 (omega (arith, less, low)) ∙ two slot inner)),
          )

-- ---- what is said to fit

decided_top : (x : ℕ) → is_decided x 0 ≡ true
decided_top x = or_right (nat_eq x 0) true refl

pub decided_same : (x : ℕ) → is_decided x x ≡ true
decided_same x = ap (λ b. b || nat_eq x 0) (eq-eqb x x refl)

module _ (ns ms : List Node) (own root id kept count : ℕ) (declared : List ℕ) (a : IsArena ns own root kept count declared)
    (n : NotesOnly ns ms (level_of ns root) root id) where
  noted_level : level_of ms root ≡ level_of ns root
  noted_level = n.levels root

  same_numbers : (i slot : ℕ) → i < length ns → number_at ms (level_of ns i) i slot ≡ number_at ns (level_of ns i) i slot
  same_numbers = noted_numbers ns ms (level_of ns root) root id a.tree.forest n

  pub noted_tree : IsTree ms (length ns)
  noted_tree =
      let within = a.tree.within in
      let long = n.long in
      let f = noted_forest ns ms (level_of ns root) root id a.tree.forest n in
      let g = frozen ns own a.tree in
      let under = noted_below ns ms (level_of ns root) root id a.tree.forest n in
      record {
        forest = f;
        within = omega (arith, long);
        shared = λ i j it jt up.
            let low = (f.inner i j (level_of ms i - 1) (omega (arith, it, long)) jt (omega (arith, up))).0 in
            omega (arith, low, long);
        once = λ i j p q it pt jt qt iup pup far e.
            let low = (f.inner i j (level_of ms i - 1) it jt (omega (arith, iup))).0 in
            absurd (omega (arith, low, long, far));
        seen = λ i r it e.
            let lt : i < length ns = omega (arith, it, long) in
            elim (n.seen i lt) [
              | inl s ↦
                  let t = g.seen i r lt (sym s ∙ e) in
                  (t.0, t.1, n.levels r ∙ t.2 ∙ sym (n.levels i))
              | inr p ↦
                  let same : Some r ≡ Some p.fit = sym e ∙ p.seen in
                  let is : r ≡ p.fit = let z = same in cc in
                  let inside = p.inside in
                  (lt, omega (arith, is, inside), n.levels r ∙ ap (level_of ns) is ∙ p.alike ∙ sym (n.levels i))
            ];
      }

  pub noted_arena : IsArena ms (length ns) root kept count declared
  noted_arena =
      let within = a.tree.within in
      let long = n.long in
      record {
        tree = noted_tree;
        base = let base = a.base in omega (arith, base, within);
        inside = let inside = a.inside in omega (arith, inside, long);
        few = a.few;
        reach = subst (λ l. count ≤ width l) (sym noted_level) a.reach;
        rows = λ i lt. let r = a.rows i lt in let low = r.0 in (omega (arith, low, within), n.levels _ ∙ r.1 ∙ sym noted_level);
        keeps = let low = a.keeps.0 in (omega (arith, low, within), n.levels kept ∙ a.keeps.1 ∙ sym noted_level);
        rest = λ slot from to.
            ap (λ l. number_at ms l root slot) noted_level ∙ same_numbers root slot a.inside ∙ a.rest slot from (subst (λ l. slot < width l) noted_level to);
        rests = λ i slot lt from to.
            let r = a.rows i lt in
            let low = r.0 in
            ap (λ l. number_at ms l (get_or declared i 0) slot) (noted_level ∙ sym r.1)
            ∙ same_numbers _ slot (omega (arith, low, within))
            ∙ ap (λ l. number_at ns l (get_or declared i 0) slot) r.1
            ∙ a.rests i slot lt from (subst (λ l. slot < width l) noted_level to);
      }

  pub noted_running : row_of ms count root ≡ row_of ns count root
  noted_running = row_same ns ms count root root (level_of ns root) refl noted_level (λ slot. same_numbers root slot a.inside)

  pub noted_declared : map (row_of ms count) declared ≡ map (row_of ns count) declared
  noted_declared =
      let within = a.tree.within in
      map_same (row_of ms count) (row_of ns count) declared (λ i lt.
      let low = (a.rows i lt).0 in
      row_same ns ms count (get_or declared i 0) (get_or declared i 0) (level_of ns (get_or declared i 0)) refl (n.levels _) (λ slot. same_numbers _ slot (omega (arith, low, within))))

  pub noted_kept : row_of ms count kept ≡ row_of ns count kept
  noted_kept =
      let within = a.tree.within in
      let low = a.keeps.0 in
      row_same ns ms count kept kept (level_of ns kept) refl (n.levels kept) (λ slot. same_numbers kept slot (omega (arith, low, within)))

  module _ (row : ℕ) (lt : row < length declared) (at : id ≡ get_or declared row 0) where
    -- a pair that is known afterwards was known, or is decided, or stands in the two rows
    pub noted_only : (x y : ℕ) → IsKnown ms x y → IsKnown ns x y ⊎ (is_decided x y ≡ true) ⊎ StandsAt (row_of ns count root) (row_of ns count id) x y
    noted_only x y k =
        let within = a.tree.within in
        let long = n.long in
        let inside = k.inside in
        let node : k.node < length ns = omega (arith, inside, long) in
        let is_level : level_of ns id ≡ level_of ns root = ap (level_of ns) at ∙ (a.rows row lt).1 in
        let told = noted_tree.seen k.node k.fit k.inside k.seen in
        let fit_level : level_of ns k.fit ≡ level_of ns k.node = sym (n.levels k.fit) ∙ told.2 ∙ n.levels k.node in
        let first : x ≡ number_at ns (level_of ns k.node) k.fit k.slot =
        k.fits ∙ ap (λ l. number_at ms l k.fit k.slot) (n.levels k.node ∙ sym fit_level) ∙ same_numbers k.fit k.slot told.1
        ∙ ap (λ l. number_at ns l k.fit k.slot) fit_level in
        let second : y ≡ number_at ns (level_of ns k.node) k.node k.slot =
        k.asks ∙ ap (λ l. number_at ms l k.node k.slot) (n.levels k.node) ∙ same_numbers k.node k.slot node in
        elim (n.seen k.node node) [
          | inl s ↦ inl (record { node = k.node; fit = k.fit; slot = k.slot; inside = node; seen = sym s ∙ k.seen; fits = first; asks = second })
          | inr p ↦
              let same : Some k.fit ≡ Some p.fit = sym k.seen ∙ p.seen in
              let is : k.fit ≡ p.fit = let z = same in cc in
              let q = p.parts k.slot in
              let j : ℕ = q.0 in
              let one : x ≡ number_at ns (level_of ns root) root j = first ∙ ap (λ f. number_at ns (level_of ns k.node) f k.slot) is ∙ q.2 in
              let two : y ≡ number_at ns (level_of ns root) id j = second ∙ q.3 in
              elim (cases_lt j count) [
                | inl less ↦ inr (inr (record {
                  slot = j;
                  inside = let l = row_length ns count root in omega (arith, l, less);
                  first = one ∙ sym (row_slot ns count root j less);
                  second = two ∙ ap (λ l. number_at ns l id j) (sym is_level) ∙ sym (row_slot ns count id j less);
                }))
                | inr more ↦
                    let nought : y ≡ 0 = two ∙ ap (λ i. number_at ns (level_of ns root) i j) at ∙ a.rests row j lt more q.1 in
                    inr (inl (ap (is_decided x) nought ∙ decided_top x))
              ]
        ]

    pub noted_said : (rows : Rows) → rows_of ns root kept count declared ≡ rows → IsKnownToFit ms root id → IsSaidToFit rows (rows_of ms root kept count declared) row
    noted_said rows is done =
        let new : Rows = rows_of ms root kept count declared in
        let within = a.tree.within in
        let long = n.long in
        let told = a.rows row lt in
        let low = told.0 in
        let inside : id < length ms = omega (arith, at, low, within, long) in
        let alike : level_of ms id ≡ level_of ms root = n.levels id ∙ ap (level_of ns) at ∙ told.1 ∙ sym noted_level in
        let few = declared_length ms root kept count declared new refl in
        let each : (k : ℕ) → IsSettledBelow ms (level_of ms root) root id k =
        λ k. elim done [
          | inl e ↦ inl (ap (λ i. is_decided (number_at ms (level_of ms root) root k) (number_at ms (level_of ms root) i k)) (sym e) ∙ decided_same (number_at ms (level_of ms root) root k))
          | inr told ↦ inr (elim told [
            | inl e ↦ record {
              node = id;
              fit = root;
              slot = k;
              inside = inside;
              seen = e;
              fits = ap (λ l. number_at ms l root k) (sym alike);
              asks = ap (λ l. number_at ms l id k) (sym alike);
            }
            | inr r ↦ remembered_known ms root id r alike k
          ])
        ] in
        let running : row_of ms count root ≡ rows.running = noted_running ∙ ap (λ r. r.running) is in
        let wanted : row_of ns count id ≡ declared_row rows row =
        ap (row_of ns count) at ∙ sym (declared_is ns root kept count declared rows is row (let e = declared_length ns root kept count declared rows is in omega (arith, e, lt))) in
        record {
          running = running;
          declared = noted_declared ∙ ap (λ r. r.declared) is;
          kept = noted_kept ∙ ap (λ r. r.kept) is;
          settled = λ k less.
              settled ms (length ns) root kept count declared new noted_arena refl row id (omega (arith, few, lt)) at k
              (let e = ap length running in omega (arith, e, less)) (each k);
          only = λ x y h.
              elim (noted_only x y (contains_known ms x y (length ms) (omega arith) h)) [
                | inl k ↦ inl (subst (λ r. Contains r.known (x, y)) is (known_contains ns x y k))
                | inr either ↦ elim either [
                  | inl e ↦ inr (inl e)
                  | inr s ↦ inr (inr (subst (λ xs. StandsAt xs (declared_row rows row) x y) (ap (λ r. r.running) is)
                      (subst (λ xs. StandsAt (row_of ns count root) xs x y) wanted s)))
                ]
              ];
        }

-- ---- an arena of nothing but Top

module _ (ns : List Node) (top count : ℕ) (low : top < 4) (few : count < 2 ^ 16) (wide : count ≤ width top) (e : AreEmpty ns) where
  top_number : (i place : ℕ) → i < 4 → place < 16 → below ns i place ≡ i - 1
  top_number i place lt less = ap (λ n. get_or n.numbers place 0) (e.node i lt) ∙ get_or-replicate 16 place (i - 1) 0 less

  top_level : (i : ℕ) → i < 4 → level_of ns i ≡ i
  top_level i lt = ap (λ n. n.level) (e.node i lt)

  nothing : (level slot : ℕ) → level < 4 → number_at ns level level slot ≡ 0
  nothing zero slot lt = top_number 0 (slot % 16) lt (mod_below slot 16 (omega arith))
  nothing (suc level) slot lt =
      let k = top_number (suc level) (place_in slot (suc level)) lt (place_low slot (suc level)) in
      ap (λ n. number_at ns level n slot) (k ∙ (let z : suc level - 1 ≡ level = omega arith in z)) ∙ nothing level slot (omega (arith, lt))

  none_seen : (i : ℕ) → i < 4 → (node_at ns i).seen ≡ None
  none_seen i lt = ap (λ n. n.seen) (e.node i lt)

  empty_tree : IsTree ns 4
  empty_tree =
      let long = e.long in
      record {
        forest = record {
          few = omega (arith, long);
          wide = λ i lt. ap (λ n. length n.numbers) (e.node i (omega (arith, lt, long)));
          low = λ i lt. let k = top_level i (omega (arith, lt, long)) in omega (arith, k, lt, long);
          inner = λ i j level lt jt is.
              let four : i < 4 = omega (arith, lt, long) in
              let k = top_level i four in
              let m = top_number i j four jt in
              let same : below ns i j ≡ level = omega (arith, k, m, is) in
              let inside : level < 4 = omega (arith, k, is, four) in
              (omega (arith, same, inside, long), ap (level_of ns) same ∙ top_level level inside);
        };
        within = omega (arith, long);
        shared = λ i j it jt up. let m = top_number i j it jt in omega (arith, m, it);
        once = λ i j p q it pt jt qt iup pup far is.
            let m = top_number i j (omega (arith, it, long)) jt in
            absurd (omega (arith, m, it, long, far));
        seen = λ i r it is.
            let none : None ≡ Some r = sym (none_seen i (omega (arith, it, long))) ∙ is in
            absurd (let z = none in cc);
      }

  pub empty_arena : IsArena ns 4 top top count []
  empty_arena =
      let long = e.long in
      let level = top_level top low in
      record {
        tree = empty_tree;
        base = omega arith;
        inside = omega (arith, low, long);
        few = few;
        reach = subst (λ l. count ≤ width l) (sym level) wide;
        rows = λ i lt. absurd (omega (arith, lt));
        keeps = (low, refl);
        rest = λ slot from to. ap (λ l. number_at ns l top slot) level ∙ nothing top slot low;
        rests = λ i slot lt from to. absurd (omega (arith, lt));
      }

  none_known : (n : ℕ) → n ≤ 4 → known_pairs ns n ≡ []
  none_known zero le = refl
  none_known (suc n) le =
      ap (λ xs. xs ++ pairs_of ns n (node_at ns n).seen) (none_known n (omega (arith, le)))
      ∙ ap (pairs_of ns n) (none_seen n (omega (arith, le)))

  tops : row_of ns count top ≡ replicate count 0
  tops =
      ext_get_or 0 _ _ (row_length ns count top ∙ sym (length-replicate count 0)) (λ k less.
      let lt : k < count = let l = row_length ns count top in omega (arith, l, less) in
      row_slot ns count top k lt
      ∙ ap (λ l. number_at ns l top k) (top_level top low)
      ∙ nothing top k low
      ∙ sym (get_or-replicate count k 0 0 lt))

  pub empty_rows : rows_of ns top top count [] ≡ record { running = replicate count 0; declared = []; kept = replicate count 0; known = [] }
  empty_rows = rows_same tops refl tops (none_known (length ns) (let long = e.long in omega (arith, long)))
