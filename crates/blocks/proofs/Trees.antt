-- Nodes put after others, and places below a node that change: what each node holds afterwards.
use Rattle.std.proofs.Common.{◌≡◌, ◌≢◌, ◌∙◌, ℕ, zero, suc, ◌+◌, ◌-◌, ◌%◌, ◌<◌, ◌≤◌, ◌⊎◌, inl, inr, List, [], ◌∷◌, length, get_or, set, Some, None, refl, sym, ap, arith, length-append, length-set, get_or-set_other, get_or-set_same, subst}
use Rattle.std.proofs.lemmas.List.{get_or_append_left, get_or_at, get_or_read}
use Rattle.std.proofs.lemmas.Bool.{cases_eq, cases_lt}
use Rattle.std.proofs.lemmas.Nat.{mod_below}
use Rattle.blocks.specs.declared.node.Node.{Node}
use Rattle.blocks.specs.private.Blocks.{place_in}
use Rattle.blocks.specs.private.Trees.{no_node, node_at, level_of, below, block_at, number_at, IsForest, IsTree, IsLoose, IsCopy, Keeps, IsBelow}

pub place_low : (slot level : ℕ) → place_in slot level < 16
place_low slot level = mod_below _ 16 (omega arith)

-- below the first n nodes are none but these
abbrev pub IsClosed : List Node → ℕ → Type 0
IsClosed ns n = (i j level : ℕ) → i < n → j < 16 → level_of ns i ≡ suc level → (below ns i j < n) × (level_of ns (below ns i j) ≡ level)

pub closed_below : (ns : List Node) (own : ℕ) → IsTree ns own → IsClosed ns own
closed_below ns own t i j level lt jt e =
    let within = t.within in
    (t.shared i j lt jt (omega (arith, e)), (t.forest.inner i j level (omega arith) jt e).1)

-- nodes that hold the same numbers hold the same by slots
pub number_same : (ns ms : List Node) (n : ℕ) → IsClosed ns n → ((i : ℕ) → i < n → (node_at ms i).numbers ≡ (node_at ns i).numbers)
    → (level i slot : ℕ) → i < n → level_of ns i ≡ level → number_at ms level i slot ≡ number_at ns level i slot
number_same ns ms n closed same zero i slot lt e = ap (λ xs. get_or xs (slot % 16) 0) (same i lt)
number_same ns ms n closed same (suc level) i slot lt e =
    let p = place_in slot (suc level) in
    let low = closed i p level lt (place_low slot (suc level)) e in
    ap (λ xs. number_at ms level (get_or xs p 0) slot) (same i lt)
    ∙ number_same ns ms n closed same level (below ns i p) slot low.0 low.1

-- by its first step alone
pub number_first : (ns : List Node) (a b : ℕ) → (node_at ns a).numbers ≡ (node_at ns b).numbers → (level slot : ℕ) → number_at ns level a slot ≡ number_at ns level b slot
number_first ns a b same zero slot = ap (λ xs. get_or xs (slot % 16) 0) same
number_first ns a b same (suc level) slot = ap (λ xs. number_at ns level (get_or xs (place_in slot (suc level)) 0) slot) same

-- ---- a copy after the others

module _ (ns ms : List Node) (id copy : ℕ) (is : IsCopy ns ms id copy) where
  pub copied_length : length ms ≡ length ns + 1
  copied_length = ap length is.pushed ∙ length-append ns (record (node_at ns id) { seen = None } ∷ [])

  pub copied_old : (i : ℕ) → i < length ns → node_at ms i ≡ node_at ns i
  copied_old i h = ap (λ xs. get_or xs i no_node) is.pushed ∙ get_or_append_left ns _ no_node i h

  pub copied_new : node_at ms copy ≡ record (node_at ns id) { seen = None }
  copied_new = ap (λ xs. get_or xs copy no_node) is.pushed ∙ get_or_at ns (record (node_at ns id) { seen = None }) [] no_node copy (sym is.last)

  -- each node after it has the numbers and the level of one before
  pub copied_from : (i : ℕ) → id < length ns → i < length ms → (h : ℕ) × (h < length ns) × ((node_at ms i).numbers ≡ (node_at ns h).numbers) × (level_of ms i ≡ level_of ns h) × ((i ≡ h) ⊎ ((i ≡ copy) × (h ≡ id)))
  copied_from i known lt =
      elim (cases_lt i (length ns)) [
        | inl less ↦ (i, less, ap (λ n. n.numbers) (copied_old i less), ap (λ n. n.level) (copied_old i less), inl refl)
        | inr more ↦
            let last = is.last in
            let e : i ≡ copy = omega (arith, copied_length, lt, more, last) in
            (id, known, ap (λ j. (node_at ms j).numbers) e ∙ ap (λ n. n.numbers) copied_new, ap (λ j. (node_at ms j).level) e ∙ ap (λ n. n.level) copied_new, inr (e, refl))
      ]

  module _ (f : IsForest ns) (known : id < length ns) where
    pub copied_numbers : (i slot : ℕ) → i < length ns → number_at ms (level_of ns i) i slot ≡ number_at ns (level_of ns i) i slot
    copied_numbers i slot lt = number_same ns ms (length ns) f.inner (λ j h. ap (λ n. n.numbers) (copied_old j h)) (level_of ns i) i slot lt refl

    pub copied_alike : (level slot : ℕ) → number_at ms level copy slot ≡ number_at ms level id slot
    copied_alike level slot = number_first ms copy id (ap (λ n. n.numbers) copied_new ∙ sym (ap (λ n. n.numbers) (copied_old id known))) level slot

    pub copied_keeps : (level : ℕ) → Keeps ns ms level
    copied_keeps level = record {
      more = omega (arith, copied_length);
      levels = λ i h. ap (λ n. n.level) (copied_old i h);
      seen = λ i h. ap (λ n. n.seen) (copied_old i h);
      numbers = copied_numbers;
      above = λ i h _. copied_old i h;
      news = λ i from to.
          let last = is.last in
          let e : i ≡ copy = omega (arith, copied_length, from, to, last) in
          ap (λ j. (node_at ms j).seen) e ∙ ap (λ n. n.seen) copied_new;
    }

    pub copied_forest : IsForest ms
    copied_forest = record {
      few = is.few;
      wide = λ i lt. let h = copied_from i known lt in ap length h.2 ∙ f.wide h.0 h.1;
      low = λ i lt. let h = copied_from i known lt in let e = h.3 in let low = f.low h.0 h.1 in omega (arith, e, low);
      inner = λ i j level lt jt e.
          let h = copied_from i known lt in
          let one = f.inner h.0 j level h.1 jt (sym h.3 ∙ e) in
          let same : below ms i j ≡ below ns h.0 j = ap (λ xs. get_or xs j 0) h.2 in
          let inside : below ns h.0 j < length ns = one.0 in
          (omega (arith, same, inside, copied_length), ap (level_of ms) same ∙ ap (λ n. n.level) (copied_old _ inside) ∙ one.1);
    }

  -- below a node after it, too, stand nodes from before
  module _ (own : ℕ) (t : IsTree ns own) (lt : id < own) where
    copied_known : id < length ns
    copied_known = let within = t.within in omega (arith, within, lt)

    -- an own node below a node is below an old one, at its place
    copied_own : (i j : ℕ) → i < length ms → j < 16 → 0 < level_of ms i → own ≤ below ms i j
        → (i < length ns) × (0 < level_of ns i) × (below ms i j ≡ below ns i j)
    copied_own i j it jt up alone =
        let h = copied_from i copied_known it in
        let same : below ms i j ≡ below ns h.0 j = ap (λ xs. get_or xs j 0) h.2 in
        let high : 0 < level_of ns h.0 = let e = h.3 in omega (arith, e, up) in
        elim (h.4) [
          | inl e ↦ let less : i < length ns = let k = h.1 in omega (arith, e, k) in
              (less, let k = e in subst (λ (n : ℕ). 0 < level_of ns n) (sym e) high, same ∙ ap (λ n. below ns n j) (sym e))
          | inr e ↦
              let low : below ns h.0 j < own = t.shared h.0 j (let k = e.1 in omega (arith, k, lt)) jt high in
              absurd (omega (arith, low, same, alone))
        ]

    pub copied_tree : IsTree ms own
    copied_tree = record {
      forest = copied_forest t.forest copied_known;
      within = let within = t.within in omega (arith, within, copied_length);
      shared = λ i j it jt up.
          let within = t.within in
          let old = copied_old i (omega (arith, within, it)) in
          let e : level_of ms i ≡ level_of ns i = ap (λ n. n.level) old in
          let same : below ms i j ≡ below ns i j = ap (λ n. get_or n.numbers j 0) old in
          let low = t.shared i j it jt (omega (arith, e, up)) in
          omega (arith, same, low);
      once = λ i j p q it pt jt qt iup pup alone e.
          let a = copied_own i j it jt iup alone in
          let b = copied_own p q pt qt pup (omega (arith, alone, e)) in
          t.once i j p q a.0 b.0 jt qt a.1 b.1 (let k = a.2 in omega (arith, k, alone)) (sym a.2 ∙ e ∙ b.2);
      seen = λ i r it e.
          let within = t.within in
          elim (cases_lt i (length ns)) [
            | inl less ↦
                let s = t.seen i r less (sym (ap (λ n. n.seen) (copied_old i less)) ∙ e) in
                (s.0, s.1, ap (λ n. n.level) (copied_old r (let k = s.1 in omega (arith, k, within))) ∙ s.2 ∙ sym (ap (λ n. n.level) (copied_old i less)))
            | inr more ↦
                let k = copied_keeps t.forest copied_known 0 in
                let none : None ≡ Some r = sym (k.news i more it) ∙ e in
                absurd (let x = none in cc)
          ];
    }

    pub copied_loose : IsLoose ms copy
    copied_loose p q pt qt up e =
        let within = t.within in
        let last = is.last in
        let b = copied_own p q pt qt up (omega (arith, e, last, within)) in
        let low = t.forest.inner p q (level_of ns p - 1) b.0 qt (let k = b.1 in omega (arith, k)) in
        let inside : below ns p q < length ns = low.0 in
        let same = b.2 in
        omega (arith, e, same, inside, last)

-- ---- a place below an own node that becomes another node

-- one node's place became a node of its level that holds the same
pub record IsRedirected (ns ms : List Node) (id place node : ℕ) : Type 0 where
  pub long : length ms ≡ length ns
  pub others : (i : ℕ) → i ≢ id → node_at ms i ≡ node_at ns i
  pub here : node_at ms id ≡ record (node_at ns id) { numbers = set (node_at ns id).numbers place node }

pub redirected : (ns : List Node) (id place node : ℕ) → id < length ns
    → IsRedirected ns (set ns id (record (node_at ns id) { numbers = set (node_at ns id).numbers place node })) id place node
redirected ns id place node lt = record {
  long = length-set ns id _;
  others = λ i ne. get_or-set_other ns id i _ no_node ne;
  here = get_or-set_same ns id _ no_node lt;
}

module _ (ns ms : List Node) (id place node : ℕ) (is : IsRedirected ns ms id place node) where
  pub levels_same : (i : ℕ) → level_of ms i ≡ level_of ns i
  levels_same i = elim (cases_eq i id) [
    | inl e ↦ ap (level_of ms) e ∙ ap (λ n. n.level) is.here ∙ ap (level_of ns) (sym e)
    | inr ne ↦ ap (λ n. n.level) (is.others i ne)
  ]

  pub seen_same : (i : ℕ) → (node_at ms i).seen ≡ (node_at ns i).seen
  seen_same i = elim (cases_eq i id) [
    | inl e ↦ ap (λ k. (node_at ms k).seen) e ∙ ap (λ n. n.seen) is.here ∙ ap (λ k. (node_at ns k).seen) (sym e)
    | inr ne ↦ ap (λ n. n.seen) (is.others i ne)
  ]

  pub wide_same : (i : ℕ) → length (node_at ms i).numbers ≡ length (node_at ns i).numbers
  wide_same i = elim (cases_eq i id) [
    | inl e ↦ ap (λ n. length (node_at ms n).numbers) e ∙ ap (λ n. length n.numbers) is.here ∙ length-set (node_at ns id).numbers place node ∙ ap (λ n. length (node_at ns n).numbers) (sym e)
    | inr ne ↦ ap (λ n. length n.numbers) (is.others i ne)
  ]

module _ (ns ms : List Node) (own id place node level : ℕ) (t : IsTree ns own) (is : IsRedirected ns ms id place node)
    (known : id < length ns) (alone : own ≤ id) (up : level_of ns id ≡ suc level) (low : place < 16)
    (inside : node < length ns) (apart : own ≤ node) (high : level_of ns node ≡ level) (loose : IsLoose ns node)
    (alike : (slot : ℕ) → number_at ns level node slot ≡ number_at ns level (below ns id place) slot) where
  same : (i : ℕ) → level_of ms i ≡ level_of ns i
  same i = levels_same ns ms id place node is i

  -- a place below a node is the one that changed, or as it was
  below_either : (i j : ℕ) → ((i ≡ id) × (j ≡ place) × (below ms i j ≡ node)) ⊎ (below ms i j ≡ below ns i j)
  below_either i j = elim (cases_eq i id) [
    | inl e ↦ elim (cases_eq j place) [
      | inl k ↦
          let wide = t.forest.wide id known in
          inl (e, k, ap (λ n. below ms n j) e ∙ ap (below ms id) k ∙ ap (λ n. get_or n.numbers place 0) is.here ∙ get_or-set_same _ place node 0 (omega (arith, wide, low)))
      | inr ne ↦ inr (ap (λ n. below ms n j) e ∙ ap (λ n. get_or n.numbers j 0) is.here ∙ get_or-set_other _ place j node 0 ne ∙ ap (λ n. below ns n j) (sym e))
    ]
    | inr ne ↦ inr (ap (λ n. get_or n.numbers j 0) (is.others i ne))
  ]

  pub redirected_below : below ms id place ≡ node
  redirected_below = elim (below_either id place) [
    | inl e ↦ e.2
    | inr e ↦
        let wide = t.forest.wide id known in
        ap (λ n. get_or n.numbers place 0) is.here ∙ get_or-set_same _ place node 0 (omega (arith, wide, low))
  ]

  redirected_numbers : (at i slot : ℕ) → i < length ns → level_of ns i ≡ at → number_at ms at i slot ≡ number_at ns at i slot
  redirected_numbers zero i slot lt e = elim (below_either i (slot % 16)) [
    | inl b ↦ let k : level_of ns i ≡ suc level = ap (level_of ns) b.0 ∙ up in absurd (omega (arith, k, e))
    | inr b ↦ b
  ]
  redirected_numbers (suc at) i slot lt e =
      let p = place_in slot (suc at) in
      let one = t.forest.inner i p at lt (place_low slot (suc at)) e in
      elim (below_either i p) [
        | inl b ↦
            let k : level_of ns i ≡ suc level = ap (level_of ns) b.0 ∙ up in
            let same : at ≡ level = omega (arith, k, e) in
            ap (λ n. number_at ms at n slot) b.2
            ∙ redirected_numbers at node slot inside (high ∙ sym same)
            ∙ ap (λ n. number_at ns n node slot) same
            ∙ alike slot
            ∙ ap (λ n. number_at ns n (below ns id place) slot) (sym same)
            ∙ ap (λ n. number_at ns at (below ns n place) slot) (sym b.0)
            ∙ ap (λ n. number_at ns at (below ns i n) slot) (sym b.1)
        | inr b ↦ ap (λ n. number_at ms at n slot) b ∙ redirected_numbers at (below ns i p) slot one.0 one.1
      ]

  redirected_forest : IsForest ms
  redirected_forest = record {
    few = let few = t.forest.few in let long = is.long in omega (arith, few, long);
    wide = λ i lt. wide_same ns ms id place node is i ∙ t.forest.wide i (let long = is.long in omega (arith, lt, long));
    low = λ i lt.
        let long = is.long in
        let e = same i in
        let four = t.forest.low i (omega (arith, lt, long)) in
        omega (arith, e, four);
    inner = λ i j at lt jt e.
        let long = is.long in
        elim (below_either i j) [
          | inl b ↦
              let k : level_of ns i ≡ suc level = ap (level_of ns) b.0 ∙ up in
              let l : level_of ns i ≡ suc at = sym (same i) ∙ e in
              let n = b.2 in
              let h : level ≡ at = omega (arith, k, l) in
              (omega (arith, n, inside, long), ap (level_of ms) b.2 ∙ same node ∙ high ∙ h)
          | inr b ↦
              let one = t.forest.inner i j at (omega (arith, lt, long)) jt (sym (same i) ∙ e) in
              let less = one.0 in
              (omega (arith, b, less, long), ap (level_of ms) b ∙ same (below ns i j) ∙ one.1)
        ];
  }

  pub redirected_tree : IsTree ms own
  redirected_tree = record {
    forest = redirected_forest;
    within = let within = t.within in let long = is.long in omega (arith, within, long);
    shared = λ i j it jt high'.
        elim (below_either i j) [
          | inl b ↦ let e = b.0 in absurd (omega (arith, e, it, alone))
          | inr b ↦
              let e = same i in
              let less = t.shared i j it jt (omega (arith, e, high')) in
              omega (arith, b, less)
        ];
    once = λ i j p q it pt jt qt iup pup far e.
        let long = is.long in
        let i' : i < length ns = omega (arith, it, long) in
        let p' : p < length ns = omega (arith, pt, long) in
        let ie = same i in
        let pe = same p in
        let iu : 0 < level_of ns i = omega (arith, ie, iup) in
        let pu : 0 < level_of ns p = omega (arith, pe, pup) in
        elim (below_either i j) [
          | inl b ↦ elim (below_either p q) [
            | inl d ↦ (b.0 ∙ sym d.0, b.1 ∙ sym d.1)
            | inr d ↦ absurd (loose p q p' qt pu (sym d ∙ sym e ∙ b.2))
          ]
          | inr b ↦ elim (below_either p q) [
            | inl d ↦ absurd (loose i j i' jt iu (sym b ∙ e ∙ d.2))
            | inr d ↦ t.once i j p q i' p' jt qt iu pu (omega (arith, far, b)) (sym b ∙ e ∙ d)
          ]
        ];
    seen = λ i r it e.
        let long = is.long in
        let s = t.seen i r (omega (arith, it, long)) (sym (seen_same ns ms id place node is i) ∙ e) in
        (s.0, s.1, same r ∙ s.2 ∙ sym (same i));
  }

  pub redirected_keeps : Keeps ns ms (level_of ns id)
  redirected_keeps = record {
    more = let long = is.long in omega (arith, long);
    levels = λ i _. same i;
    seen = λ i _. seen_same ns ms id place node is i;
    numbers = λ i slot lt. redirected_numbers (level_of ns i) i slot lt refl;
    above = λ i lt more. is.others i (λ e. let k : level_of ns i ≡ level_of ns id = ap (level_of ns) e in omega (arith, k, more));
    news = λ i from to. let long = is.long in absurd (omega (arith, from, to, long));
  }

-- ---- one step and then others

pub keeps_all : (ns ms ls : List Node) (level : ℕ) → Keeps ns ms level → Keeps ms ls level → Keeps ns ls level
keeps_all ns ms ls level a b =
    let more = a.more in
    let more' = b.more in
    record {
      more = omega (arith, more, more');
      levels = λ i h. b.levels i (omega (arith, h, more)) ∙ a.levels i h;
      seen = λ i h. b.seen i (omega (arith, h, more)) ∙ a.seen i h;
      numbers = λ i slot h.
          ap (λ n. number_at ls n i slot) (sym (a.levels i h))
          ∙ b.numbers i slot (omega (arith, h, more))
          ∙ ap (λ n. number_at ms n i slot) (a.levels i h)
          ∙ a.numbers i slot h;
      above = λ i h up. b.above i (omega (arith, h, more)) (let e = a.levels i h in omega (arith, e, up)) ∙ a.above i h up;
      news = λ i from to. elim (cases_lt i (length ms)) [
        | inl less ↦ b.seen i less ∙ a.news i from less
        | inr past ↦ b.news i past to
      ];
    }

pub keeps_higher : (ns ms : List Node) (level level' : ℕ) → level ≤ level' → Keeps ns ms level → Keeps ns ms level'
keeps_higher ns ms level level' le a = record {
  more = a.more;
  levels = a.levels;
  seen = a.seen;
  numbers = a.numbers;
  above = λ i h up. a.above i h (omega (arith, le, up));
  news = a.news;
}

-- ---- a copy in the place of a shared node

abbrev pub put_below : List Node → ℕ → ℕ → ℕ → Node → List Node
put_below ns id place node at = set ns id (record at { numbers = set at.numbers place node })

pub record IsOwnBelow (ns ms : List Node) (own id place node : ℕ) : Type 0 where
  pub tree : IsTree ms own
  pub kept : Keeps ns ms (level_of ns id)
  pub below : IsBelow ms own id place node

pub own_copy : (ns ms : List Node) (own id place copy : ℕ) → IsTree ns own → id < length ns → own ≤ id → 0 < level_of ns id → place < 16
    → below ns id place < own → IsCopy ns ms (below ns id place) copy → IsOwnBelow ns (put_below ms id place copy (node_at ms id)) own id place copy
own_copy ns ms own id place copy t known alone up low shared is =
    let within = t.within in
    let long = copied_length ns ms (below ns id place) copy is in
    let old = copied_old ns ms (below ns id place) copy is id known in
    let kept = copied_keeps ns ms (below ns id place) copy is t.forest (omega (arith, within, shared)) (level_of ns id) in
    let level : ℕ = level_of ns id - 1 in
    let up' : level_of ms id ≡ suc level = ap (λ n. n.level) old ∙ (let e : level_of ns id ≡ suc level = omega (arith, up) in e) in
    let last = is.last in
    let one = t.forest.inner id place level known low (omega (arith, up)) in
    let high : level_of ms copy ≡ level = ap (λ n. n.level) (copied_new ns ms (below ns id place) copy is) ∙ one.1 in
    let same : below ms id place ≡ below ns id place = ap (λ n. get_or n.numbers place 0) old in
    let inside : id < length ms = omega (arith, known, long) in
    let tree = copied_tree ns ms (below ns id place) copy is own t shared in
    let change = redirected ms id place copy inside in
    let alike : (slot : ℕ) → number_at ms level copy slot ≡ number_at ms level (below ms id place) slot =
    λ slot. copied_alike ns ms (below ns id place) copy is t.forest (omega (arith, within, shared)) level slot ∙ ap (λ n. number_at ms level n slot) (sym same) in
    let copy_in : copy < length ms = omega (arith, last, long) in
    let copy_own : own ≤ copy = omega (arith, last, within) in
    let loose = copied_loose ns ms (below ns id place) copy is own t shared in
    record {
      tree = redirected_tree ms _ own id place copy level tree change inside alone up' low copy_in copy_own high loose alike;
      kept = keeps_all ns ms _ (level_of ns id) kept
          (subst (Keeps ms _) (ap (λ n. n.level) old) (redirected_keeps ms _ own id place copy level tree change inside alone up' low copy_in copy_own high loose alike));
      below = record {
        here = redirected_below ms _ own id place copy level tree change inside alone up' low copy_in copy_own high loose alike;
        own_node = copy_own;
      };
    }

-- the two nodes as they are read
pub own_read : (ns ms : List Node) (own id place copy : ℕ) (here there : Node) → IsTree ns own → id < length ns → own ≤ id → 0 < level_of ns id → place < 16
    → here ≡ get_or ns id here → there ≡ get_or ms id there → get_or here.numbers place 0 < own → IsCopy ns ms (get_or here.numbers place 0) copy
    → IsOwnBelow ns (put_below ms id place copy there) own id place copy
own_read ns ms own id place copy here there t known alone up low old new shared is =
    let first : here ≡ node_at ns id = get_or_read ns id here known old no_node in
    let is' : IsCopy ns ms (below ns id place) copy = subst (λ n. IsCopy ns ms (get_or n.numbers place 0) copy) first is in
    let long = copied_length ns ms (below ns id place) copy is' in
    let second : there ≡ node_at ms id = get_or_read ms id there (omega (arith, known, long)) new no_node in
    subst (λ n. IsOwnBelow ns (put_below ms id place copy n) own id place copy) (sym second)
    (own_copy ns ms own id place copy t known alone up low (subst (λ n. get_or n.numbers place 0 < own) first shared) is')

-- ---- one level down

pub inner_below : (ns : List Node) (id place : ℕ) → IsForest ns → id < length ns → place < 16 → level_of ns id ≢ 0
    → (below ns id place < length ns) × (level_of ns (below ns id place) + 1 ≡ level_of ns id)
inner_below ns id place f known low ne =
    let level : ℕ = level_of ns id - 1 in
    let e : level_of ns id ≡ suc level = grind (arith, ne) in
    let one = f.inner id place level known low e in
    let k = one.1 in
    (one.0, omega (arith, k, e))

pub number_below : (ns : List Node) (id slot place : ℕ) → IsForest ns → id < length ns → place ≡ place_in slot (level_of ns id) → level_of ns id ≢ 0
    → number_at ns (level_of ns (below ns id place)) (below ns id place) slot ≡ number_at ns (level_of ns id) id slot
number_below ns id slot place f known e ne =
    let level : ℕ = level_of ns id - 1 in
    let up : level_of ns id ≡ suc level = grind (arith, ne) in
    let p : place ≡ place_in slot (suc level) = e ∙ ap (place_in slot) up in
    let low : place < 16 = let k = place_low slot (level_of ns id) in omega (arith, e, k) in
    ap (λ n. number_at ns n (below ns id place) slot) (f.inner id place level known low up).1
    ∙ ap (λ n. number_at ns level (below ns id n) slot) p
    ∙ ap (λ n. number_at ns n id slot) (sym up)

pub block_below : (ns : List Node) (id slot place : ℕ) → IsForest ns → id < length ns → place ≡ place_in slot (level_of ns id) → level_of ns id ≢ 0
    → block_at ns (level_of ns (below ns id place)) (below ns id place) slot ≡ block_at ns (level_of ns id) id slot
block_below ns id slot place f known e ne =
    let level : ℕ = level_of ns id - 1 in
    let up : level_of ns id ≡ suc level = grind (arith, ne) in
    let p : place ≡ place_in slot (suc level) = e ∙ ap (place_in slot) up in
    let low : place < 16 = let k = place_low slot (level_of ns id) in omega (arith, e, k) in
    ap (λ n. block_at ns n (below ns id place) slot) (f.inner id place level known low up).1
    ∙ ap (λ n. block_at ns level (below ns id n) slot) p
    ∙ ap (λ n. block_at ns n id slot) (sym up)

-- an own node below another, whose own block was then made
module _ (ns ms ls : List Node) (own id place node slot : ℕ) (known : id < length ns) (up : level_of ns id ≢ 0) (at : place ≡ place_in slot (level_of ns id))
    (a : Keeps ns ms (level_of ns id)) (t : IsTree ms own) (b : IsBelow ms own id place node) where
  there : id < length ms
  there = let more = a.more in omega (arith, more, known)

  same_level : level_of ms id ≡ level_of ns id
  same_level = a.levels id known

  place_lt : place < 16
  place_lt = let k = place_low slot (level_of ns id) in omega (arith, at, k)

  one : (below ms id place < length ms) × (level_of ms (below ms id place) + 1 ≡ level_of ms id)
  one = inner_below ms id place t.forest there place_lt (λ e. up (sym same_level ∙ e))

  pub own_inside : node < length ms
  own_inside = let k = one.0 in let e = b.here in omega (arith, k, e)

  pub own_level : level_of ms node + 1 ≡ level_of ns id
  own_level = ap (λ n. level_of ms n + 1) (sym b.here) ∙ one.1 ∙ same_level

  module _ (k : Keeps ms ls (level_of ms node)) where
    pub own_keeps : Keeps ns ls (level_of ns id)
    own_keeps = keeps_all ns ms ls (level_of ns id) a (keeps_higher ms ls (level_of ms node) (level_of ns id) (omega (arith, own_level)) k)

    pub own_path : IsTree ls own → block_at ls (level_of ms node) node slot ≡ block_at ls (level_of ns id) id slot
    own_path u =
        let same : node_at ls id ≡ node_at ms id = k.above id there (omega (arith, own_level, same_level)) in
        let e : below ls id place ≡ node = ap (λ n. get_or n.numbers place 0) same ∙ b.here in
        let level : level_of ls id ≡ level_of ns id = ap (λ n. n.level) same ∙ same_level in
        let more = k.more in
        sym (ap (λ n. block_at ls n node slot) (k.levels node own_inside))
        ∙ sym (ap (λ n. block_at ls (level_of ls n) n slot) e)
        ∙ block_below ls id slot place u.forest (omega (arith, there, more)) (at ∙ sym (ap (place_in slot) level)) (λ z. up (sym level ∙ z))
        ∙ ap (λ n. block_at ls n id slot) level

-- the nodes below two of one level, at one place
pub below_alike : (ns : List Node) (id wanted place : ℕ) → IsForest ns → id < length ns → wanted < length ns → level_of ns wanted ≡ level_of ns id → level_of ns id ≢ 0 → place < 16
    → (level_of ns (below ns id place) < level_of ns id) × (below ns id place < length ns) × (below ns wanted place < length ns)
    × (level_of ns (below ns wanted place) ≡ level_of ns (below ns id place))
below_alike ns id wanted place f known there alike up low =
    let a = inner_below ns id place f known low up in
    let b = inner_below ns wanted place f there low (λ e. up (sym alike ∙ e)) in
    let e = a.1 in
    let k = b.1 in
    (omega (arith, e), a.0, b.0, omega (arith, e, k, alike))
