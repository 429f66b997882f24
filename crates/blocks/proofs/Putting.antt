-- A number put into a block that the running row has alone.
use Rattle.std.proofs.Common.{◌≡◌, ◌≢◌, ◌∙◌, ℕ, zero, suc, ◌+◌, ◌*◌, ◌%◌, ◌<◌, ◌≤◌, inl, inr, List, length, get_or, refl, sym, ap, subst, arith, get_or-set_other, get_or-set_same}
use Rattle.std.proofs.Math.Nat.{mod-eq_of_lt}
use Rattle.std.proofs.lemmas.Bool.{cases_eq, cases_lt}
use Rattle.std.proofs.lemmas.Nat.{mod_below}
use Rattle.blocks.specs.declared.node.Node.{Node}
use Rattle.blocks.specs.private.Blocks.{place_in}
use Rattle.blocks.specs.private.Trees.{node_at, level_of, below, block_at, number_at, width, IsTree, IsCopy, IsOwned, IsPut, Keeps, SharesSame}
use Rattle.blocks.proofs.Places.{split_above}
use Rattle.blocks.proofs.Trees.{place_low, IsClosed, closed_below, number_same, copied_tree, copied_keeps, copied_length, copied_new, copied_alike, IsRedirected, levels_same, seen_same, wide_same}

-- the number of a slot is in its block
pub number_in_block : (ns : List Node) (level id slot : ℕ) → number_at ns level id slot ≡ below ns (block_at ns level id slot) (slot % 16)
number_in_block ns zero id slot = refl
number_in_block ns (suc level) id slot = number_in_block ns level (below ns id (place_in slot (suc level))) slot

pub block_inside : (ns : List Node) (n : ℕ) → IsClosed ns n → (level id slot : ℕ) → id < n → level_of ns id ≡ level → (block_at ns level id slot < n) × (level_of ns (block_at ns level id slot) ≡ 0)
block_inside ns n closed zero id slot lt e = (lt, e)
block_inside ns n closed (suc level) id slot lt e =
    let one = closed id (place_in slot (suc level)) level lt (place_low slot (suc level)) e in
    block_inside ns n closed level (below ns id (place_in slot (suc level))) slot one.0 one.1

-- two ways down that end in one own block are one way
pub same_way : (ns : List Node) (own : ℕ) → IsTree ns own → (level p q a b : ℕ) → p < length ns → q < length ns → level_of ns p ≡ level → level_of ns q ≡ level
    → own ≤ block_at ns level p a → block_at ns level p a ≡ block_at ns level q b → a % 16 ≡ b % 16 → (p ≡ q) × (a % width level ≡ b % width level)
same_way ns own t zero p q a b pt qt pe qe alone e k = (e, k)
same_way ns own t (suc level) p q a b pt qt pe qe alone e k =
    let i : ℕ = place_in a (suc level) in
    let j : ℕ = place_in b (suc level) in
    let c = t.forest.inner p i level pt (place_low a (suc level)) pe in
    let d = t.forest.inner q j level qt (place_low b (suc level)) qe in
    let h = same_way ns own t level (below ns p i) (below ns q j) a b c.0 d.0 c.1 d.1 alone e k in
    let own_node : own ≤ below ns p i = elim (cases_lt (below ns p i) own) [
      | inl less ↦ let low = (block_inside ns own (closed_below ns own t) level (below ns p i) a less c.1).0 in absurd (omega (arith, low, alone))
      | inr more ↦ more
    ] in
    let one = t.once p i q j pt qt (place_low a (suc level)) (place_low b (suc level)) (omega (arith, pe)) (omega (arith, qe)) own_node h.0 in
    (one.0, split_above a level ∙ ap (λ n. n * width level + a % width level) one.1 ∙ ap (λ n. j * width level + n) h.1 ∙ sym (split_above b level))

module _ (ns ms : List Node) (own id slot number : ℕ) (t : IsTree ns own) (known : id < length ns)
    (alone : own ≤ block_at ns (level_of ns id) id slot)
    (is : IsRedirected ns ms (block_at ns (level_of ns id) id slot) (slot % 16) number) where
  abbrev block : ℕ
  block = block_at ns (level_of ns id) id slot

  inside : (block < length ns) × (level_of ns block ≡ 0)
  inside = block_inside ns (length ns) t.forest.inner (level_of ns id) id slot known refl

  same : (i : ℕ) → level_of ms i ≡ level_of ns i
  same i = levels_same ns ms block (slot % 16) number is i

  -- no node above a block changed
  above : (i : ℕ) → 0 < level_of ns i → node_at ms i ≡ node_at ns i
  above i up = is.others i (λ e. let z : level_of ns i ≡ 0 = ap (level_of ns) e ∙ inside.1 in omega (arith, z, up))

  blocks_same : (level i k : ℕ) → i < length ns → level_of ns i ≡ level → block_at ms level i k ≡ block_at ns level i k
  blocks_same zero i k lt e = refl
  blocks_same (suc level) i k lt e =
      let p = place_in k (suc level) in
      let one = t.forest.inner i p level lt (place_low k (suc level)) e in
      ap (λ n. block_at ms level (get_or n.numbers p 0) k) (above i (omega (arith, e))) ∙ blocks_same level (below ns i p) k one.0 one.1

  pub put_shares : SharesSame ns ms own
  put_shares = record {
    levels = λ i _. same i;
    seen = λ i _. seen_same ns ms block (slot % 16) number is i;
    numbers = λ i k lt.
        number_same ns ms own (closed_below ns own t)
        (λ j less. ap (λ n. n.numbers) (is.others j (λ e. omega (arith, e, less, alone)))) (level_of ns i) i k lt refl;
  }

  pub put_here : number_at ms (level_of ns id) id slot ≡ number
  put_here =
      let wide = t.forest.wide block inside.0 in
      let low = mod_below slot 16 (omega arith) in
      number_in_block ms (level_of ns id) id slot
      ∙ ap (λ n. below ms n (slot % 16)) (blocks_same (level_of ns id) id slot known refl)
      ∙ ap (λ n. get_or n.numbers (slot % 16) 0) is.here
      ∙ get_or-set_same (node_at ns block).numbers (slot % 16) number 0 (omega (arith, wide, low))

  pub put_others : (k : ℕ) → slot < width (level_of ns id) → k < width (level_of ns id) → k ≢ slot → number_at ms (level_of ns id) id k ≡ number_at ns (level_of ns id) id k
  put_others k small less ne =
      let other : ℕ = block_at ns (level_of ns id) id k in
      number_in_block ms (level_of ns id) id k
      ∙ ap (λ n. below ms n (k % 16)) (blocks_same (level_of ns id) id k known refl)
      ∙ elim (cases_eq other block) as (λ _. below ms other (k % 16) ≡ below ns other (k % 16)) [
        | inl e ↦
            ap (λ n. below ms n (k % 16)) e
            ∙ ap (λ n. get_or n.numbers (k % 16) 0) is.here
            ∙ get_or-set_other (node_at ns block).numbers (slot % 16) (k % 16) number 0
            (λ m.
            let way = same_way ns own t (level_of ns id) id id slot k known known refl refl alone (sym e) (sym m) in
            ne (sym (mod-eq_of_lt less) ∙ sym way.1 ∙ mod-eq_of_lt small))
            ∙ ap (λ n. below ns n (k % 16)) (sym e)
        | inr far ↦ ap (λ n. get_or n.numbers (k % 16) 0) (is.others other far)
      ]
      ∙ sym (number_in_block ns (level_of ns id) id k)

  pub put_tree : IsTree ms own
  put_tree =
      let long = is.long in
      let under : (i j : ℕ) → 0 < level_of ns i → below ms i j ≡ below ns i j = λ i j up. ap (λ n. get_or n.numbers j 0) (above i up) in
      record {
        forest = record {
          few = let few = t.forest.few in omega (arith, few, long);
          wide = λ i lt. wide_same ns ms block (slot % 16) number is i ∙ t.forest.wide i (omega (arith, lt, long));
          low = λ i lt. let e = same i in let k = t.forest.low i (omega (arith, lt, long)) in omega (arith, e, k);
          inner = λ i j at lt jt e.
              let k : level_of ns i ≡ suc at = sym (same i) ∙ e in
              let one = t.forest.inner i j at (omega (arith, lt, long)) jt k in
              let b = under i j (omega (arith, k)) in
              let less = one.0 in
              (omega (arith, b, less, long), ap (level_of ms) b ∙ same (below ns i j) ∙ one.1);
        };
        within = let within = t.within in omega (arith, within, long);
        shared = λ i j it jt up.
            let e = same i in
            let high : 0 < level_of ns i = omega (arith, e, up) in
            let b = under i j high in
            let less = t.shared i j it jt high in
            omega (arith, b, less);
        once = λ i j p q it pt jt qt iup pup far e.
            let ie = same i in
            let pe = same p in
            let iu : 0 < level_of ns i = omega (arith, ie, iup) in
            let pu : 0 < level_of ns p = omega (arith, pe, pup) in
            let b = under i j iu in
            t.once i j p q (omega (arith, it, long)) (omega (arith, pt, long)) jt qt iu pu (omega (arith, far, b)) (sym b ∙ e ∙ under p q pu);
        seen = λ i r it e.
            let s = t.seen i r (omega (arith, it, long)) (sym (seen_same ns ms block (slot % 16) number is i) ∙ e) in
            (s.0, s.1, same r ∙ s.2 ∙ sym (same i));
      }

-- ---- from a node that the running row has alone on

pub own_copied : (ns ms : List Node) (own id copy : ℕ) → IsTree ns own → id < own → IsCopy ns ms id copy → IsOwned ns ms own id copy
own_copied ns ms own id copy t shared is =
    let within = t.within in
    let known : id < length ns = omega (arith, within, shared) in
    let long = copied_length ns ms id copy is in
    let last = is.last in
    record {
      tree = copied_tree ns ms id copy is own t shared;
      kept = λ level. copied_keeps ns ms id copy is t.forest known level;
      inside = omega (arith, long, last);
      alone = omega (arith, within, last);
      alike = ap (λ n. n.level) (copied_new ns ms id copy is);
      numbers = λ slot. copied_alike ns ms id copy is t.forest known (level_of ns id) slot ∙ (copied_keeps ns ms id copy is t.forest known 0).numbers id slot known;
    }

pub shares_kept : (ns ms : List Node) (own level : ℕ) → own ≤ length ns → Keeps ns ms level → SharesSame ns ms own
shares_kept ns ms own level within k = record {
  levels = λ i h. k.levels i (omega (arith, h, within));
  seen = λ i h. k.seen i (omega (arith, h, within));
  numbers = λ i slot h. k.numbers i slot (omega (arith, h, within));
}

pub shares_all : (ns ms ls : List Node) (own : ℕ) → SharesSame ns ms own → SharesSame ms ls own → SharesSame ns ls own
shares_all ns ms ls own a b = record {
  levels = λ i h. b.levels i h ∙ a.levels i h;
  seen = λ i h. b.seen i h ∙ a.seen i h;
  numbers = λ i slot h.
      ap (λ n. number_at ls n i slot) (sym (a.levels i h)) ∙ b.numbers i slot h ∙ ap (λ n. number_at ms n i slot) (a.levels i h) ∙ a.numbers i slot h;
}

module _ (ns cs bs : List Node) (own id slot number now block : ℕ) (t : IsTree ns own) (o : IsOwned ns cs own id now)
    (k : Keeps cs bs (level_of cs now)) (u : IsTree bs own) (alone : own ≤ block) (at : block_at bs (level_of cs now) now slot ≡ block) where
  there : now < length bs
  there = let more = k.more in let inside = o.inside in omega (arith, more, inside)

  level : level_of bs now ≡ level_of ns id
  level = k.levels now o.inside ∙ o.alike

  is_block : block_at bs (level_of bs now) now slot ≡ block
  is_block = ap (λ n. block_at bs n now slot) (k.levels now o.inside) ∙ at

  pub block_there : block < length bs
  block_there = subst (λ n. n < length bs) is_block (block_inside bs (length bs) u.forest.inner (level_of bs now) now slot there refl).0

  module _ (ms : List Node) (is : IsRedirected bs ms block (slot % 16) number) where
    is' : IsRedirected bs ms (block_at bs (level_of bs now) now slot) (slot % 16) number
    is' = subst (λ n. IsRedirected bs ms n (slot % 16) number) (sym is_block) is

    alone' : own ≤ block_at bs (level_of bs now) now slot
    alone' = subst (λ n. own ≤ n) (sym is_block) alone

    pub stored_tree : IsTree ms own
    stored_tree = put_tree bs ms own now slot number u there alone' is'

    held : (j : ℕ) → number_at bs (level_of ns id) now j ≡ number_at ns (level_of ns id) id j
    held j = ap (λ n. number_at bs n now j) (sym o.alike) ∙ k.numbers now j o.inside ∙ ap (λ n. number_at cs n now j) o.alike ∙ o.numbers j

    pub stored : slot < width (level_of ns id) → IsPut ns ms own id slot number now
    stored small = record {
      inside = let long = is.long in let inside = there in omega (arith, long, inside);
      alike = levels_same bs ms block (slot % 16) number is now ∙ level;
      shared = shares_all ns bs ms own
          (shares_all ns cs bs own (shares_kept ns cs own 0 t.within (o.kept 0)) (shares_kept cs bs own (level_of cs now) o.tree.within k))
          (put_shares bs ms own now slot number u there alone' is');
      here = ap (λ n. number_at ms n now slot) (sym level) ∙ put_here bs ms own now slot number u there alone' is';
      others = λ j less ne.
          ap (λ n. number_at ms n now j) (sym level)
          ∙ put_others bs ms own now slot number u there alone' is' j (subst (λ n. slot < width n) (sym level) small) (subst (λ n. j < width n) (sym level) less) ne
          ∙ ap (λ n. number_at bs n now j) level
          ∙ held j;
    }
