-- Nodes in which a number is replaced by another.
use Rattle.std.proofs.Common.{◌≡◌, ◌≢◌, ◌∙◌, ℕ, suc, ◌-◌, ◌%◌, ◌<◌, ◌≤◌, ◌⊎◌, inl, inr, List, [], length, get_or, Result, Ok, Err, IfOk, OnErr, refl, sym, ap, subst, arith}
use Rattle.std.specs.Ordering.{nat_cmp}
use Rattle.std.specs.BTreeMap.{get}
use Rattle.std.specs.declared.alloc.AllocError.{AllocError}
use Rattle.std.proofs.lemmas.Bool.{cases_lt}
use Rattle.std.proofs.lemmas.Nat.{mod_below}
use Rattle.blocks.specs.Rows.{replaced}
use Rattle.blocks.specs.declared.node.Node.{Node}
use Rattle.blocks.specs.declared.replacing.Replacements.{Replacements}
use Rattle.blocks.specs.private.Blocks.{place_in}
use Rattle.blocks.specs.private.Trees.{node_at, level_of, below, number_at, IsForest}
use Rattle.blocks.specs.private.Replacing.{key_of, IsReplaced, AreReplaced, KeepsReplaced, Grows, IsMade}
use Rattle.blocks.proofs.Trees.{place_low, number_same}

-- ---- nodes that hold what they held

pub record HoldSame (ns ms : List Node) (n : ℕ) : Type 0 where
  pub levels : (i : ℕ) → i < n → level_of ms i ≡ level_of ns i
  pub numbers : (i slot : ℕ) → i < n → number_at ms (level_of ns i) i slot ≡ number_at ns (level_of ns i) i slot

pub still_replaced : (ns ms : List Node) (n m id number by now : ℕ) → HoldSame ns ms n → n ≤ m → IsReplaced ns n id number by now → IsReplaced ms m id number by now
still_replaced ns ms n m id number by now h le r =
    let first = r.first in
    let inside = r.inside in
    record {
      first = omega (arith, first, le);
      inside = omega (arith, inside, le);
      alike = h.levels now inside ∙ r.alike ∙ sym (h.levels id first);
      numbers = λ slot.
          ap (λ l. number_at ms l now slot) (h.levels id first ∙ sym r.alike)
          ∙ h.numbers now slot inside
          ∙ ap (λ l. number_at ns l now slot) r.alike
          ∙ r.numbers slot
          ∙ ap (replaced number by) (sym (ap (λ l. number_at ms l id slot) (h.levels id first) ∙ h.numbers id slot first));
    }

pub all_replaced : (ns ms : List Node) (n m : ℕ) (r : Replacements) → HoldSame ns ms n → n ≤ m → AreReplaced ns n r → AreReplaced ms m r
all_replaced ns ms n m r h le are = λ id number by now a b e. still_replaced ns ms n m id number by now h le (are id number by now a b e)

pub same_itself : (ns : List Node) (n : ℕ) → HoldSame ns ns n
same_itself ns n = record { levels = λ i lt. refl; numbers = λ i slot lt. refl }

-- ---- nodes that were put after others

pub grown_same : (ns ms : List Node) → IsForest ns → Grows ns ms → HoldSame ns ms (length ns)
grown_same ns ms f g = record {
  levels = λ i lt. ap (λ n. n.level) (g.old i lt);
  numbers = λ i slot lt. number_same ns ms (length ns) f.inner (λ j h. ap (λ n. n.numbers) (g.old j h)) (level_of ns i) i slot lt refl;
}

pub grows_itself : (ns : List Node) → IsForest ns → Grows ns ns
grows_itself ns f = record { forest = f; more = omega arith; old = λ i lt. refl; news = λ i from to. absurd (omega (arith, from, to)) }

pub grows_on : (ns ms ls : List Node) → Grows ns ms → Grows ms ls → Grows ns ls
grows_on ns ms ls a b =
    let more = a.more in
    let more' = b.more in
    record {
      forest = b.forest;
      more = omega (arith, more, more');
      old = λ i lt. b.old i (omega (arith, lt, more)) ∙ a.old i lt;
      news = λ i from to. elim (cases_lt i (length ms)) [
        | inl less ↦ ap (λ n. n.seen) (b.old i less) ∙ a.news i from less
        | inr past ↦ b.news i past to
      ];
    }

-- ---- a node that was made

module _ (ms ls : List Node) (id now : ℕ) (numbers : List ℕ) (f : IsForest ms) (known : id < length ms) (d : IsMade ms ls id numbers now) where
  -- each node is one from before, or the new one
  either : (i : ℕ) → i < length ls → ((i < length ms) × (node_at ls i ≡ node_at ms i)) ⊎ (i ≡ now)
  either i lt = elim (cases_lt i (length ms)) [
    | inl less ↦ inl (less, d.old i less)
    | inr past ↦ inr (d.last i past lt).0
  ]

  pub made_grows : ((j level : ℕ) → j < 16 → level_of ms id ≡ suc level → (get_or numbers j 0 < length ms) × (level_of ms (get_or numbers j 0) ≡ level)) → Grows ms ls
  made_grows children = record {
    forest = record {
      few = d.few;
      wide = λ i lt. elim (either i lt) [
        | inl e ↦ ap (λ n. length n.numbers) e.1 ∙ f.wide i e.0
        | inr e ↦ ap (λ k. length (node_at ls k).numbers) e ∙ d.wide
      ];
      low = λ i lt. elim (either i lt) [
        | inl e ↦ (let same : level_of ls i ≡ level_of ms i = ap (λ n. n.level) e.1 in let low = f.low i e.0 in omega (arith, same, low))
        | inr e ↦ (let same : level_of ls i ≡ level_of ms id = ap (level_of ls) e ∙ d.alike in let low = f.low id known in omega (arith, same, low))
      ];
      inner = λ i j level it jt up. elim (either i it) [
        | inl e ↦
            (let same : below ls i j ≡ below ms i j = ap (λ n. get_or n.numbers j 0) e.1 in
            let one = f.inner i j level e.0 jt (sym (ap (λ n. n.level) e.1) ∙ up) in
            let inside : below ms i j < length ms = one.0 in
            let more = d.more in
            (omega (arith, same, inside, more), ap (level_of ls) same ∙ ap (λ n. n.level) (d.old (below ms i j) inside) ∙ one.1))
        | inr e ↦
            (let same : below ls i j ≡ get_or numbers j 0 = ap (λ k. below ls k j) e ∙ d.each j jt in
            let one = children j level jt (sym (ap (level_of ls) e ∙ d.alike) ∙ up) in
            let inside : get_or numbers j 0 < length ms = one.0 in
            let more = d.more in
            (omega (arith, same, inside, more), ap (level_of ls) same ∙ ap (λ n. n.level) (d.old (get_or numbers j 0) inside) ∙ one.1))
      ];
    };
    more = d.more;
    old = d.old;
    news = λ i from to. (d.last i from to).1;
  }

  made_level : level_of ls now ≡ level_of ls id
  made_level = d.alike ∙ sym (ap (λ n. n.level) (d.old id known))

  -- a block
  pub made_block : (number by : ℕ) → level_of ms id ≡ 0 → ((k : ℕ) → k < 16 → get_or numbers k 0 ≡ replaced number by (below ms id k)) → IsReplaced ls (length ls) id number by now
  made_block number by flat each =
      let z : level_of ls id ≡ 0 = ap (λ n. n.level) (d.old id known) ∙ flat in
      let more = d.more in
      record {
        first = omega (arith, known, more);
        inside = d.inside;
        alike = made_level;
        numbers = λ slot.
            let low : slot % 16 < 16 = mod_below slot 16 (omega arith) in
            ap (λ l. number_at ls l now slot) z
            ∙ d.each (slot % 16) low
            ∙ each (slot % 16) low
            ∙ ap (λ n. replaced number by (get_or n.numbers (slot % 16) 0)) (sym (d.old id known))
            ∙ ap (λ l. replaced number by (number_at ls l id slot)) (sym z);
      }

  -- a node above others, by what came of those
  module _ (number by level : ℕ) (up : level_of ms id ≡ suc level) (each : (k : ℕ) → k < 16 → IsReplaced ms (length ms) (below ms id k) number by (get_or numbers k 0)) where
    children : (j l : ℕ) → j < 16 → level_of ms id ≡ suc l → (get_or numbers j 0 < length ms) × (level_of ms (get_or numbers j 0) ≡ l)
    children j l jt e = ((each j jt).inside, (each j jt).alike ∙ (f.inner id j l known jt e).1)

    pub made_above : Grows ms ls
    made_above = made_grows children

    pub made_inner : IsReplaced ls (length ls) id number by now
    made_inner =
        let more = d.more in
        let high : level_of ls id ≡ suc level = ap (λ n. n.level) (d.old id known) ∙ up in
        record {
          first = omega (arith, known, more);
          inside = d.inside;
          alike = made_level;
          numbers = λ slot.
              let p : ℕ = place_in slot (suc level) in
              let low : p < 16 = place_low slot (suc level) in
              let one = f.inner id p level known low up in
              let r = still_replaced ms ls (length ms) (length ls) (below ms id p) number by (get_or numbers p 0) (grown_same ms ls f made_above) more (each p low) in
              let flat : level_of ls (below ms id p) ≡ level = ap (λ n. n.level) (d.old (below ms id p) one.0) ∙ one.1 in
              ap (λ l. number_at ls l now slot) high
              ∙ ap (λ n. number_at ls level n slot) (d.each p low)
              ∙ ap (λ l. number_at ls l (get_or numbers p 0) slot) (sym flat)
              ∙ r.numbers slot
              ∙ ap (λ l. replaced number by (number_at ls l (below ms id p) slot)) flat
              ∙ ap (λ n. replaced number by (number_at ls level (get_or n.numbers p 0) slot)) (sym (d.old id known))
              ∙ ap (λ l. replaced number by (number_at ls l id slot)) (sym high);
        }

-- ---- what is remembered

pub remembered : (ns : List Node) (n id number by now : ℕ) (old new : Replacements) → KeepsReplaced old id number by now new → IsReplaced ns n id number by now → AreReplaced ns n old → AreReplaced ns n new
remembered ns n id number by now old new keeps is are = λ i k b x few small e. elim (keeps i k b x few small e) [
  | inl same ↦
      (let r = subst (λ y. IsReplaced ns n id number by y) (sym same.3) is in
      let s = subst (λ y. IsReplaced ns n id number y x) (sym same.2) r in
      let t = subst (λ y. IsReplaced ns n id y b x) (sym same.1) s in
      subst (λ y. IsReplaced ns n y k b x) (sym same.0) t)
  | inr before ↦ are i k b x few small before
]

-- nothing is remembered
pub none_replaced : (ns : List Node) (n : ℕ) (r : Replacements) → AreReplaced [] 0 r → AreReplaced ns n r
none_replaced ns n r none = λ id number by now few small e. let first = (none id number by now few small e).first in absurd (omega (arith, first))

-- ---- the steps of a replacement

-- where no outcome was remembered anew
pub more_nodes : (ns ms : List Node) (old new : Replacements) → IsForest ns → Grows ns ms → new.nodes ≡ old.nodes → AreReplaced ns (length ns) old → AreReplaced ms (length ms) new
more_nodes ns ms old new f g same are = λ id number by now few small e.
    still_replaced ns ms (length ns) (length ms) id number by now (grown_same ns ms f g) g.more
    (are id number by now few small (sym (ap (λ m. get nat_cmp m (key_of id number by)) same) ∙ e))

module _ (ns ms : List Node) (id : ℕ) (numbers : List ℕ) (f : IsForest ns) (known : id < length ns) where
  -- a block
  pub put_grows : (r : Result ℕ AllocError) → level_of ns id ≡ 0 → IfOk r (IsMade ns ms id numbers) → OnErr r (ms ≡ ns) → Grows ns ms
  put_grows (Ok now) flat made same = made_grows ns ms id now numbers f known made (λ j level jt e. absurd (omega (arith, e, flat)))
  put_grows (Err error) flat made same = subst (Grows ns) (sym same) (grows_itself ns f)

  pub put_block : (number by : ℕ) (r : Result ℕ AllocError) → level_of ns id ≡ 0 → ((k : ℕ) → k < 16 → get_or numbers k 0 ≡ replaced number by (below ns id k))
      → IfOk r (IsMade ns ms id numbers) → IfOk r (IsReplaced ms (length ms) id number by)
  put_block number by (Ok now) flat each made = made_block ns ms id now numbers f known made number by flat each
  put_block number by (Err error) flat each made = tt

-- a node above others, after each of those
module _ (ns ms ls : List Node) (id number by now : ℕ) (first numbers : List ℕ) (f : IsForest ns) (known : id < length ns) (up : level_of ns id ≢ 0)
    (at : first ≡ (node_at ns id).numbers) (g : Grows ns ms) (done : (k : ℕ) → k < 16 → IsReplaced ms (length ms) (get_or first k 0) number by (get_or numbers k 0))
    (d : IsMade ms ls id numbers now) where
  inside : id < length ms
  inside = let more = g.more in omega (arith, known, more)

  high : level_of ms id ≡ suc (level_of ns id - 1)
  high = ap (λ n. n.level) (g.old id known) ∙ (let e : level_of ns id ≡ suc (level_of ns id - 1) = grind (arith, up) in e)

  each : (k : ℕ) → k < 16 → IsReplaced ms (length ms) (below ms id k) number by (get_or numbers k 0)
  each k lt = subst (λ i. IsReplaced ms (length ms) i number by (get_or numbers k 0)) (ap (λ xs. get_or xs k 0) at ∙ sym (ap (λ n. get_or n.numbers k 0) (g.old id known))) (done k lt)

  pub step_above : Grows ms ls
  step_above = made_above ms ls id now numbers g.forest inside d number by (level_of ns id - 1) high each

  pub all_grown : Grows ns ls
  all_grown = grows_on ns ms ls g step_above

  pub all_is : IsReplaced ls (length ls) id number by now
  all_is = made_inner ms ls id now numbers g.forest inside d number by (level_of ns id - 1) high each
