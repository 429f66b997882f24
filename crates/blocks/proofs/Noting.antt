-- Nodes that are said to fit others, one after another.
use Rattle.std.proofs.Common.{◌≡◌, ◌≢◌, ◌∙◌, ℕ, suc, ◌+◌, ◌-◌, ◌*◌, ◌%◌, ◌<◌, inl, inr, List, length, get_or, set, Some, refl, sym, ap, subst, arith, length-set, get_or-set_same, get_or-set_other}
use Rattle.std.proofs.Math.Nat.{mod-eq_of_lt}
use Rattle.std.proofs.lemmas.Bool.{cases_eq}
use Rattle.std.proofs.lemmas.Nat.{pow_pos, mod_below, mod_low, shr_high, mul-add-lt}
use Rattle.blocks.specs.declared.node.Node.{Node}
use Rattle.blocks.specs.private.Blocks.{place_in}
use Rattle.blocks.specs.private.Trees.{no_node, node_at, level_of, below, number_at, width, IsForest, NotesOnly, IsNoted}
use Rattle.blocks.proofs.Places.{place_above, width_above, number_modulo}
use Rattle.blocks.proofs.Trees.{number_same}

-- numbers and levels stay, so what slots hold stays
module _ (ns ms : List Node) (level id wanted : ℕ) (f : IsForest ns) (n : NotesOnly ns ms level id wanted) where
  pub noted_numbers : (i slot : ℕ) → i < length ns → number_at ms (level_of ns i) i slot ≡ number_at ns (level_of ns i) i slot
  noted_numbers i slot lt = number_same ns ms (length ns) f.inner (λ j _. n.numbers j) (level_of ns i) i slot lt refl

  pub noted_below : (i place : ℕ) → below ms i place ≡ below ns i place
  noted_below i place = ap (λ xs. get_or xs place 0) (n.numbers i)

  pub noted_forest : IsForest ms
  noted_forest =
      let long = n.long in
      record {
        few = let few = f.few in omega (arith, few, long);
        wide = λ i lt. ap length (n.numbers i) ∙ f.wide i (omega (arith, lt, long));
        low = λ i lt. let e = n.levels i in let k = f.low i (omega (arith, lt, long)) in omega (arith, e, k);
        inner = λ i j at lt jt e.
            let one = f.inner i j at (omega (arith, lt, long)) jt (sym (n.levels i) ∙ e) in
            let same = noted_below i j in
            let less = one.0 in
            (omega (arith, same, less, long), ap (level_of ms) same ∙ n.levels (below ns i j) ∙ one.1);
      }

-- a slot of a node below is a slot of the node above
slot_above : (ns : List Node) (level id place k : ℕ) → place < 16 → k < width level
    → number_at ns level (below ns id place) k ≡ number_at ns (suc level) id (place * width level + k)
slot_above ns level id place k low less =
    let slot : ℕ = place * width level + k in
    let p : place_in slot (suc level) ≡ place =
    place_above slot level ∙ ap (λ n. n % 16) (shr_high place (4 + 4 * level) k less) ∙ mod-eq_of_lt low in
    number_modulo ns level (below ns id place) k slot (mod-eq_of_lt less ∙ sym (mod_low place (4 + 4 * level) k less))
    ∙ ap (λ n. number_at ns level (below ns id n) slot) (sym p)

-- one of the places below was noted
pub notes_below : (ns ms ls : List Node) (id wanted place : ℕ) → IsForest ns → id < length ns → wanted < length ns → level_of ns wanted ≡ level_of ns id
    → level_of ns id ≢ 0 → place < 16 → NotesOnly ns ms (level_of ns id) id wanted
    → NotesOnly ms ls (level_of ms (below ms id place)) (below ms id place) (below ms wanted place) → NotesOnly ns ls (level_of ns id) id wanted
notes_below ns ms ls id wanted place f known there alike up low n m =
    let level : ℕ = level_of ns id - 1 in
    let high : level_of ns id ≡ suc level = grind (arith, up) in
    let nlong = n.long in
    let mlong = m.long in
    let b = f.inner id place level known low high in
    let o = f.inner wanted place level there low (alike ∙ high) in
    let g = noted_forest ns ms (level_of ns id) id wanted f n in
    let at : level_of ms (below ms id place) ≡ level = ap (level_of ms) (noted_below ns ms (level_of ns id) id wanted f n id place) ∙ n.levels (below ns id place) ∙ b.1 in
    let under : (node k : ℕ) → node < length ns → level_of ns node ≡ suc level → k < width level
    → number_at ms (level_of ms (below ms id place)) (below ms node place) k ≡ number_at ns (level_of ns id) node (place * width level + k) =
    λ node k inside e less.
    let one = f.inner node place level inside low e in
    ap (λ l. number_at ms l (below ms node place) k) at
    ∙ ap (λ i. number_at ms level i k) (noted_below ns ms (level_of ns id) id wanted f n node place)
    ∙ ap (λ l. number_at ms l (below ns node place) k) (sym one.1)
    ∙ noted_numbers ns ms (level_of ns id) id wanted f n (below ns node place) k one.0
    ∙ ap (λ l. number_at ns l (below ns node place) k) one.1
    ∙ slot_above ns level node place k low less
    ∙ ap (λ l. number_at ns l node (place * width level + k)) (sym high) in
    record {
      long = omega (arith, nlong, mlong);
      numbers = λ i. m.numbers i ∙ n.numbers i;
      levels = λ i. m.levels i ∙ n.levels i;
      seen = λ i lt.
          elim (m.seen i (omega (arith, lt, nlong))) [
            | inl e ↦ elim (n.seen i lt) [
              | inl k ↦ inl (e ∙ k)
              | inr p ↦ inr (record { fit = p.fit; inside = p.inside; alike = p.alike; seen = e ∙ p.seen; parts = p.parts })
            ]
            | inr p ↦
                let inside = p.inside in
                let fit_in : p.fit < length ns = omega (arith, inside, nlong) in
                let same : level_of ns p.fit ≡ level_of ns i = sym (n.levels p.fit) ∙ p.alike ∙ n.levels i in
                inr (record {
                  fit = p.fit;
                  inside = fit_in;
                  alike = same;
                  seen = p.seen;
                  parts = λ slot.
                      let q = p.parts slot in
                      let k : ℕ = q.0 in
                      let less : k < width level = subst (λ l. k < width l) at q.1 in
                      let wide = width_above level in
                      let span : place * width level + k < width level * 16 = mul-add-lt place (width level) k 16 low less in (
                        place * width level + k,
                        subst (λ l. place * width level + k < width l) (sym high) (omega (arith, span, wide)),
                        ap (λ l. number_at ns l p.fit slot) (sym same)
                            ∙ sym (noted_numbers ns ms (level_of ns id) id wanted f n p.fit slot fit_in)
                            ∙ ap (λ l. number_at ms l p.fit slot) (same ∙ sym (n.levels i))
                            ∙ q.2
                            ∙ under id k known high less,
                        sym (noted_numbers ns ms (level_of ns id) id wanted f n i slot lt)
                            ∙ ap (λ l. number_at ms l i slot) (sym (n.levels i))
                            ∙ q.3
                            ∙ under wanted k there (alike ∙ high) less,
                      );
                })
          ];
    }

-- and at last the nodes themselves
pub notes_last : (ns ms : List Node) (id wanted : ℕ) → IsForest ns → id < length ns → wanted < length ns → level_of ns wanted ≡ level_of ns id
    → NotesOnly ns ms (level_of ns id) id wanted → IsNoted ns (set ms wanted (record (node_at ms wanted) { seen = Some id })) (level_of ns id) id wanted
notes_last ns ms id wanted f known there alike n =
    let ls : List Node = set ms wanted (record (node_at ms wanted) { seen = Some id }) in
    let long = n.long in
    let here : node_at ls wanted ≡ record (node_at ms wanted) { seen = Some id } = get_or-set_same ms wanted _ no_node (omega (arith, there, long)) in
    let other : (i : ℕ) → i ≢ wanted → node_at ls i ≡ node_at ms i = λ i ne. get_or-set_other ms wanted i _ no_node ne in
    record {
      only = record {
        long = length-set ms wanted _ ∙ long;
        numbers = λ i. elim (cases_eq i wanted) [
          | inl e ↦ ap (λ j. (node_at ls j).numbers) e ∙ ap (λ m. m.numbers) here ∙ ap (λ j. (node_at ms j).numbers) (sym e) ∙ n.numbers i
          | inr ne ↦ ap (λ m. m.numbers) (other i ne) ∙ n.numbers i
        ];
        levels = λ i. elim (cases_eq i wanted) [
          | inl e ↦ ap (level_of ls) e ∙ ap (λ m. m.level) here ∙ ap (level_of ms) (sym e) ∙ n.levels i
          | inr ne ↦ ap (λ m. m.level) (other i ne) ∙ n.levels i
        ];
        seen = λ i lt. elim (cases_eq i wanted) [
          | inl e ↦ inr (record {
            fit = id;
            inside = known;
            alike = sym alike ∙ ap (level_of ns) (sym e);
            seen = ap (λ j. (node_at ls j).seen) e ∙ ap (λ m. m.seen) here;
            parts = λ slot.
                let w : ℕ = width (level_of ns id) in
                let low : slot % w < w = mod_below slot w (pow_pos (4 + 4 * level_of ns id)) in
                let level : level_of ns i ≡ level_of ns id = ap (level_of ns) e ∙ alike in
                let same = mod-eq_of_lt low in (
                  slot % w,
                  low,
                  ap (λ l. number_at ns l id slot) level ∙ number_modulo ns (level_of ns id) id slot (slot % w) (sym same),
                  ap (λ l. number_at ns l i slot) level ∙ ap (λ j. number_at ns (level_of ns id) j slot) e ∙ number_modulo ns (level_of ns id) wanted slot (slot % w) (sym same),
                );
          })
          | inr ne ↦ elim (n.seen i lt) [
            | inl k ↦ inl (ap (λ m. m.seen) (other i ne) ∙ k)
            | inr p ↦ inr (record { fit = p.fit; inside = p.inside; alike = p.alike; seen = ap (λ m. m.seen) (other i ne) ∙ p.seen; parts = p.parts })
          ]
        ];
      };
      done = inr (inl (ap (λ m. m.seen) here));
    }
