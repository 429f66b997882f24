-- Slots below two nodes, decided or known to fit, or with equal numbers.
use Rattle.std.proofs.Common.{◌≡◌, ◌≢◌, ◌∙◌, ◌≤◌, ℕ, suc, ◌-◌, ◌+◌, ◌*◌, ◌/◌, ◌%◌, ◌<◌, true, false, inl, inr, List, length, Some, sym, ap, subst, arith}
use Rattle.std.proofs.lemmas.Bool.{cases_lt}
use Rattle.std.proofs.lemmas.Nat.{mod_low, mod_below, div-add-mod'}
use Rattle.blocks.specs.declared.node.Node.{Node}
use Rattle.blocks.specs.Rows.{is_decided}
use Rattle.blocks.specs.private.Blocks.{place_in, IsFirstLane, IsFirstNewLane}
use Rattle.blocks.specs.private.Trees.{node_at, level_of, below, number_at, IsForest, IsSettledBelow, IsSettledUpTo, IsEqualBelow, IsEqualUpTo}
use Rattle.blocks.proofs.Places.{place_within, end_above}
use Rattle.blocks.proofs.Trees.{place_low}

-- the nodes below two of one level, at a slot's place
module _ (ns : List Node) (id wanted slot place end : ℕ) (f : IsForest ns) (known : id < length ns) (there : wanted < length ns)
    (alike : level_of ns wanted ≡ level_of ns id) (up : level_of ns id ≢ 0) (at : place ≡ place_in slot (level_of ns id)) where
  abbrev level : ℕ
  level = level_of ns id - 1

  high : level_of ns id ≡ suc level
  high = grind (arith, up)

  low : place < 16
  low = let k = place_low slot (level_of ns id) in omega (arith, at, k)

  left : (below ns id place < length ns) × (level_of ns (below ns id place) ≡ level)
  left = f.inner id place level known low high

  right : (below ns wanted place < length ns) × (level_of ns (below ns wanted place) ≡ level)
  right = f.inner wanted place level there low (alike ∙ high)

  pub both_below : (level_of ns (below ns id place) < level_of ns id) × (below ns id place < length ns) × (below ns wanted place < length ns)
      × (level_of ns (below ns wanted place) ≡ level_of ns (below ns id place))
  both_below = let e = left.1 in (omega (arith, e, high), left.0, right.0, right.1 ∙ sym left.1)

  place_is : place ≡ place_in slot (suc level)
  place_is = at ∙ ap (place_in slot) high

  pub settled_above : IsSettledUpTo ns (level_of ns (below ns id place)) (below ns id place) (below ns wanted place) slot end → IsSettledUpTo ns (level_of ns id) id wanted slot end
  settled_above h =
      let here = subst (λ n. IsSettledUpTo ns n (below ns id place) (below ns wanted place) slot end) left.1 h in
      subst (λ n. IsSettledUpTo ns n id wanted slot end) (sym high) (record {
        ahead = here.ahead;
        within = end_above slot level end here.within;
        settled = λ k from to.
            let less = here.within in
            let e : place_in k (suc level) ≡ place = place_within slot k level from (omega (arith, to, less)) ∙ sym place_is in
            subst (λ p. IsSettledBelow ns level (below ns id p) (below ns wanted p) k) (sym e) (here.settled k from to);
        stop = λ e. subst (λ p. is_decided (number_at ns level (below ns id p) slot) (number_at ns level (below ns wanted p) slot) ≡ false) place_is (here.stop e);
      })

  pub equal_above : IsEqualUpTo ns (level_of ns (below ns id place)) (below ns id place) (below ns wanted place) slot end → IsEqualUpTo ns (level_of ns id) id wanted slot end
  equal_above h =
      let here = subst (λ n. IsEqualUpTo ns n (below ns id place) (below ns wanted place) slot end) left.1 h in
      subst (λ n. IsEqualUpTo ns n id wanted slot end) (sym high) (record {
        ahead = here.ahead;
        within = end_above slot level end here.within;
        equal = λ k from to.
            let less = here.within in
            let e : place_in k (suc level) ≡ place = place_within slot k level from (omega (arith, to, less)) ∙ sym place_is in
            subst (λ p. IsEqualBelow ns level (below ns id p) (below ns wanted p) k) (sym e) (here.equal k from to);
        stop = λ e. subst (λ p. number_at ns level (below ns id p) slot ≢ number_at ns level (below ns wanted p) slot) place_is (here.stop e);
      })

-- two blocks, the second of which was fitted by a third: lanes are decided up to one, and from there on decided or as in the third
module _ (ns : List Node) (id wanted fit slot first lane : ℕ) (there : wanted < length ns) (block : level_of ns wanted ≡ 0) (seen : (node_at ns wanted).seen ≡ Some fit)
    (one : IsFirstLane (node_at ns id).numbers (node_at ns wanted).numbers (slot % 16) first)
    (two : IsFirstNewLane (node_at ns id).numbers (node_at ns wanted).numbers (node_at ns fit).numbers first lane) where
  block_settled : (k j : ℕ) → k % 16 ≡ j → slot % 16 ≤ j → j < lane → IsSettledBelow ns 0 id wanted k
  block_settled k j e from to =
      let decided = λ (d : is_decided (below ns id j) (below ns wanted j) ≡ true). subst (λ m. is_decided (below ns id m) (below ns wanted m) ≡ true) (sym e) d in
      elim (cases_lt j first) [
        | inl less ↦ inl (decided (one.decided j from less))
        | inr past ↦ elim (two.settled j past to) [
          | inl d ↦ inl (decided d)
          | inr same ↦ inr (record {
            node = wanted;
            fit = fit;
            slot = k;
            inside = there;
            seen = seen;
            fits = ap (below ns id) e ∙ same ∙ ap (below ns fit) (sym e) ∙ ap (λ l. number_at ns l fit k) (sym block);
            asks = ap (λ l. number_at ns l wanted k) (sym block);
          })
        ]
      ]

  pub settled_by_new : IsSettledUpTo ns 0 id wanted slot (slot / 16 * 16 + lane)
  settled_by_new =
      let split = div-add-mod' slot 16 in
      let few = two.few in
      let ahead = one.ahead in
      let more = two.ahead in
      record {
        ahead = omega (arith, split, ahead, more);
        within = omega (arith, few);
        settled = λ k from to.
            let j : ℕ = k - slot / 16 * 16 in
            let is : k ≡ slot / 16 * 16 + j = omega (arith, split, from) in
            let low : j < lane = omega (arith, is, to) in
            block_settled k j (ap (λ n. n % 16) is ∙ mod_low (slot / 16) 4 j (omega (arith, low, few))) (omega (arith, split, from)) low;
        stop = λ e.
            let at : lane ≡ slot % 16 = omega (arith, split, e) in
            let low : slot % 16 < 16 = mod_below slot 16 (omega arith) in
            subst (λ m. is_decided (below ns id m) (below ns wanted m) ≡ false) at (two.stop (omega (arith, at, low)));
      }
