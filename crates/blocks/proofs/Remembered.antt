-- Knowledge about nodes, which holds in copies of them.
use Rattle.std.proofs.Common.{◌≡◌, ◌∙◌, ◌⊎◌, Some, subst, ℕ, zero, suc, ◌+◌, ◌*◌, ◌/◌, ◌%◌, ◌<◌, inl, inr, true, ◌||◌, eq-eqb, List, length, refl, sym, ap, arith}
use Rattle.std.specs.Prelude.{nat_eq}
use Rattle.blocks.specs.Rows.{is_decided}
use Rattle.std.proofs.lemmas.Nat.{pow_pos, mod_below, div-add-mod'}
use Rattle.blocks.specs.declared.node.Node.{Node}
use Rattle.blocks.specs.private.Blocks.{place_in}
use Rattle.blocks.specs.private.Trees.{node_at, level_of, number_at, width, IsKnown, IsSettledBelow, IsSettledUpTo, IsCopyOf, IsRemembered, IsKnownToFit}
use Rattle.blocks.proofs.Trees.{place_low}

copy_number : (ns : List Node) (copy wanted : ℕ) → IsCopyOf ns copy wanted → (level slot : ℕ) → number_at ns level copy slot ≡ number_at ns level wanted slot
copy_number ns copy wanted c zero slot = c.same (slot % 16) (mod_below slot 16 (omega arith))
copy_number ns copy wanted c (suc level) slot = ap (λ n. number_at ns level n slot) (c.same (place_in slot (suc level)) (place_low slot (suc level)))

module _ (ns : List Node) (id wanted : ℕ) (r : IsRemembered ns id wanted) (alike : level_of ns wanted ≡ level_of ns id) where
  pub remembered_known : (k : ℕ) → IsKnown ns (number_at ns (level_of ns id) id k) (number_at ns (level_of ns id) wanted k)
  remembered_known k =
      let level : level_of ns r.copy ≡ level_of ns id = r.is.alike ∙ alike in
      record {
        node = r.copy;
        fit = id;
        slot = k;
        inside = r.is.inside;
        seen = r.seen;
        fits = ap (λ l. number_at ns l id k) (sym level);
        asks = sym (copy_number ns r.copy wanted r.is (level_of ns id) k) ∙ ap (λ l. number_at ns l r.copy k) (sym level);
      }

-- a node that is known to fit another is settled up to its end
module _ (ns : List Node) (id wanted : ℕ) (there : wanted < length ns) (alike : level_of ns wanted ≡ level_of ns id) (known : IsKnownToFit ns id wanted) where
  same_decided : (n : ℕ) → is_decided n n ≡ true
  same_decided n = ap (λ b. b || nat_eq n 0) (eq-eqb n n refl)

  all_settled : (k : ℕ) → IsSettledBelow ns (level_of ns id) id wanted k
  all_settled k = elim known [
    | inl e ↦ inl (ap (λ i. is_decided (number_at ns (level_of ns id) id k) (number_at ns (level_of ns id) i k)) (sym e) ∙ same_decided (number_at ns (level_of ns id) id k))
    | inr told ↦ inr (elim told [
      | inl seen ↦ record {
        node = wanted;
        fit = id;
        slot = k;
        inside = there;
        seen = seen;
        fits = ap (λ l. number_at ns l id k) (sym alike);
        asks = ap (λ l. number_at ns l wanted k) (sym alike);
      }
      | inr r ↦ remembered_known ns id wanted r alike k
    ])
  ]

  pub settled_known : (slot end : ℕ) → end ≡ (slot / width (level_of ns id) + 1) * width (level_of ns id) → IsSettledUpTo ns (level_of ns id) id wanted slot end
  settled_known slot end e =
      let w : ℕ = width (level_of ns id) in
      let low : slot % w < w = mod_below slot w (pow_pos (4 + 4 * level_of ns id)) in
      let split = div-add-mod' slot w in
      let past : slot < end = omega (arith, e, low, split) in
      record {
        ahead = omega (arith, past);
        within = omega (arith, e);
        settled = λ k _ _. all_settled k;
        stop = λ is. absurd (omega (arith, is, past));
      }

-- and a block that is another, or was the last that was said to fit it
pub settled_block : (ns : List Node) (id wanted slot : ℕ) → wanted < length ns → level_of ns id ≡ 0 → level_of ns wanted ≡ 0
    → (id ≡ wanted) ⊎ ((node_at ns wanted).seen ≡ Some id) → IsSettledUpTo ns 0 id wanted slot (slot / 16 * 16 + 16)
settled_block ns id wanted slot there block beside fit =
    subst (λ l. IsSettledUpTo ns l id wanted slot (slot / 16 * 16 + 16)) block
    (settled_known ns id wanted there (beside ∙ sym block) (elim fit [ inl e ↦ inl e | inr s ↦ inr (inl s) ]) slot (slot / 16 * 16 + 16)
    (subst (λ l. slot / 16 * 16 + 16 ≡ (slot / width l + 1) * width l) (sym block) (let e : slot / 16 * 16 + 16 ≡ (slot / 16 + 1) * 16 = omega arith in e)))
