-- The places of a slot on its way down, and slots that share them.
use Rattle.std.proofs.Common.{◌≡◌, ◌∙◌, ℕ, zero, suc, ◌+◌, ◌*◌, ◌%◌, ◌/◌, ◌^◌, ◌<◌, ◌≤◌, List, sym, ap, subst, arith}
use Rattle.std.proofs.Math.Nat.{mul-le-mul_left}
use Rattle.std.proofs.lemmas.Nat.{pow_pos, pow-add, shr-shr, mod-pow-add, mod_low, shr_high, le-div, div_below, mod_below, div-add-mod'}
use Rattle.blocks.specs.declared.node.Node.{Node}
use Rattle.blocks.specs.private.Blocks.{place_in}
use Rattle.blocks.specs.private.Trees.{below, number_at, width}

four : (level : ℕ) → 4 * suc level ≡ 4 + 4 * level
four level = omega arith

-- the place in a node above is the slot's number among the nodes of the level below, by sixteens
pub place_above : (slot level : ℕ) → place_in slot (suc level) ≡ slot / width level % 16
place_above slot level = ap (λ n. slot / 2 ^ n % 16) (four level)

-- a slot below a node one level up
pub width_above : (level : ℕ) → width (suc level) ≡ 16 * width level
width_above level = ap (λ n. 2 ^ (4 + n)) (four level) ∙ pow-add 2 4 (4 + 4 * level)

pub split_above : (slot level : ℕ) → slot % width (suc level) ≡ place_in slot (suc level) * width level + slot % width level
split_above slot level =
    ap (λ n. slot % 2 ^ (4 + n)) (four level)
    ∙ mod-pow-add slot 4 (4 + 4 * level)
    ∙ ap (λ n. n * width level + slot % width level) (sym (place_above slot level))

pub same_place : (a b level : ℕ) → a % width (suc level) ≡ b % width (suc level) → (place_in a (suc level) ≡ place_in b (suc level)) × (a % width level ≡ b % width level)
same_place a b level e =
    let s = sym (split_above a level) ∙ e ∙ split_above b level in
    let la : a % width level < width level = mod_below a (width level) (pow_pos (4 + 4 * level)) in
    let lb : b % width level < width level = mod_below b (width level) (pow_pos (4 + 4 * level)) in (
      sym (shr_high (place_in a (suc level)) (4 + 4 * level) (a % width level) la) ∙ ap (λ n. n / width level) s ∙ shr_high (place_in b (suc level)) (4 + 4 * level) (b % width level) lb,
      sym (mod_low (place_in a (suc level)) (4 + 4 * level) (a % width level) la) ∙ ap (λ n. n % width level) s ∙ mod_low (place_in b (suc level)) (4 + 4 * level) (b % width level) lb,
    )

-- slots that are equal but for what lies above a level have one number below a node of it
pub number_modulo : (ns : List Node) (level id a b : ℕ) → a % width level ≡ b % width level → number_at ns level id a ≡ number_at ns level id b
number_modulo ns zero id a b e = ap (below ns id) e
number_modulo ns (suc level) id a b e =
    let s = same_place a b level e in
    number_modulo ns level (below ns id (place_in a (suc level))) a b s.1
    ∙ ap (λ n. number_at ns level (below ns id n) b) s.0

-- a slot from another on, before the end of its node, has its place above
pub place_within : (slot k level : ℕ) → slot ≤ k → k < (slot / width level + 1) * width level → place_in k (suc level) ≡ place_in slot (suc level)
place_within slot k level from to =
    let w : ℕ = width level in
    let positive : 0 < w = pow_pos (4 + 4 * level) in
    let up : k / w < slot / w + 1 = div_below k w (slot / w + 1) positive to in
    let split = div-add-mod' slot w in
    let down : slot / w ≤ k / w = le-div (slot / w) k w positive (omega (arith, split, from)) in
    place_above k level
    ∙ ap (λ n. n % 16) (let e : k / w ≡ slot / w = omega (arith, up, down) in e)
    ∙ sym (place_above slot level)

rounded : (q w d end : ℕ) → q < d * 16 + 16 → end ≤ (q + 1) * w → end ≤ (d + 1) * (16 * w)
rounded q w d end less h =
    let more : w * (q + 1) ≤ w * (d * 16 + 16) = mul-le-mul_left w (omega (arith, less)) in
    omega (arith, h, more)

pub end_above : (slot level end : ℕ) → end ≤ (slot / width level + 1) * width level → end ≤ (slot / width (suc level) + 1) * width (suc level)
end_above slot level end h =
    let e : slot / width (suc level) ≡ slot / width level / 16 =
    ap (λ n. slot / 2 ^ n) (let k : 4 + 4 * suc level ≡ 4 + 4 * level + 4 = omega arith in k) ∙ sym (shr-shr slot (4 + 4 * level) 4) in
    let split = div-add-mod' (slot / width level) 16 in
    let low = mod_below (slot / width level) 16 (omega arith) in
    subst (λ n. end ≤ (n + 1) * width (suc level)) (sym e)
    (subst (λ n. end ≤ (slot / width level / 16 + 1) * n) (sym (width_above level))
    (rounded (slot / width level) (width level) (slot / width level / 16) end (omega (arith, split, low)) h))
