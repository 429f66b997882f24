use Rattle.std.proofs.Common.{◌≡◌, ◌∙◌, ℕ, length, map, get_or, Fits, w8, leb, cond, refl, sym, ap, inl, inr, arith}
use Rattle.std.proofs.lemmas.Bool.{cases_lt}
use Rattle.std.proofs.lemmas.List.{take_all, get_or_past}
use Rattle.std.proofs.lemmas.Simd.{zip2_splat, Each1-get_or}
use lib.Lanes.{chunk}
use Rattle.names.specs.Units.{is_single}
use Rattle.names.proofs.Lanes.{joined, splat_is, passes_in}
use Rattle.names.proofs.one_byte_units.single_in_block.Goals as goal

pub returns : goal.returns
returns c =
    let v = c.args.block in
    let long : length v ≡ 32 = c.requires in
    let whole : v ≡ chunk 0 32 v = sym (take_all 32 v (omega (arith, long))) in
    let fits : (k : ℕ) → Fits w8 (get_or v k 0) = λ k. elim (cases_lt k (length v)) [
      | inl within ↦ Each1-get_or (Fits w8) v k 0 within c.fits-block.1
      | inr past ↦ rw (get_or_past v k 0 past) (record { fits = omega arith })
    ] in
    let lanes = joined (λ a b. cond (leb a b) 255 0) _ _ v (splat_is v 32 127 long) (zip2_splat {Y = ℕ} _ v 32 1 long) in
    passes_in is_single v 0 32 _ _ (omega (arith, long)) (omega arith) fits c.first_set.ensures _ (lanes ∙ ap (map _) whole) refl
