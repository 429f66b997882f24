use Rattle.std.proofs.Common.{ℕ, leb, cond, bit_or, refl, arith}
use Rattle.std.proofs.lemmas.Simd.{zip2_splat, length-chunk}
use lib.Lanes.{chunk}
use Rattle.names.specs.Forms.{is_plain}
use Rattle.names.proofs.Lanes.{joined, splat_is, passes_in}
use Rattle.names.proofs.plain_bytes.plain_of_eight.Goals as goal

pub returns : goal.returns
returns c =
    let v = chunk c.args.at 8 c.args.bytes.now in
    let long = length-chunk c.args.at 8 c.args.bytes.now c.requires in
    passes_in is_plain c.args.bytes.now c.args.at 8 _ _ c.requires (omega arith) c.type_inv.bytes c.first_set.ensures _
    (joined bit_or _ _ v (joined bit_or _ _ v (joined (λ a b. cond (leb a b) 255 0) _ _ v (zip2_splat {Y = ℕ} _ v 8 46 long) (splat_is v 8 1 long)) (joined (λ a b. cond (leb a b) 255 0) _ _ v (zip2_splat {Y = ℕ} _ v 8 59 long) (splat_is v 8 3 long))) (zip2_splat {Y = ℕ} _ v 8 91 long)) refl
