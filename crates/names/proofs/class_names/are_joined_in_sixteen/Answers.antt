use Rattle.std.proofs.Common.{ℕ, ◌+◌, leb, cond, bit_or, refl, arith}
use Rattle.std.proofs.lemmas.Simd.{zip2_splat, length-chunk}
use lib.Lanes.{chunk}
use Rattle.names.proofs.Lanes.{joined, splat_is}
use Rattle.names.proofs.JoinedLanes.{all_joined}
use Rattle.names.proofs.class_names.are_joined_in_sixteen.Goals as goal

pub returns : goal.returns
returns c none =
    let bytes = c.args.bytes.now in
    let at = c.args.at in
    let room = c.requires in
    let v = chunk at 16 bytes in
    let long = length-chunk at 16 bytes (omega (arith, room)) in
    let long_next = length-chunk (at + 1) 16 bytes (omega (arith, room)) in
    all_joined bytes at 16 (omega (arith, room)) (omega arith) c.type_inv.bytes _ _ _ _ _ _ (zip2_splat {Y = ℕ} _ v 16 47 long) (zip2_splat {Y = ℕ} _ (chunk (at + 1) 16 bytes) 16 47 long_next)
    (joined (λ a b. cond (leb a b) 255 0) _ _ v (zip2_splat {Y = ℕ} _ v 16 59 long) (splat_is v 16 3 long))
    (joined bit_or _ _ v (zip2_splat {Y = ℕ} _ v 16 91 long) (zip2_splat {Y = ℕ} _ v 16 46 long))
    none refl refl
