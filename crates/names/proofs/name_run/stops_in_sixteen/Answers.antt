use Rattle.std.proofs.Common.{ℕ, ◌-◌, bit_or, bit_and, refl, arith}
use Rattle.std.proofs.lemmas.Simd.{zip2_splat, length-chunk}
use lib.Lanes.{chunk}
use Rattle.names.proofs.Lanes.{joined}
use Rattle.names.proofs.RunLaws.{is_lane, others, paired_of, mask_is_small, mask_stops}
use Rattle.names.proofs.name_run.stops_in_sixteen.Goals as goal

pub returns-clause-few : goal.returns-clause-few
returns-clause-few c =
    let v = chunk c.args.at 16 c.args.bytes.now in
    let p = chunk (c.args.at - 1) 16 c.args.bytes.now in
    let long = length-chunk c.args.at 16 c.args.bytes.now c.requires.room in
    let room = c.requires.room in
    let before = length-chunk (c.args.at - 1) 16 c.args.bytes.now (omega (arith, room)) in
    mask_is_small c.args.bytes.now c.args.at _ c.requires.behind c.requires.room _
    (paired_of bit_or bit_and others (is_lane 47) (is_lane 47) v p
    (joined bit_or _ _ v (joined bit_or _ _ v (zip2_splat {Y = ℕ} _ v 16 46 long) (zip2_splat {Y = ℕ} _ v 16 59 long)) (zip2_splat {Y = ℕ} _ v 16 91 long))
    (zip2_splat {Y = ℕ} _ v 16 47 long) (zip2_splat {Y = ℕ} _ p 16 47 before)) refl

pub returns-clause-stops : goal.returns-clause-stops
returns-clause-stops c =
    let v = chunk c.args.at 16 c.args.bytes.now in
    let p = chunk (c.args.at - 1) 16 c.args.bytes.now in
    let long = length-chunk c.args.at 16 c.args.bytes.now c.requires.room in
    let room = c.requires.room in
    let before = length-chunk (c.args.at - 1) 16 c.args.bytes.now (omega (arith, room)) in
    mask_stops c.args.bytes.now c.args.at _ c.requires.behind c.requires.room _
    (paired_of bit_or bit_and others (is_lane 47) (is_lane 47) v p
    (joined bit_or _ _ v (joined bit_or _ _ v (zip2_splat {Y = ℕ} _ v 16 46 long) (zip2_splat {Y = ℕ} _ v 16 59 long)) (zip2_splat {Y = ℕ} _ v 16 91 long))
    (zip2_splat {Y = ℕ} _ v 16 47 long) (zip2_splat {Y = ℕ} _ p 16 47 before)) refl c.type_inv.bytes
