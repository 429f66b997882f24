use Rattle.std.proofs.Common.{ℕ, refl, arith}
use Rattle.std.proofs.lemmas.Simd.{zip2_splat, length-chunk}
use lib.Lanes.{chunk}
use Rattle.names.proofs.Lanes.{passes_in}
use Rattle.type_numbers.specs.private.SpelledTypes.{is_other}
use Rattle.type_numbers.proofs.spelled_types.others_in_sixteen.Goals as goal

pub returns : goal.returns
returns c =
    let v = chunk c.args.at 16 c.args.bytes.now in
    let long = length-chunk c.args.at 16 c.args.bytes.now c.requires in
    passes_in is_other c.args.bytes.now c.args.at 16 _ _ c.requires (omega arith) c.type_inv.bytes c.first_set.ensures _ (zip2_splat {Y = ℕ} _ v 16 59 long) refl
