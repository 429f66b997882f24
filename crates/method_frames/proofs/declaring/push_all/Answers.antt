use Rattle.std.proofs.Common.{subst, sym, get_or, arith}
use Rattle.type_numbers.specs.Numbers.{IsGiven}
use Rattle.method_frames.proofs.declaring.push_all.Goals as goal

pub push-requires : goal.push-requires
push-requires g c =
    subst (λ y. IsGiven y.types (get_or c.args.numbers.now c.loop-i.i 0)) (sym c.loop-i.invariant.rest) (c.requires.given c.loop-i.i (omega (arith, c.loop-i-test.true)))
