use Rattle.std.proofs.Common.{◌≡◌, drop}
use Rattle.verify.specs.private.Targets.{any_refuses}
use Rattle.verify.proofs.pass.targets.any_refuses.Given as goal

abbrev pub invariant-loop-i : goal.invariant-loop-i
invariant-loop-i g l =
    let any = any_refuses l.fn.frames in
    record {
      same : l.frames ≡ l.fn.frames;
      left : any l.declared ≡ any (drop l.i l.declared);
    }
