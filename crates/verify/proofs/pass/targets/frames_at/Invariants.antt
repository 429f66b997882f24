use Rattle.std.proofs.Common.{◌≡◌, ◌++◌, ℕ, List, Some}
use Rattle.insn.specs.Branching.{targets_of}
use Rattle.frames.specs.Conditions.{least, reason}
use Rattle.verify.specs.private.Targets.{AreFound, all_targets}
use Rattle.verify.proofs.pass.targets.frames_at.Given as goal

abbrev pub invariant-loop-target : goal.invariant-loop-target
invariant-loop-target g l =
    let x = l.frames in
    let all = targets_of l.fn.targets in
    let left = targets_of l.target-iterator in
    record {
      none : least (all_targets x left) ≡ Some (reason 67) → least (all_targets x all) ≡ Some (reason 67);
      found : (more : List ℕ) → AreFound x left more → AreFound x all (l.found.items ++ more);
    }
