use Rattle.std.proofs.Common.{◌≡◌, Result}
use Rattle.insn.specs.Branching.{targets_of}
use Rattle.rules.specs.declared.reason.Reason.{Reason}
use Rattle.verify.specs.private.Targets.{AreJudgedInTurn}
use Rattle.verify.proofs.pass.targets.check_in_turn.Given as goal

abbrev pub invariant-loop-target : goal.invariant-loop-target
invariant-loop-target g l = record {
  same : l.frames ≡ l.fn.frames;
  left : (r : Result Unit Reason) → AreJudgedInTurn l.fn.frames (targets_of l.target-iterator) r → AreJudgedInTurn l.fn.frames (targets_of l.fn.targets) r;
}
