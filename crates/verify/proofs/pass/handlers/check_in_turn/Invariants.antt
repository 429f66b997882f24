use Rattle.std.proofs.Common.{◌≡◌, List, Result, drop}
use Rattle.std.specs.Prelude.{IfSome}
use Rattle.classfile.specs.Methods.{ExceptionEntry}
use Rattle.hierarchy.specs.Answer.{yes}
use Rattle.method_frames.specs.MapFrames.{frames_by}
use Rattle.numbered_rules.specs.RunningFrame.{held}
use Rattle.rules.specs.declared.reason.Reason.{Reason}
use Rattle.verify.specs.Verdict.{handler_conditions}
use Rattle.verify.specs.declared.pass.handlers.Handler.{Handler}
use Rattle.verify.specs.private.InTurn.{IsJudgedInTurn}
use Rattle.verify.specs.private.pass.Following.{AreHandlers, handler_answer, one_handler_at}
use Rattle.verify.proofs.pass.handlers.check_in_turn.Given as goal

abbrev pub invariant-loop-i : goal.invariant-loop-i
invariant-loop-i g l =
    let x = l.fn.frames in
    let fs = frames_by x.types x.declared in
    let in_turn = IsJudgedInTurn (one_handler_at x.types.classes fs l.at (held x)) (handler_conditions x.types.classes fs l.at (held x)) in
    record {
      same : l.frames ≡ x;
      left : (es : List ExceptionEntry) → AreHandlers x.types x.declared es l.table → (r : Result Unit Reason) → in_turn (drop l.i es) r → in_turn es r;
      last : IfSome l.last (λ (one : Handler). handler_answer x one ≡ yes);
    }
