use Rattle.std.proofs.Common.{◌≡◌, false, drop}
use Rattle.std.specs.List.{list_any}
use Rattle.std.specs.Prelude.{IfSome}
use Rattle.frames.specs.Conditions.{is_no}
use Rattle.verify.specs.declared.pass.handlers.Handler.{Handler}
use Rattle.verify.specs.private.pass.Following.{handler_answer, refuses}
use Rattle.verify.proofs.pass.handlers.any_refuses.Given as goal

abbrev pub invariant-loop-i : goal.invariant-loop-i
invariant-loop-i g l =
    let any = list_any (refuses l.fn.frames l.at) in
    record {
      same : l.frames ≡ l.fn.frames;
      left : any l.handlers ≡ any (drop l.i l.handlers);
      last : IfSome l.last (λ (one : Handler). is_no (handler_answer l.fn.frames one) ≡ false);
    }
