use Rattle.std.proofs.Common.{◌-◌, List, length}
use Rattle.classfile.specs.Methods.{ExceptionEntry}
use Rattle.method_frames.specs.NumberedFrames.{NumberedFrames}
use Rattle.verify.specs.private.pass.Following.{Follows}
use Rattle.verify.proofs.pass.handlers.Handlers.begin.Given as goal

abbrev pub invariant-loop-handler : goal.invariant-loop-handler
invariant-loop-handler l = (x : NumberedFrames) (es : List ExceptionEntry) → Follows x es l.at l.fn.self → Follows x es l.at l.self

abbrev pub decreases-loop-handler : goal.decreases-loop-handler
decreases-loop-handler l = length l.self.by_start.items - l.self.begun
