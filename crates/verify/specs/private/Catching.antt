-- The answer about the frame in which an instruction raises, where an entry of the exception table leads (JVMS
-- 4.10.1.6).
use Rattle.std.specs.Prelude.{List, Option, Some, None}
use Rattle.classfile.specs.Methods.{ExceptionEntry}
use Rattle.hierarchy.specs.Class.{ClassFact}
use Rattle.hierarchy.specs.Answer.{Outcome, no}
use Rattle.insn.specs.Offsets.{at_offset}
use Rattle.frames.specs.FrameFact.{FrameFact}
use Rattle.frames.specs.FrameAssignable.{frame_answer}
use Rattle.verify.specs.TypeSafety.{Frames, caught_frame}

-- a frame to the one that is declared, if one is
abbrev pub answer_at : List ClassFact → Option FrameFact → FrameFact → Outcome
answer_at classes None f = no
answer_at classes (Some declared) f = frame_answer classes f declared

-- the frame with what is caught alone on its stack, to that of the handler
abbrev pub caught_answer : List ClassFact → Frames → FrameFact → ExceptionEntry → Outcome
caught_answer classes frames f e = answer_at classes (at_offset frames e.handler) (caught_frame e f)
