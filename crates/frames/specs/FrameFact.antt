-- Frames (JVMS 4.10.1.4): the types of the locals and of the operand stack, and the flag.
use Rattle.std.specs.Prelude.{List, Bool, map, reverse}
use Rattle.frames.specs.declared.frame.Frame.{Frame}
use Rattle.frames.specs.VerificationType.{VerificationType, type_of}

-- the locals from 0 up, the stack with its top first, and whether the own object is uninitialized
pub record FrameFact : Type 0 where
  pub locals : List VerificationType
  pub stack : List VerificationType
  pub flag : Bool

abbrev pub frame_of : Frame → FrameFact
frame_of f = record { locals = map type_of f.locals.items; stack = reverse (map type_of f.stack.items); flag = f.flag }
