-- A type that takes the place of an object's, wherever that stands (JVMS 4.10.1.9, new and invokespecial).
use Rattle.std.specs.Prelude.{ℕ, List, map}
use Rattle.frames.specs.VerificationType.{VerificationType}
use Rattle.frames.specs.FrameFact.{FrameFact}
use Rattle.rules.specs.After.{initialized, flag_after}

-- the frame in which an object, of which a constructor has returned, is of a class
abbrev pub initialized_frame : VerificationType → List ℕ → FrameFact → FrameFact
initialized_frame object name f = record {
  locals = map (initialized object name) f.locals;
  stack = map (initialized object name) f.stack;
  flag = flag_after object f.flag;
}
