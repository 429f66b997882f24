-- Whole frames, as the program tells those that a stack map declares.
use Rattle.std.specs.Prelude.{◌≡◌, ℕ, List, map, Result, Ok, Err, Vec}
use Rattle.std.specs.Global.{Global}
use Rattle.frames.specs.FrameFact.{FrameFact, frame_of}
use Rattle.frames.specs.Conditions.{Reason, reason}
use Rattle.frames.specs.FrameReasons.{frame_fault_number}
use Rattle.frames.specs.declared.frame.Frame.{Frame}
use Rattle.frames.specs.declared.frame_fault.FrameFault.{FrameFault}
use Rattle.frames.specs.declared.frame_fault.FrameFault.TheVariants.{OutOfMemory}

-- whole frames, each with its offset
abbrev pub whole_frames : List (ℕ × Frame) → List (ℕ × FrameFact)
whole_frames frames = map (λ x. (x.0, frame_of x.1)) frames

-- whole frames are told, or the reason against the first that is refused, unless memory ran out
abbrev pub AreTold : Result (List (ℕ × FrameFact)) Reason → Result (Vec (ℕ × Frame) Global) FrameFault → Type 0
AreTold answer (Ok frames) = answer ≡ Ok (whole_frames frames.items)
AreTold answer (Err OutOfMemory) = Unit {0}
AreTold answer (Err fault) = answer ≡ Err (reason (frame_fault_number fault))
