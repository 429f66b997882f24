-- The frames that a method's stack map declares, as frames of a method whose types are numbers (JVMS 4.7.4).
use Rattle.std.specs.Prelude.{◌≡◌, ℕ, ◌≤◌, ◌<◌, List, [], length, replicate, slice_index, Option, Some, Result, Ok, Err}
use Rattle.std.specs.Option.{option_and_then}
use Rattle.layout.specs.declared.fault.ReadFault.{ReadFault}
use Rattle.classfile.specs.Methods.{Method}
use Rattle.insn.specs.Meanings.{Act}
use Rattle.frames.specs.Conditions.{reason}
use Rattle.frames.specs.FrameReasons.{frame_fault_number}
use Rattle.frames.specs.RefusedEntries.{refused_of}
use Rattle.frames.specs.Slots.{units_of}
use Rattle.frames.specs.StackMaps.{MapEntry}
use Rattle.type_numbers.specs.Numbers.{IsGiven}
use Rattle.type_numbers.specs.Decoding.{types_by}
use Rattle.method_frames.specs.NumberedFrames.{NumberedFrames}
use Rattle.method_frames.specs.MapFrames.{frames_by}
use Rattle.numbered_rules.specs.RunningFrame.{held}
use Rattle.verify.specs.InitialFrames.{initial_types, initial_frame}
use Rattle.verify.specs.Details.{DetailFact, refused_detail, faulty_detail, map_detail_of}
use Rattle.verify.specs.Verdict.{MapRefusal, unreadable, undeclared, frames_of}
use Rattle.verify.specs.declared.stack_maps.MapRefusal as program
use Rattle.verify.specs.declared.stack_maps.MapRefusal.TheVariants.{Unreadable, Undeclared}

-- no frame is declared yet, and all locals are top
pub record IsFresh (x : NumberedFrames) (m : Method Act) : Type 0 where
  pub none : x.declared ≡ []
  pub top : x.running.locals ≡ replicate m.max_locals 0
  pub limit : x.limit ≡ m.max_stack

-- these are the numbers of the types with which the method begins, which fit
pub record BeginsWith (x : NumberedFrames) (m : Method Act) (initial : List ℕ) : Type 0 where
  pub types : types_by x.types initial ≡ initial_types m
  pub given : (i : ℕ) → i < length initial → IsGiven x.types (slice_index initial i)
  pub fits : units_of (initial_types m) ≤ m.max_locals

-- why a stack map is refused
abbrev pub refusal_of : program.MapRefusal → MapRefusal
refusal_of (Unreadable fault) = unreadable fault
refusal_of (Undeclared entry) = undeclared (reason (frame_fault_number entry.fault))

-- the entry for which it is
abbrev pub detail_for : Method Act → program.MapRefusal → Option DetailFact
detail_for m (Unreadable fault) = option_and_then faulty_detail m.stack_map
detail_for m (Undeclared entry) = Some (refused_detail (refused_of entry))

-- By what was read of the method's stack map: the frames are declared, and the running one is that with which the
-- method begins; or the map is refused so.
abbrev pub DeclaresMap : NumberedFrames → Method Act → Result (List MapEntry) ReadFault
    → Result Unit program.MapRefusal → Type 0
DeclaresMap x m read (Ok u) = (frames_of m read ≡ Ok (frames_by x.types x.declared)) × (held x ≡ initial_frame m)
DeclaresMap x m read (Err why) = (frames_of m read ≡ Err (refusal_of why)) × (map_detail_of m read ≡ detail_for m why)
