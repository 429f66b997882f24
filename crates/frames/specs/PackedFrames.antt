-- Frames with their slots, and the answers for their places one by one: the locals from 0 up, then the stack from the
-- bottom up.
use Rattle.std.specs.Prelude.{◌≡◌, List, [], ◌∷◌}
use Rattle.hierarchy.specs.Class.{ClassFact}
use Rattle.hierarchy.specs.Answer.{Outcome, yes}
use Rattle.frames.specs.declared.packed_frame.Packed.{Packed}
use Rattle.frames.specs.FrameFact.{frame_of}
use Rattle.frames.specs.FrameAssignable.{both}
use Rattle.frames.specs.Meaning.{slot_answers}
use Rattle.frames.specs.Packing.{slots_of}

-- the slots are those of the frame in this hierarchy
abbrev pub IsPacked : List ClassFact → Packed → Type 0
IsPacked classes p = p.slots.items ≡ slots_of classes (frame_of p.frame)

-- the answers for all places of two frames
abbrev pub place_answers : List ClassFact → Packed → Packed → List Outcome
place_answers classes p q = slot_answers classes (frame_of p.frame) (frame_of q.frame)

-- many answers as one
abbrev pub joined : List Outcome → Outcome
joined [] = yes
joined (r ∷ rs) = both r (joined rs)
