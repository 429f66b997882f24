use Rattle.std.proofs.Common.{◌≡◌, ◌++◌, map, take}
use Rattle.frames.specs.Packing.{slot_of}
use Rattle.frames.specs.VerificationType.{type_of}
use Rattle.frames.proofs.packed_frame.push_slots.Given as goal

abbrev pub invariant-loop-vtype : goal.invariant-loop-vtype
invariant-loop-vtype g l = l.slots.items ≡ l.initial.slots.items ++ map (slot_of (g.C.Classes.content l.classes)) (map type_of (take l.vtype-index l.types))
