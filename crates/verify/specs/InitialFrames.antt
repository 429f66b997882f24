-- The frame with which a method begins (JVMS 4.10.1.6).
use Rattle.std.specs.Prelude.{Bool, true, false, List, [], ◌∷◌, ◌++◌, map}
use Rattle.classfile.specs.Methods.{Method, Receiver, no_receiver, ready_receiver, own_receiver, receiver_of}
use Rattle.insn.specs.Meanings.{Act}
use Rattle.frames.specs.VerificationType.{VerificationType, class, uninit_this}
use Rattle.frames.specs.FrameFact.{FrameFact}
use Rattle.frames.specs.Slots.{descriptor_type, all_locals}

abbrev pub receiver_types : Method Act → Receiver → List VerificationType
receiver_types m no_receiver = []
receiver_types m ready_receiver = class m.class ∷ []
receiver_types m own_receiver = uninit_this ∷ []

-- the receiver, and then the parameters
abbrev pub initial_types : Method Act → List VerificationType
initial_types m = receiver_types m (receiver_of m) ++ map descriptor_type m.type.params

abbrev pub is_uninitialized : Receiver → Bool
is_uninitialized no_receiver = false
is_uninitialized ready_receiver = false
is_uninitialized own_receiver = true

abbrev pub initial_frame : Method Act → FrameFact
initial_frame m = record {
  locals = all_locals m.max_locals (initial_types m);
  stack = [];
  flag =
      is_uninitialized (receiver_of m);
}
