-- The first entry of a stack map that is refused (JVMS 4.7.4, 4.10.1), and the first that its bytes do not spell.
use Rattle.std.specs.Prelude.{◌≡◌, ◌↔◌, ◌≤◌, ℕ, zero, suc, List, [], ◌∷◌, length, Option, Some, None, Result, Ok, Err}
use Rattle.layout.specs.Place.{Place}
use Rattle.layout.specs.Format.{reads, number, FirstFault}
use Rattle.layout.specs.declared.fault.ReadFault.{ReadFault}
use Rattle.pool.specs.Entries.{Entry}
use Rattle.insn.specs.Meanings.{Act}
use Rattle.frames.specs.VerificationType.{VerificationType}
use Rattle.frames.specs.Conditions.{Reason, reason, least}
use Rattle.frames.specs.FrameReasons.{frame_fault_number}
use Rattle.frames.specs.StackMaps.{MapEntry, map_entry, stack_map}
use Rattle.frames.specs.DeclaredFrames.{offset_of, locals_of, stack_of, entry_conditions, declared_frames}
use Rattle.frames.specs.declared.declaring.RefusedEntry.{RefusedEntry}

-- the place of an entry in its map, from 0, the offset of the frame that it would declare, and the reason against it
pub record RefusedFact : Type 0 where
  pub place : ℕ
  pub at : ℕ
  pub reason : Reason

-- an entry in front of others, which is refused if there is a reason against it
abbrev pub refused_before : Option Reason → ℕ → ℕ → Option RefusedFact → Option RefusedFact
refused_before (Some r) place at others = Some (record { place = place; at = at; reason = r })
refused_before None place at others = others

module _ (pool : List Entry) (code : List (ℕ × Act)) (max_locals max_stack : ℕ) where
  -- The first of these entries that is refused; the first of them has this place. `before` is the offset of the entry
  -- in front of them, and the locals are those that it left.
  abbrev pub refused_from : ℕ → Option ℕ → List VerificationType → List MapEntry → Option RefusedFact
  refused_from place before locals [] = None
  refused_from place before locals (e ∷ es) =
      let at = offset_of before e in
      let now = locals_of pool locals e in
      let stack = stack_of pool e in
      refused_before (least (entry_conditions pool code max_locals max_stack at e locals now stack)) place at
      (refused_from (suc place) (Some at) now es)

  -- of a stack map, whose locals begin as the receiver and the parameters
  abbrev pub refused_entry : List VerificationType → List MapEntry → Option RefusedFact
  refused_entry initial entries = refused_from 0 None initial entries

-- ---- bytes

-- an entry in front of others, which has a fault where it was not read
abbrev pub faulty_before : Result (MapEntry × Place) ReadFault → ℕ → (Place → Option ℕ) → Option ℕ
faulty_before (Err e) place others = Some place
faulty_before (Ok x) place others = others x.1

-- the first of so many entries that bytes do not spell; the first of them has this place
abbrev pub faulty_from : ℕ → ℕ → Place → Option ℕ
faulty_from zero place here = None
faulty_from (suc n) place here = faulty_before (reads map_entry here.at here.rest) place (faulty_from n (suc place))

-- after the number of the entries
abbrev pub faulty_behind : Result (ℕ × Place) ReadFault → Option ℕ
faulty_behind (Err e) = None
faulty_behind (Ok x) = faulty_from x.0 0 x.1

-- none where the fault of a body is in the number of the entries, or after them
abbrev pub faulty_entry : List ℕ → Option ℕ
faulty_entry body = faulty_behind (reads (number 2) 0 body)

-- ---- what a value of the program stands for

abbrev pub refused_of : RefusedEntry → RefusedFact
refused_of r = record { place = r.place; at = r.at; reason = reason (frame_fault_number r.fault) }

-- ---- what they tell

-- An entry is refused exactly where the map declares no frames, and the reason against it is the map's.
abbrev pub RefusedIsReason : Type 0
RefusedIsReason =
    (pool : List Entry) (code : List (ℕ × Act)) (max_locals max_stack : ℕ) (initial : List VerificationType)
    (entries : List MapEntry) (r : Reason)
    → (declared_frames pool code max_locals max_stack initial entries ≡ Err r)
    ↔ ((x : RefusedFact) × (refused_entry pool code max_locals max_stack initial entries ≡ Some x) × (x.reason ≡ r))

-- A body that has the number of its entries whole has a part that is not whole or breaks its rule exactly where an
-- entry is faulty.
abbrev pub FaultyIsFault : Type 0
FaultyIsFault =
    (body : List ℕ) → 2 ≤ length body
    → ((e : ReadFault) × FirstFault stack_map 0 body e) ↔ ((place : ℕ) × (faulty_entry body ≡ Some place))
