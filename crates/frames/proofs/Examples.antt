-- Worked examples of stack maps, for the eye: each is checked, and nothing stands on them.
use Rattle.std.proofs.Common.{◌≡◌, ℕ, false, List, [], ◌∷◌, Result, Ok, Err, codes, refl}
use Rattle.layout.specs.Place.{Place}
use Rattle.layout.specs.Format.{reads, times}
use Rattle.layout.specs.declared.fault.ReadFault.{ReadFault}
use Rattle.layout.specs.declared.fault.ReadFault.TheVariants.{EndsEarly, BadFrameType, BadTypeTag}
use Rattle.pool.specs.Entries as entries
use Rattle.pool.specs.Lookups.{entry_at, text_at, class_name_at}
use Rattle.insn.specs.Meanings as acts
use Rattle.insn.specs.Meanings.{Act}
use Rattle.frames.specs.VerificationType as types
use Rattle.frames.specs.VerificationType.{VerificationType}
use Rattle.frames.specs.FrameFact.{FrameFact}
use Rattle.frames.specs.Conditions.{Reason, reason}
use Rattle.frames.specs.StackMaps.{type_info, type_table, map_entry, stack_map, MapEntry, integer, long, object, uninitialized, same, same_with_item, chop, same_extended, append, full}
use Rattle.frames.specs.DeclaredFrames.{declared_frames}

abbrev read_map : List ℕ → Result (List MapEntry × Place) ReadFault
read_map bytes = reads stack_map 0 bytes

abbrev behind : ℕ → Place
behind at = record { at = at; rest = [] }

-- ---- entries

two_entries : read_map (0 ∷ 2 ∷ 5 ∷ 251 ∷ 0 ∷ 0 ∷ []) ≡ Ok (same 5 ∷ same_extended 0 ∷ [], behind 6)
unfolding stack_map times map_entry
two_entries = refl

full_entry : read_map (0 ∷ 1 ∷ 255 ∷ 0 ∷ 4 ∷ 0 ∷ 1 ∷ 1 ∷ 0 ∷ 1 ∷ 7 ∷ 0 ∷ 8 ∷ []) ≡ Ok (full 4 (integer ∷ []) (object 8 ∷ []) ∷ [], behind 13)
unfolding stack_map times map_entry type_info type_table
full_entry = refl

reserved_type : read_map (0 ∷ 1 ∷ 128 ∷ []) ≡ Err (BadFrameType 2)
unfolding stack_map times map_entry
reserved_type = refl

unknown_tag : read_map (0 ∷ 1 ∷ 64 ∷ 9 ∷ []) ≡ Err (BadTypeTag 3)
unfolding stack_map times map_entry type_info
unknown_tag = refl

cut_entry : read_map (0 ∷ 1 ∷ 251 ∷ 0 ∷ []) ≡ Err (EndsEarly 3)
unfolding stack_map times map_entry
cut_entry = refl

-- ---- frames: a `new` stands at 0, and other instructions at 5, 6 and 8; the constant #1 is Class A

abbrev code : List (ℕ × Act)
code = (0, acts.New 1) ∷ (5, acts.Nothing) ∷ (6, acts.Nothing) ∷ (8, acts.ReturnVoid) ∷ []

abbrev pool : List entries.Entry
pool = entries.Class 2 ∷ entries.Utf8 (codes "A") ∷ []

abbrev declared : List VerificationType → List MapEntry → Result (List (ℕ × FrameFact)) Reason
declared initial map = declared_frames pool code 3 2 initial map

abbrev frame : List VerificationType → List VerificationType → FrameFact
frame locals stack = record { locals = locals; stack = stack; flag = false }

-- the offsets add up; a long is one entry and two local variables
frames_of_entries : declared (types.long ∷ []) (same 5 ∷ same_extended 0 ∷ chop 1 1 ∷ [])
    ≡ Ok ((5, frame (types.long ∷ types.top ∷ types.top ∷ []) []) ∷ (6, frame (types.long ∷ types.top ∷ types.top ∷ []) []) ∷ (8, frame (types.top ∷ types.top ∷ types.top ∷ []) []) ∷ [])
frames_of_entries = refl

an_object_and_a_new_one : declared [] (full 6 (object 1 ∷ []) (uninitialized 0 ∷ []) ∷ []) ≡ Ok ((6, frame (types.class (codes "A") ∷ types.top ∷ types.top ∷ []) (types.uninit 0 ∷ [])) ∷ [])
unfolding entry_at text_at class_name_at
an_object_and_a_new_one = refl

no_constant : declared [] (same_with_item 5 (object 7) ∷ []) ≡ Err (reason 8)
unfolding entry_at text_at class_name_at
no_constant = refl

no_class : declared [] (same_with_item 5 (object 2) ∷ []) ≡ Err (reason 9)
unfolding entry_at text_at class_name_at
no_class = refl

too_many_locals : declared [] (append 5 (long ∷ long ∷ []) ∷ []) ≡ Err (reason 49)
too_many_locals = refl

stack_too_wide : declared [] (full 5 [] (long ∷ integer ∷ []) ∷ []) ≡ Err (reason 50)
stack_too_wide = refl

chopped_too_much : declared (types.long ∷ []) (chop 2 5 ∷ []) ≡ Err (reason 51)
chopped_too_much = refl

no_start : declared [] (same 4 ∷ []) ≡ Err (reason 52)
no_start = refl

no_new : declared [] (same_with_item 5 (uninitialized 6) ∷ []) ≡ Err (reason 53)
no_new = refl
