-- Words of the code's own steps: nothing that a reader must believe rests on them.
-- When a state meets the demands of an instruction, by what it does.
use Rattle.std.specs.Prelude.{◌≡◌, ◌⊎◌, ℕ, ◌≤◌, ℤ, pos, negsuc, Bool, true, false, not, ◌&&◌, ◌||◌, nat_eq, List, [], ◌∷◌, length, Option}
use Rattle.std.specs.Option.{is_some}
use Rattle.hierarchy.specs.World.{World}
use Rattle.classfile.specs.Methods.{Method, ExceptionEntry, covers}
use Rattle.insn.specs.Meanings.{Act}
use Rattle.insn.specs.Offsets.{has_offset}
use Rattle.machine.specs.Values.{Value, reference, Slot, depth_of}
use Rattle.machine.specs.Heap.{Heap}
use Rattle.machine.specs.Effects.{Effect, demands_of, falls, targets}
use Rattle.machine.specs.Demands.{State, IsMade, IsOwn, AllMeet, MeetsRest, HasRoom, EndsReady}
use Rattle.machine.specs.private.Decided.{paired_behind}

abbrev pub are_whole : ℕ → List Slot → Bool
are_whole limit ls = nat_eq (length ls) limit && paired_behind false ls

-- a reference to an object that an instance initialization method of the class may be called on
abbrev pub IsUninitialized : Method Act → Heap → List ℕ → Value → Type 0
IsUninitialized m heap class v = (a : ℕ) × (v ≡ reference a) × (IsMade heap class a ⊎ IsOwn m heap class a)

-- where the entry covers the instruction, an instruction begins at its handler
abbrev pub leads : List (ℕ × Act) → ℕ → ExceptionEntry → Bool
leads code at e = not (covers e at) || has_offset code e.handler

abbrev pub all_lead : List (ℕ × Act) → ℕ → List ExceptionEntry → Bool
all_lead code at [] = true
all_lead code at (e ∷ es) = leads code at e && all_lead code at es

-- an instruction begins at an offset that is none of a negative number
abbrev pub begins : List (ℕ × Act) → ℤ → Bool
begins code (pos at) = has_offset code at
begins code (negsuc n) = false

abbrev pub all_begin : List (ℕ × Act) → List ℤ → Bool
all_begin code [] = true
all_begin code (t ∷ ts) = begins code t && all_begin code ts

abbrev pub stays : List (ℕ × Act) → ℕ → Effect → Option ℕ → List ExceptionEntry → Bool
stays code at effect next entries =
    (not (falls effect) || is_some next) && (all_begin code (targets at effect) && all_lead code at entries)

-- the demands on a state before an instruction that does this, where that is the next start
pub record Meets (world : World) (m : Method Act) (effect : Effect) (next : Option ℕ) (s : State) : Type 0 where
  pub locals : are_whole m.max_locals s.locals ≡ true
  pub operands : AllMeet world s.heap (demands_of effect) s.stack
  pub others : MeetsRest world m effect s
  pub before : depth_of s.stack ≤ m.max_stack
  pub after : HasRoom m effect s
  pub control : stays m.code s.at effect next m.exceptions ≡ true
  pub own_object : EndsReady m effect s
