-- The local variables after a store (JVMS 2.6.1, 4.10.1.7, 6.5): the value that was on top, and for a long or double its
-- second half after it. Of another long or double that is overwritten in part the other half is empty. All other local
-- variables stay.
use Rattle.std.specs.Prelude.{◌≡◌, ℕ, suc, ◌+◌, ◌<◌, nat_eq, if◌then◌else◌, List, slice_get, Option, Some, None}
use Rattle.names.specs.ReferenceTypes.{ReferenceType}
use Rattle.classfile.specs.Methods.{Method}
use Rattle.hierarchy.specs.World.{World}
use Rattle.insn.specs.Meanings as acts
use Rattle.insn.specs.Meanings.{Act}
use Rattle.insn.specs.Offsets.{at_offset}
use Rattle.machine.specs.Values.{Value, Slot, empty, second, holds}
use Rattle.machine.specs.ByType.{units_of}
use Rattle.machine.specs.Demands.{State}
use Rattle.machine.specs.Steps.{go, goes_on, Happens}

-- the local variable that is stored to
abbrev pub stored_to : Act → Option ℕ
stored_to (acts.Store kind n) = Some n
stored_to (acts.StoreReference n) = Some n
stored_to _ = None

-- what is left of a half where the first half was this: nothing of a long or double
abbrev pub left_of_half : Slot → Slot → Slot
left_of_half (holds v) half = if nat_eq (units_of v) 2 then empty else half
left_of_half first half = half

pub record IsStored (v : Value) (n : ℕ) (before after : List Slot) : Type 0 where
  pub here : slice_get after n ≡ Some (holds v)
  pub half : units_of v ≡ 2 → slice_get after (suc n) ≡ Some second
  -- the local variable before it may be a first half, whose second half is overwritten
  pub first : (i : ℕ) (x : Slot) → suc i ≡ n → slice_get before i ≡ Some x → slice_get after i ≡ Some (left_of_half x x)
  -- the one after it may be a second half, whose first half is overwritten
  pub last : (i : ℕ) (x y : Slot) → suc i ≡ n + units_of v → slice_get before i ≡ Some x
      → slice_get before (suc i) ≡ Some y → slice_get after (suc i) ≡ Some (left_of_half x y)
  pub below : (i : ℕ) (x : Slot) → suc i < n → slice_get before i ≡ Some x → slice_get after i ≡ Some x
  pub above : (i : ℕ) (x : Slot) → n + units_of v < i → slice_get before i ≡ Some x → slice_get after i ≡ Some x

abbrev pub StoresAreWritten : Type 0
StoresAreWritten =
    (world : World) (m : Method Act) (s : State) (act : Act) → at_offset m.code s.at ≡ Some act
    → (branch : Option ℕ) (answer : Option Value) (fresh : List (ℕ × ReferenceType)) (t : State)
    → Happens world m s (go branch answer fresh) (goes_on t)
    → (n : ℕ) → stored_to act ≡ Some n → (v : Value) × (slice_get s.stack 0 ≡ Some v) × IsStored v n s.locals t.locals
