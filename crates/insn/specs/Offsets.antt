-- Instructions by the offsets where they begin (JVMS 4.9.1): what begins where, and what comes next.
use Rattle.std.specs.Prelude.{◌≡◌, ℕ, ◌+◌, ◌≤◌, ℤ, pos, ◌+ℤ◌, Bool, is_some, if◌then◌else◌, nat_eq, List, [], ◌∷◌, map, Option, Some, None, ◌⊎◌}
use Rattle.insn.specs.Instructions.{Instruction}
use Rattle.insn.specs.Meanings.{Act, act, made_index}

-- the acts of instructions
abbrev pub acts : List (ℕ × Instruction) → List (ℕ × Act)
acts code = map (λ x. (x.0, act x.1)) code

-- an instruction by its act, and by the class of which it makes an object
abbrev pub by_act : ℕ × Instruction → ℕ × Act
by_act x = (x.0, act x.1)

abbrev pub by_made : ℕ × Instruction → ℕ × Option ℕ
by_made x = (x.0, made_index (act x.1))

-- what stands at an offset
abbrev pub at_offset : {A : Type 0} → List (ℕ × A) → ℕ → Option A
at_offset [] at = None
at_offset (x ∷ xs) at = if nat_eq x.0 at then Some x.1 else at_offset xs at

-- an instruction begins there
pub record IsStart {A : Type 0} (code : List (ℕ × A)) (at : ℕ) : Type 0 where
  pub what : A
  pub here : at_offset code at ≡ Some what

abbrev pub has_offset : {A : Type 0} → List (ℕ × A) → ℕ → Bool
has_offset code at = is_some (at_offset code at)

-- all begin at this offset or after it, each after the one before
abbrev pub StartsRise : {A : Type 0} → ℕ → List (ℕ × A) → Type 0
StartsRise at [] = Unit {0}
StartsRise at (x ∷ xs) = (at ≤ x.0) × StartsRise (x.0 + 1) xs

abbrev pub first_offset : {A : Type 0} → List (ℕ × A) → Option ℕ
first_offset [] = None
first_offset (x ∷ xs) = Some x.0

-- the start after the one at an offset
abbrev pub next_offset : {A : Type 0} → List (ℕ × A) → ℕ → Option ℕ
next_offset [] at = None
next_offset (x ∷ xs) at = if nat_eq x.0 at then first_offset xs else next_offset xs at

-- where branches of these offsets lead from an instruction's start: no place in any code where that is negative
abbrev pub led_to : ℕ → List ℤ → List ℤ
led_to at offsets = map (λ offset. pos at +ℤ offset) offsets

-- the element stands in the list
abbrev pub IsAmong : {A : Type 0} → A → List A → Type 0
IsAmong x [] = ⊥
IsAmong x (y ∷ ys) = (x ≡ y) ⊎ IsAmong x ys
