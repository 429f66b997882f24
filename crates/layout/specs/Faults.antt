-- The answer of a call that reads, by a format. A call that takes memory may say that it ran out (1) in place of any
-- other answer; a word with `Unless` in its name says so.
use Rattle.std.specs.Prelude.{refl, ◌≡◌, ℕ, Result, Ok, Err, length, nat_eq, if◌then◌else◌, List}
use Rattle.layout.specs.Place.{Place}
use Rattle.layout.specs.Format.{Format, reads, confined, settled}
use Rattle.layout.specs.declared.fault.ReadFault.{ReadFault}
use Rattle.layout.specs.declared.fault.ReadFault.TheVariants.{OutOfMemory, AttributeLength}
use Rattle.layout.specs.declared.fault.WriteFault.{WriteFault}
use Rattle.layout.specs.declared.fault.WriteFault.TheVariants as writing

-- what a refusal says, unless memory ran out
abbrev pub UnlessMemory : ReadFault → Type 0 → Type 0
UnlessMemory OutOfMemory p = Unit {0}
UnlessMemory e p = p

-- The call read by the format: the value and the place after it, or the fault, and the cursor as before.
abbrev pub Reads : {X V : Type 0} → Format V → (X → V) → Place → Place → Result X ReadFault → Type 0
Reads f view old new (Ok x) = reads f old.at old.rest ≡ Ok (view x, new)
Reads f view old new (Err e) = (reads f old.at old.rest ≡ Err e) × (new ≡ old)

-- A call that takes memory and reads by the format: that memory ran out may stand in place of any other answer.
abbrev pub ReadsUnlessMemory : {X V : Type 0} → Format V → (X → V) → Place → Place → Result X ReadFault → Type 0
ReadsUnlessMemory f view old new (Ok x) = reads f old.at old.rest ≡ Ok (view x, new)
ReadsUnlessMemory f view old new (Err e) = UnlessMemory e (reads f old.at old.rest ≡ Err e) × (new ≡ old)

-- A step that reads by the format inside a larger part: after its refusal nobody looks at the cursor.
abbrev pub GoesOn : {X V : Type 0} → Format V → (X → V) → Place → Place → Result X ReadFault → Type 0
GoesOn f view old new (Ok x) = reads f old.at old.rest ≡ Ok (view x, new)
GoesOn f view old new (Err e) = UnlessMemory e (reads f old.at old.rest ≡ Err e)

-- one claim in place of another, where it follows
pub UnlessMemory-map : {P Q : Type 0} (e : ReadFault) → (P → Q) → UnlessMemory e P → UnlessMemory e Q
UnlessMemory-map OutOfMemory f p = tt
UnlessMemory-map e f p = f p

-- what is made of what reading a body answered, at the place where its reading ended
abbrev pub Confines : {X : Type 0} → ℕ → Place → Result X ReadFault → Result X ReadFault → Type 0
Confines q end (Ok x) result = result ≡ (if nat_eq (length end.rest) 0 then Ok x else Err (AttributeLength q))
Confines q end (Err e) result = result ≡ Err (confined q e)

-- what a refusal to write says, unless memory ran out
abbrev pub UnlessWriteMemory : WriteFault → Type 0 → Type 0
UnlessWriteMemory writing.OutOfMemory p = Unit {0}
UnlessWriteMemory e p = p

-- one claim in place of another, where it follows
pub UnlessWriteMemory-map : {P Q : Type 0} (e : WriteFault) → (P → Q) → UnlessWriteMemory e P → UnlessWriteMemory e Q
UnlessWriteMemory-map writing.OutOfMemory f p = tt
UnlessWriteMemory-map e f p = f p

-- what reading all of the body of the attribute at q answers, which begins at `start`
abbrev pub Settles : {X V : Type 0} → Format V → (X → V) → ℕ → ℕ → List ℕ → Result X ReadFault → Type 0
Settles f view q start body (Ok x) = (last : Place) × (reads f start body ≡ Ok (view x, last)) × (length last.rest ≡ 0)
Settles f view q start body (Err e) =
    UnlessMemory e (settled q (λ v. v) (record { at = start; rest = body }) (reads f start body) ≡ Err e)

-- where the claim is false, memory ran out
pub UnlessMemory-only : {P : Type 0} (e : ReadFault) → (P → ⊥) → UnlessMemory e P → e ≡ OutOfMemory
UnlessMemory-only OutOfMemory f p = refl
UnlessMemory-only e f p = absurd (f p)
