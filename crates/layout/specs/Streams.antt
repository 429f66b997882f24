-- Formats that are read from a stream, part by part, where it is not known how many bytes are to come. No part that
-- would pass the most bytes of a class file is read, and no byte after the part that decides.
use Rattle.std.specs.Prelude.{◌≡◌, ℕ, ◌+◌, ◌≤◌, ◌<◌, List, [], ◌++◌, length, Result, Ok, Err, Option, ◌⊎◌}
use Rattle.std.specs.Io.KnownBytes.{Consumes, IsAtEnd}
use Rattle.layout.specs.Format.{Format, done, part, refuse}
use Rattle.layout.specs.declared.fault.ReadFault.{ReadFault}
use Rattle.layout.specs.declared.fault.ReadFault.TheVariants.{OutOfMemory, EndsEarly, TooLong, ReadFailed}
use Rattle.layout.specs.declared.fault.StreamFault.{StreamFault}
use Rattle.layout.specs.declared.limits.TheConstants.{MAX_CLASS_BYTES}

-- How far bytes lead.
pub data Progress (V : Type 0) : Type 0 where
  -- to the end of the format, and to this value
  whole : V → Progress V
  -- to the part that begins here, of which there are too few
  partial : ℕ → Progress V
  -- to this fault
  refused : ReadFault → Progress V

-- The bytes that stand at a place lead so far by the format: they are its parts one after the other, up to the end, up
-- to a part that is not whole, or up to a fault. They are all that was needed for that: nothing stands after the part
-- that decides. A part that would pass the limit is a fault, whether or not it is there.
abbrev pub Leads : {V : Type 0} → Format V → ℕ → List ℕ → Progress V → Type 0
Leads (done w) at given p = (given ≡ []) × (p ≡ whole w)
Leads (part n next) at given p =
    ((MAX_CLASS_BYTES < at + n) × (given ≡ []) × (p ≡ refused (TooLong at)))
    ⊎ (((at + n ≤ MAX_CLASS_BYTES) × (length given < n) × (p ≡ partial at))
    ⊎ ((at + n ≤ MAX_CLASS_BYTES) × (first : List ℕ) × (others : List ℕ) × (length first ≡ n)
    × (given ≡ first ++ others) × Leads (next first) (at + n) others p))
Leads (refuse fault) at given p = (given ≡ []) × (p ≡ refused (fault at))

-- nothing that follows can change this
abbrev pub IsDecided : {V : Type 0} → Progress V → Type 0
IsDecided (whole v) = Unit {0}
IsDecided (partial at) = ⊥
IsDecided (refused e) = Unit {0}

abbrev pub IsPartial : {V : Type 0} → Progress V → Type 0
IsPartial (whole v) = ⊥
IsPartial (partial at) = Unit {0}
IsPartial (refused e) = ⊥

-- The fault of a stream, of which these are all the bytes: that of a front of it, or, where all of it leads to a part
-- that is not whole, that it ends early.
abbrev pub StreamHas : {V : Type 0} → Format V → List ℕ → ReadFault → Type 0
StreamHas f stream e =
    ((front : List ℕ) × (rest : List ℕ) × (stream ≡ front ++ rest) × Leads f 0 front (refused e))
    ⊎ ((at : ℕ) × (e ≡ EndsEarly at) × Leads f 0 stream (partial at))

-- ---- a step of reading: `old` and `new` are the bytes that are held, `before` and `after` those that the reader will
-- give, where
-- they are known

-- The reader gave bytes that lead so far, and they are held after the others.
pub record Led {V : Type 0} (f : Format V) (p : Progress V) (old new : List ℕ)
    (before after : Option (List ℕ)) : Type 0 where
  pub given : List ℕ
  pub held : new ≡ old ++ given
  pub consumed : Consumes before after given
  pub leads : Leads f (length old) given p

-- how many bytes a call read, whether or not the reader then failed
abbrev pub count_of : Result ℕ ℕ → ℕ
count_of (Ok n) = n
count_of (Err n) = n

-- So many bytes were asked for: these were given, and are held after the others.
pub record Given (given old new : List ℕ) (before after : Option (List ℕ)) : Type 0 where
  pub held : new ≡ old ++ given
  pub consumed : Consumes before after given

-- The bytes that were asked for were given, or fewer, since the reader ended; or memory ran out before one was asked
-- for, or the reader failed. Fewer were given then, which are held.
abbrev pub Gives : ℕ → List ℕ → List ℕ → Option (List ℕ) → Option (List ℕ) → Result ℕ StreamFault → Type 0
Gives n old new before after (Ok k) = (given : List ℕ) × (length given ≡ k) × (k ≤ n) × Given given old new before after
    × (k < n → IsAtEnd after)
Gives n old new before after (Err e) =
    (e.taken ≡ length new) × (given : List ℕ) × Given given old new before after
    × (((e.why ≡ OutOfMemory) × (given ≡ [])) ⊎ ((e.why ≡ ReadFailed (length new)) × (length given < n)))

-- Why the step stopped: memory ran out or the reader failed before anything was decided, the reader ended within a
-- part, or a fault.
abbrev pub Stops : {V : Type 0} → Format V → List ℕ → List ℕ → Option (List ℕ) → Option (List ℕ) → ReadFault → Type 0
Stops f old new before after OutOfMemory = (at : ℕ) × Led f (partial at) old new before after
Stops f old new before after (ReadFailed at) = (at ≡ length new) × (from : ℕ)
    × Led f (partial from) old new before after
Stops f old new before after (EndsEarly at) = Led f (partial at) old new before after × IsAtEnd after
Stops f old new before after e = Led f (refused e) old new before after

-- The step read what the format says, or tells how many bytes are held and why it stopped.
abbrev pub Streams : {X V : Type 0} → Format V → (X → V) → List ℕ → List ℕ → Option (List ℕ) → Option (List ℕ)
    → Result X StreamFault → Type 0
Streams f view old new before after (Ok x) = Led f (whole (view x)) old new before after
Streams f view old new before after (Err e) = (e.taken ≡ length new) × Stops f old new before after e.why
