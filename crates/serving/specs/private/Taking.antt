-- Words of the steps by which a message is taken.
use Rattle.std.specs.Prelude.{◌≡◌, ◌⊎◌, ℕ, ◌<◌, ◌≤◌, List, [], ◌∷◌, ◌++◌, length, Option, Some, None, Result, Ok, Err, Vec}
use Rattle.std.specs.Io.KnownBytes.{Consumes, IsAtEnd}
use Rattle.byteorder.specs.Endian.{big_number}
use Rattle.serving.specs.Messages.{IsShort}
use Rattle.serving.specs.declared.stop.Stop.{Stop}
use Rattle.serving.specs.declared.stop.Stop.TheVariants.{OutOfMemory, Cut, TooLong, ReadFailed}

-- why fewer bytes came than were asked for
abbrev pub IsWhy : Option (List ℕ) → Stop → Type 0
IsWhy after Cut = IsAtEnd after
IsWhy after ReadFailed = Unit {0}
IsWhy after OutOfMemory = Unit {0}
IsWhy after stop = ⊥

-- fewer bytes came than were asked for
abbrev pub IsFewer : ℕ → Option (List ℕ) → Option (List ℕ) → Stop → Type 0
IsFewer n before after stop = (given : List ℕ) × (length given < n) × Consumes before after given × IsWhy after stop

abbrev pub TakesFirst : Option (List ℕ) → Option (List ℕ) → Result (Option ℕ) Stop → Type 0
TakesFirst before after (Ok (Some b)) = Consumes before after (b ∷ [])
TakesFirst before after (Ok None) = Consumes before after [] × IsAtEnd after
TakesFirst before after (Err ReadFailed) = Consumes before after []
TakesFirst before after (Err OutOfMemory) = Consumes before after []
TakesFirst before after (Err stop) = ⊥

-- why the rest of a message did not come
abbrev pub IsRest : List ℕ → Option (List ℕ) → Stop → Type 0
IsRest rest after Cut = (head : List ℕ) × (bytes : List ℕ) × (rest ≡ head ++ bytes) × IsShort head bytes × IsAtEnd after
IsRest rest after TooLong = (length rest ≡ 4) × (16777216 < big_number 4 rest)
IsRest rest after ReadFailed = Unit {0}
IsRest rest after OutOfMemory = Unit {0}
IsRest rest after stop = ⊥

-- the head of a message and its bytes
abbrev pub TakesBytes : {Z : Type 0} → Option (List ℕ) → Option (List ℕ) → Result (Vec ℕ Z) Stop → Type 0
TakesBytes before after (Ok v) = (head : List ℕ) × (length head ≡ 4) × (big_number 4 head ≡ length v.items)
    × (length v.items ≤ 16777216) × Consumes before after (head ++ v.items)
TakesBytes before after (Err stop) = (rest : List ℕ) × Consumes before after rest × IsRest rest after stop
