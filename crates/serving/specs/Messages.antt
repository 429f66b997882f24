-- Messages and replies, as bytes. A message is the letter of its kind, four bytes with the length, the highest first,
-- and so many bytes; a reply its status, its length and its text.
use Rattle.std.specs.Prelude.{◌≡◌, ◌≢◌, ◌⊎◌, ℕ, ◌≤◌, ◌<◌, List, [], ◌∷◌, ◌++◌, length, Option, Some, None, Result, Ok, Err}
use Rattle.std.specs.Io.KnownBytes.{Consumes, IsAtEnd}
use Rattle.byteorder.specs.Endian.{big_bytes, big_number}
use Rattle.serving.specs.declared.message.Kind.{Kind}
use Rattle.serving.specs.declared.message.Kind.TheVariants.{Known, Verify, Define, Explain, Forget}
use Rattle.serving.specs.declared.message.Message.{Message}
use Rattle.serving.specs.declared.reply.Reply.{Reply}
use Rattle.serving.specs.declared.stop.Stop.{Stop}
use Rattle.serving.specs.declared.stop.Stop.TheVariants.{OutOfMemory, Cut, NoKind, TooLong, ReadFailed}

-- k, v, d, x, f
abbrev pub letter : Kind → ℕ
letter Known = 107
letter Verify = 118
letter Define = 100
letter Explain = 120
letter Forget = 102

-- a message as it came: its kind, the four bytes of its length, and its bytes
pub record MessageFact : Type 0 where
  pub kind : Kind
  pub head : List ℕ
  pub bytes : List ℕ

-- the head says how many bytes there are, which are not more than a class file may have
pub record IsWhole (m : MessageFact) : Type 0 where
  pub four : length m.head ≡ 4
  pub number : big_number 4 m.head ≡ length m.bytes
  pub most : length m.bytes ≤ 16777216

abbrev pub message_bytes : MessageFact → List ℕ
message_bytes m = letter m.kind ∷ (m.head ++ m.bytes)

pub record ReplyFact : Type 0 where
  pub status : ℕ
  pub text : List ℕ

abbrev pub reply_view : Reply → ReplyFact
reply_view r = record { status = r.status; text = r.text.items }

abbrev pub reply_bytes : ReplyFact → List ℕ
reply_bytes r = r.status ∷ (big_bytes 4 (length r.text) ++ r.text)

-- ---- a message that does not come whole

-- the head has fewer than four bytes, and nothing comes after it; or fewer bytes come than it says
abbrev pub IsShort : List ℕ → List ℕ → Type 0
IsShort head bytes =
    ((length head < 4) × (bytes ≡ []))
    ⊎ ((length head ≡ 4) × (big_number 4 head ≤ 16777216) × (length bytes < big_number 4 head))

-- the letter of a message, and not all of its head or of its bytes
abbrev pub IsCut : List ℕ → Type 0
IsCut rest = (kind : Kind) × (head : List ℕ) × (bytes : List ℕ) × (rest ≡ letter kind ∷ (head ++ bytes))
    × IsShort head bytes

-- the letter of no kind
abbrev pub IsNoKind : List ℕ → Type 0
IsNoKind rest = (b : ℕ) × (rest ≡ b ∷ []) × ((kind : Kind) → letter kind ≢ b)

-- the letter and the head of a message that would be longer than a class file may be
abbrev pub IsTooLong : List ℕ → Type 0
IsTooLong rest = (kind : Kind) × (head : List ℕ) × (rest ≡ letter kind ∷ head) × (length head ≡ 4)
    × (16777216 < big_number 4 head)

-- The bytes that were taken, of which no message came: for this reason. Where memory runs out or a read fails, nothing
-- more is said of them.
abbrev pub IsBroken : Stop → List ℕ → Option (List ℕ) → Type 0
IsBroken Cut rest after = IsCut rest × IsAtEnd after
IsBroken NoKind rest after = IsNoKind rest
IsBroken TooLong rest after = IsTooLong rest
IsBroken ReadFailed rest after = Unit {0}
IsBroken OutOfMemory rest after = Unit {0}
IsBroken stop rest after = ⊥

-- One message was taken of the input, and came whole; or nothing was, at its end; or a message is broken.
abbrev pub TakesMessage : Option (List ℕ) → Option (List ℕ) → Result (Option Message) Stop → Type 0
TakesMessage before after (Ok (Some m)) = (f : MessageFact) × IsWhole f × (f.kind ≡ m.kind) × (f.bytes ≡ m.bytes.items)
    × Consumes before after (message_bytes f)
TakesMessage before after (Ok None) = Consumes before after [] × IsAtEnd after
TakesMessage before after (Err stop) = (rest : List ℕ) × Consumes before after rest × IsBroken stop rest after
