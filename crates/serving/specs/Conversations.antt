-- Conversations: the replies to messages, one after the other.
use Rattle.std.specs.Prelude.{◌≡◌, ℕ, List, [], ◌∷◌, ◌++◌, Option, Result, Ok, Err}
use Rattle.std.specs.List.{flat_map}
use Rattle.std.specs.Io.KnownBytes.{Consumes, IsAtEnd, Appends, Keeps}
use Rattle.printing.specs.Writing.{AppendsFront}
use Rattle.serving.specs.Messages.{MessageFact, ReplyFact, IsWhole, IsBroken, message_bytes, reply_bytes}
use Rattle.serving.specs.KnownClasses.{KnownClass, BecomeKnown, IsFirstNotKnown}
use Rattle.serving.specs.Steps.{Steps}
use Rattle.serving.specs.declared.setting.Setting.{Setting}
use Rattle.answers.specs.Files.{Input}
use Rattle.serving.specs.declared.stop.ServeFault.{ServeFault}
use Rattle.serving.specs.declared.stop.ServeFault.TheVariants.{NotKnown, Stopped}
use Rattle.serving.specs.declared.stop.Stop.{Stop}
use Rattle.serving.specs.declared.stop.Stop.TheVariants.{OutOfMemory, NoRandom, Cut, NoKind, TooLong, ReadFailed, NotWritten, TooMany}

-- each message came whole
abbrev pub AreWhole : List MessageFact → Type 0
AreWhole [] = Unit {0}
AreWhole (m ∷ ms) = IsWhole m × AreWhole ms

-- Each message has one reply, by the step from the classes that were known before it. The last classes are known then.
abbrev pub AreAnswered : Setting → List KnownClass → List MessageFact → List ReplyFact → List KnownClass → Type 0
AreAnswered s old [] [] new = new ≡ old
AreAnswered s old (m ∷ ms) (r ∷ rs) new = (next : List KnownClass) × Steps s old m r next × AreAnswered s next ms rs new
AreAnswered s old _ _ new = ⊥

-- These messages were taken from the input, each whole, and their replies were written, in their order, and nothing
-- else. `before` and `after` are the bytes that the input has, and `blank` and `full` those that the output holds,
-- where they are known.
pub record Conversation (s : Setting) (old new : List KnownClass)
    (before after blank full : Option (List ℕ)) : Type 0 where
  pub messages : List MessageFact
  pub replies : List ReplyFact
  pub whole : AreWhole messages
  pub answered : AreAnswered s old messages replies new
  pub taken : Consumes before after (flat_map message_bytes messages)
  pub written : Appends blank full (flat_map reply_bytes replies)

-- Why no further message is answered, and what was taken and written since the last reply: bytes of which no message
-- came; or a message whose reply could not be written whole.
abbrev pub IsStopped : Setting → List KnownClass → Stop → (before after blank full : Option (List ℕ)) → Type 0
IsStopped s known NotWritten before after blank full =
    (m : MessageFact) × (reply : ReplyFact) × (new : List KnownClass) × IsWhole m × Steps s known m reply new
    × Consumes before after (message_bytes m) × AppendsFront blank full (reply_bytes reply)
IsStopped s known NoRandom before after blank full = (rest : List ℕ) × Consumes before after rest × Keeps blank full
IsStopped s known TooMany before after blank full = Consumes before after [] × Keeps blank full
IsStopped s known stop before after blank full = (rest : List ℕ) × Consumes before after rest
    × IsBroken stop rest after × Keeps blank full

-- Messages were answered, and then the program stopped for this reason.
abbrev pub Stops : Setting → List KnownClass → (before after blank full : Option (List ℕ)) → Stop → Type 0
Stops s known before after blank full stop = (new : List KnownClass) × (here : Option (List ℕ))
    × (so_far : Option (List ℕ)) × Conversation s known new before here blank so_far
    × IsStopped s new stop here after so_far full

-- All messages up to the end of the input were answered. Or some were, and then the program stopped for this reason.
abbrev pub Serves : Setting → List KnownClass → (before after blank full : Option (List ℕ)) → Result (Unit {0}) Stop
    → Type 0
Serves s known before after blank full (Ok done) = (new : List KnownClass)
    × Conversation s known new before after blank full × IsAtEnd after
Serves s known before after blank full (Err stop) = Stops s known before after blank full stop

-- The classes in these files are known from the beginning. Or the one of this number, from 1 on, does not become known,
-- and nothing was taken and written.
abbrev pub ServesKnown : Setting → List Input → (before after blank full : Option (List ℕ))
    → Result (Unit {0}) ServeFault → Type 0
ServesKnown s files before after blank full (Ok done) = (known : List KnownClass) × BecomeKnown s.profile [] files known
    × Serves s known before after blank full (Ok done)
ServesKnown s files before after blank full (Err (Stopped stop)) = (known : List KnownClass)
    × BecomeKnown s.profile [] files known × Stops s known before after blank full stop
ServesKnown s files before after blank full (Err (NotKnown number fault)) = IsFirstNotKnown s.profile files number fault
    × Consumes before after [] × Keeps blank full
