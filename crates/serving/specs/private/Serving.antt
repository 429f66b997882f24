-- Words of the steps of a conversation.
use Rattle.std.specs.Prelude.{◌≡◌, ℕ, List, [], ◌∷◌, ◌++◌, Option, Result, Ok, Err}
use Rattle.std.specs.Io.KnownBytes.{Consumes, IsAtEnd, Appends, Keeps}
use Rattle.classfile.specs.Values.{Class}
use Rattle.classfile.specs.declared.profile.Profile.{Profile}
use Rattle.hierarchy.specs.Class.{ClassFact}
use Rattle.answers.specs.Files.{Input}
use Rattle.serving.specs.Messages.{MessageFact, ReplyFact, IsWhole, message_bytes, reply_bytes}
use Rattle.serving.specs.KnownClasses.{KnownClass, Admits, BecomeKnown, IsFirstNotKnown}
use Rattle.serving.specs.Steps.{Steps}
use Rattle.serving.specs.Conversations.{Conversation, IsStopped, Stops, Serves}
use Rattle.serving.specs.private.Stepping.{Knows}
use Rattle.serving.specs.declared.known.KnownFault.{KnownFault}
use Rattle.serving.specs.declared.serving.Pause.{Pause}
use Rattle.serving.specs.declared.serving.Pause.TheVariants as pauses
use Rattle.serving.specs.declared.serving.Turn.{Turn}
use Rattle.serving.specs.declared.serving.Turn.TheVariants as turns
use Rattle.serving.specs.declared.setting.Setting.{Setting}
use Rattle.serving.specs.declared.stop.ServeFault.{ServeFault}
use Rattle.serving.specs.declared.stop.ServeFault.TheVariants.{NotKnown, Stopped}
use Rattle.serving.specs.declared.stop.Stop.{Stop}

-- the class in the file is known as well
abbrev pub AddsKnown : Profile → List KnownClass → Input → Result (List ClassFact) KnownFault → Type 0
AddsKnown profile ks file (Ok facts) = (new : List KnownClass) × BecomeKnown profile ks (file ∷ []) new
    × Knows profile new facts
AddsKnown profile ks file (Err fault) = Admits profile ks file (Err fault)

-- the classes in the files are known
abbrev pub Begins : Profile → List Input → Result (List ClassFact) ServeFault → Type 0
Begins profile files (Ok facts) = (new : List KnownClass) × BecomeKnown profile [] files new × Knows profile new facts
Begins profile files (Err (NotKnown number fault)) = IsFirstNotKnown profile files number fault
Begins profile files (Err (Stopped stop)) = ⊥

-- one message was answered
abbrev pub Answers : Setting → (old new : List KnownClass) → (before after blank full : Option (List ℕ)) → Type 0
Answers s old new before after blank full = (m : MessageFact) × (reply : ReplyFact) × IsWhole m
    × Steps s old m reply new × Consumes before after (message_bytes m) × Appends blank full (reply_bytes reply)

abbrev pub TakesTurn : Setting → List KnownClass → (before after blank full : Option (List ℕ)) → Result Turn Stop
    → Type 0
TakesTurn s old before after blank full (Ok turns.AtEnd) = Consumes before after [] × IsAtEnd after × Keeps blank full
TakesTurn s old before after blank full (Ok (turns.Answered facts)) = (new : List KnownClass)
    × Knows s.profile new facts × Answers s old new before after blank full
TakesTurn s old before after blank full (Ok turns.Forgotten) = Answers s old [] before after blank full
TakesTurn s old before after blank full (Err stop) = IsStopped s old stop before after blank full

abbrev pub ServesRound : Setting → List KnownClass → (before after blank full : Option (List ℕ)) → Result Pause Stop
    → Type 0
ServesRound s old before after blank full (Ok pauses.AtEnd) = Serves s old before after blank full (Ok tt)
ServesRound s old before after blank full (Ok pauses.Forgotten) = Conversation s old [] before after blank full
ServesRound s old before after blank full (Err stop) = Stops s old before after blank full stop

abbrev pub ServesFirst : Setting → List Input → (before after blank full : Option (List ℕ)) → Result Pause ServeFault
    → Type 0
ServesFirst s files before after blank full (Ok pause) = (known : List KnownClass)
    × BecomeKnown s.profile [] files known × ServesRound s known before after blank full (Ok pause)
ServesFirst s files before after blank full (Err (Stopped stop)) = (known : List KnownClass)
    × BecomeKnown s.profile [] files known × Stops s known before after blank full stop
ServesFirst s files before after blank full (Err (NotKnown number fault)) = IsFirstNotKnown s.profile files number fault
    × Consumes before after [] × Keeps blank full
