-- The answer of a call.
use Rattle.std.specs.Prelude.{◌≡◌, ◌⊎◌, ◌++◌, ℕ, List, length, take, drop}
use Rattle.answers.specs.Answers.{Says}
use Rattle.answers.specs.Files.{Input}
use Rattle.answers.specs.declared.command.Command.{Command}
use Rattle.libclassck.specs.Files.{AreFiles, AreReads}
use Rattle.libclassck.specs.Requests.{Asks}
use Rattle.libclassck.specs.declared.request.Request.{Request}
use Rattle.libclassck.specs.declared.Outcome.{Outcome}
use Rattle.libclassck.specs.declared.no_answer.NoAnswer.{NoAnswer}
use Rattle.libclassck.specs.declared.no_answer.NoAnswer.TheVariants.{NotAsked, OutOfMemory}

-- the text and the status that the program answers to the request, about files with these bytes
pub record Told (r : Request) (bytes ends text : List ℕ) (status : ℕ) : Type 0 where
  pub files : List (List ℕ)
  pub held : AreFiles bytes ends files
  pub command : Command
  pub asked : Asks r (length files) command
  pub reads : List Input
  pub read : AreReads files reads
  pub said : Says command reads text status

-- the bytes are no files that end there, or the request asks for no command about so many
abbrev pub NothingAsked : Request → (bytes ends : List ℕ) → Type 0
NothingAsked r bytes ends =
    (files : List (List ℕ)) (command : Command) → AreFiles bytes ends files → Asks r (length files) command → ⊥

-- the status of a call without an answer
abbrev pub no_status : NoAnswer → ℕ
no_status NotAsked = 2
no_status OutOfMemory = 3

-- The answer is told, and the room begins with as much of its text as it has room for. Or nothing can be asked so, or
-- memory ran out, and the room is as before.
abbrev pub Answers : Request → (bytes ends old new : List ℕ) → Outcome → Type 0
Answers r bytes ends old new outcome =
    ((text : List ℕ) × Told r bytes ends text outcome.status × (outcome.needed ≡ length text)
    × (new ≡ take (length old) text ++ drop (length text) old))
    ⊎ (((outcome.status ≡ 2) × NothingAsked r bytes ends) ⊎ (outcome.status ≡ 3)) × (outcome.needed ≡ 0) × (new ≡ old)
