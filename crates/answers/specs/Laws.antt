-- A law that follows from the definition of answers alone: a command has one answer.
use Rattle.std.specs.Prelude.{◌≡◌, ℕ, List}
use Rattle.answers.specs.Answers.{Says}
use Rattle.answers.specs.Files.{Input}
use Rattle.answers.specs.declared.command.Command.{Command}

abbrev pub OneAnswer : Type 0
OneAnswer = (command : Command) (files : List Input) (text other : List ℕ) (status next : ℕ)
    → Says command files text status → Says command files other next → (text ≡ other) × (status ≡ next)
