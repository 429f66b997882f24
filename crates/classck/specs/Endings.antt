-- Why the program ends with status 2.
use Rattle.std.specs.Prelude.{ℕ, ◌≤◌}
use Rattle.classck.specs.declared.ending.Ending.{Ending}
use Rattle.classck.specs.declared.ending.Ending.TheVariants.{Line, NoText, Fault, Serving}
use Rattle.command_line.specs.declared.fault.MainFault.TheVariants.{NoRandom, CannotOpen, Memory, NotWritten}
use Rattle.answers.specs.declared.fault.AnswerFault.{AnswerFault}
use Rattle.answers.specs.declared.fault.AnswerFault.TheVariants as answering
use Rattle.command_line.specs.declared.line.LineFault.{LineFault}
use Rattle.command_line.specs.declared.line.LineFault.TheVariants as parsing

abbrev pub line_ending : LineFault → Ending
line_ending parsing.OutOfMemory = Fault Memory
line_ending (parsing.NoRequest error) = Line error

abbrev pub answer_ending : AnswerFault → Ending
answer_ending answering.OutOfMemory = Fault Memory
answer_ending answering.WriteFailed = Fault NotWritten

-- Memory ran out while so many files were read, or one of them cannot be opened; they count from 1.
abbrev pub StopsReading : ℕ → Ending → Type 0
StopsReading count (Line error) = ⊥
StopsReading count NoText = ⊥
StopsReading count (Fault NoRandom) = ⊥
StopsReading count (Fault (CannotOpen i)) = (1 ≤ i) × (i ≤ count)
StopsReading count (Fault Memory) = Unit {0}
StopsReading count (Fault NotWritten) = ⊥
StopsReading count (Serving fault) = ⊥
