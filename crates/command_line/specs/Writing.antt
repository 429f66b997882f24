-- The bytes that a writer holds after a call whose only refusal is 19.
use Rattle.std.specs.Prelude.{◌≡◌, ℕ, List, Option, Result, Ok, Err}
use Rattle.std.specs.Io.KnownBytes.{Appends}
use Rattle.printing.specs.Writing.{AppendsFront}
use Rattle.answers.specs.declared.fault.AnswerFault.{AnswerFault}
use Rattle.answers.specs.declared.fault.AnswerFault.TheVariants as faults

-- the text was written, or a write failed and a prefix of it was written
abbrev pub WritesOrFails : Option (List ℕ) → Option (List ℕ) → List ℕ → Result (Unit {0}) AnswerFault → Type 0
WritesOrFails old new text (Ok done) = Appends old new text
WritesOrFails old new text (Err e) = (e ≡ faults.WriteFailed) × AppendsFront old new text
