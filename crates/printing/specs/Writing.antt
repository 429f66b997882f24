-- The bytes that a writer holds after a call that writes a text.
use Rattle.std.specs.Prelude.{◌≡◌, ℕ, List, ◌++◌, Option, Result, Ok, Err}
use Rattle.std.specs.Io.KnownBytes.{Appends}
use Rattle.printing.specs.declared.print.WriteFailed.{WriteFailed}

-- a prefix of the text was written
abbrev pub AppendsFront : Option (List ℕ) → Option (List ℕ) → List ℕ → Type 0
AppendsFront old new text = (front : List ℕ) × (rest : List ℕ) × (text ≡ front ++ rest) × Appends old new front

-- the text was written, or a write failed and a prefix of it was written
abbrev pub Writes : Option (List ℕ) → Option (List ℕ) → List ℕ → Result (Unit {0}) WriteFailed → Type 0
Writes old new text (Ok done) = Appends old new text
Writes old new text (Err e) = AppendsFront old new text
