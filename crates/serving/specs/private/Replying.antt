-- Words of the steps by which a reply is written.
use Rattle.std.specs.Prelude.{List, ℕ, Option, Result, Ok, Err}
use Rattle.std.specs.Io.KnownBytes.{Appends, Keeps}
use Rattle.printing.specs.Writing.{AppendsFront}
use Rattle.serving.specs.declared.stop.Stop.{Stop}
use Rattle.serving.specs.declared.stop.Stop.TheVariants.{OutOfMemory, NotWritten}

-- these bytes were written; or a prefix of them, where a write failed; or none, where memory ran out
abbrev pub Puts : Option (List ℕ) → Option (List ℕ) → List ℕ → Result (Unit {0}) Stop → Type 0
Puts old new bytes (Ok done) = Appends old new bytes
Puts old new bytes (Err NotWritten) = AppendsFront old new bytes
Puts old new bytes (Err OutOfMemory) = Keeps old new
Puts old new bytes (Err stop) = ⊥
