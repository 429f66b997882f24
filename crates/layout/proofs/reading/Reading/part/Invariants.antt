use Rattle.std.proofs.Common.{◌≡◌, ℕ, ◌+◌, List, ◌++◌, length}
use Rattle.std.specs.Io.KnownBytes.{Consumes}
use Rattle.layout.proofs.reading.Reading.part.Given as goal

abbrev pub invariant-loop-left : goal.invariant-loop-left
invariant-loop-left g l = (given : List ℕ) × (l.self.bytes ≡ l.initial.self.bytes ++ given) × Consumes (g.R.Read.remaining l.initial.reader) (g.R.Read.remaining l.reader) given × (length given + l.left ≡ l.fn.n)

abbrev pub decreases-loop-left : goal.decreases-loop-left
decreases-loop-left g l = l.left
