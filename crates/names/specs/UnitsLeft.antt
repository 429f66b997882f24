-- The units that an iterator has still to give.
use Rattle.std.specs.Prelude.{ℕ, List}
use Rattle.names.specs.declared.text.TextUnits.{TextUnits}
use Rattle.names.specs.Units.{units_of}

abbrev pub units_left : TextUnits → List ℕ
units_left s = units_of s.rest.now
