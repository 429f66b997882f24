use Rattle.std.proofs.Common.{◌≡◌, map, take}
use Rattle.hierarchy.specs.private.Flags.{AreNumbers, AreStarts}
use Rattle.hierarchy.specs.private.TextNumbers.{AreGiven}
use Rattle.hierarchy.specs.Summary.{reference_of}
use Rattle.hierarchy.proofs.starts.starts_of.Given as goal

abbrev pub invariant-loop-reference : goal.invariant-loop-reference
invariant-loop-reference l = record {
  starts : AreStarts l.places l.numbers l.class (map (reference_of l.references) (take l.reference-index l.references.members.items)) l.starts.items;
  good : AreNumbers l.numbers;
  given : AreGiven l.numbers l.numbering;
  same : l.numbering.texts.now ≡ l.references.texts.items;
}
