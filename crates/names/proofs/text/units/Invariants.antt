use Rattle.std.proofs.Common.{◌≡◌, ◌++◌, length}
use Rattle.names.specs.Texts.{AreUnits, spelling, IsText}
use Rattle.names.proofs.text.units.Given as goal

abbrev pub invariant-units : goal.invariant-units
invariant-units l = record { fit : AreUnits l.out.items; so_far : spelling l.out.items ++ l.rest ≡ l.fn.text.bytes.now; left : ∥ IsText l.rest ∥₁ }

abbrev pub decreases-units : goal.decreases-units
decreases-units l = length l.rest
