use Rattle.std.proofs.Common.{arith, ◌-◌}
use Rattle.machine.proofs.Addresses.{deep}
use Rattle.machine.proofs.creations.dimensions_of.Goals as goal

pub returns-in-Array : goal.returns-in-Array
returns-in-Array c = rw c.in-Array.is (omega (arith, deep (c.in-Array.dims - 1) c.in-Array.base))
