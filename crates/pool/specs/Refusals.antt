-- The number by which each fault is reported to users.
use Rattle.std.specs.Prelude.{ℕ}
use Rattle.pool.specs.declared.fault.PoolFault.{PoolFault}
use Rattle.pool.specs.declared.fault.PoolFault.TheVariants.{BadIndex, WrongKind}

abbrev pub pool_fault_number : PoolFault → ℕ
pool_fault_number (BadIndex index) = 8
pool_fault_number (WrongKind index) = 9
