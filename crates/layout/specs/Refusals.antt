-- The number by which each fault is reported to users.
use Rattle.std.specs.Prelude.{ℕ}
use Rattle.layout.specs.declared.fault.ReadFault.{ReadFault}
use Rattle.layout.specs.declared.fault.ReadFault.TheVariants as reading
use Rattle.layout.specs.declared.fault.WriteFault.{WriteFault}
use Rattle.layout.specs.declared.fault.WriteFault.TheVariants as writing

abbrev pub read_fault_number : ReadFault → ℕ
read_fault_number reading.OutOfMemory = 1
read_fault_number (reading.EndsEarly at) = 2
read_fault_number (reading.BadText at) = 3
read_fault_number (reading.BadTag at tag) = 7
read_fault_number reading.BadMagic = 10
read_fault_number (reading.BadVersion major minor) = 11
read_fault_number (reading.AttributeLength at) = 12
read_fault_number (reading.BytesAfter at) = 13
read_fault_number (reading.TooLong at) = 14
read_fault_number (reading.ReadFailed at) = 15
read_fault_number (reading.BadPoolCount at) = 16
read_fault_number (reading.BadFrameType at) = 47
read_fault_number (reading.BadTypeTag at) = 48

abbrev pub write_fault_number : WriteFault → ℕ
write_fault_number writing.OutOfMemory = 1
write_fault_number writing.DoesNotFit = 17
write_fault_number writing.HasNoSpelling = 18
