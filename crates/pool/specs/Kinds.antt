-- The kinds of a method handle's reference by their numbers (JVMS 4.4.8, table 5.4.3.5-A).
use Rattle.std.specs.Prelude.{ℕ, Option, Some, None, nat_eq, if◌then◌else◌}
use Rattle.pool.specs.declared.kind.ReferenceKind.{ReferenceKind}
use Rattle.pool.specs.declared.kind.ReferenceKind.TheVariants.{GetField, GetStatic, PutField, PutStatic, InvokeVirtual, InvokeStatic, InvokeSpecial, NewInvokeSpecial, InvokeInterface}

abbrev pub kind_number : ReferenceKind → ℕ
kind_number GetField = 1
kind_number GetStatic = 2
kind_number PutField = 3
kind_number PutStatic = 4
kind_number InvokeVirtual = 5
kind_number InvokeStatic = 6
kind_number InvokeSpecial = 7
kind_number NewInvokeSpecial = 8
kind_number InvokeInterface = 9

-- the kind of this number: none outside 1 to 9
abbrev pub kind_of : ℕ → Option ReferenceKind
kind_of n =
    if nat_eq n 1 then Some GetField
    else if nat_eq n 2 then Some GetStatic
    else if nat_eq n 3 then Some PutField
    else if nat_eq n 4 then Some PutStatic
    else if nat_eq n 5 then Some InvokeVirtual
    else if nat_eq n 6 then Some InvokeStatic
    else if nat_eq n 7 then Some InvokeSpecial
    else if nat_eq n 8 then Some NewInvokeSpecial
    else if nat_eq n 9 then Some InvokeInterface
    else None
