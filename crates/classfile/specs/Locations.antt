-- Which attributes are read by their parts, by their name and the table that they stand in (JVMS 4.7, table 4.7-C).
-- `Layouts` has the attributes of numbers.
use Rattle.std.specs.Prelude.{ℕ, Bool, false, ◌&&◌, List, nat_eq, nat_le, Result, Ok, Err, codes}
use Rattle.pool.specs.declared.fault.PoolFault.{PoolFault}
use Rattle.pool.specs.Entries.{Entry}
use Rattle.pool.specs.Lookups.{text_at}
use Rattle.classfile.specs.declared.location.Location.{Location}
use Rattle.classfile.specs.declared.location.Location.TheVariants.{Class, Field, Method, Code, RecordComponent}
use lib.Pointwise.{pointwise}

-- a text was found, and it is this one
abbrev pub is_this : List ℕ → Result (List ℕ) PoolFault → Bool
is_this text (Ok bytes) = pointwise nat_eq bytes text
is_this text (Err e) = false

-- the index is that of a Utf8 constant with this text
abbrev pub is_named : List Entry → ℕ → List ℕ → Bool
is_named pool index text = is_this text (text_at pool index)

-- a Code attribute stands in a method (4.7.3)
abbrev pub is_code : List Entry → Location → ℕ → Bool
is_code pool Method name = is_named pool name (codes "Code")
is_code pool (Class major) name = false
is_code pool Field name = false
is_code pool Code name = false
is_code pool RecordComponent name = false

-- a StackMapTable stands in a Code attribute (4.7.4)
abbrev pub is_stack_map : List Entry → Location → ℕ → Bool
is_stack_map pool Code name = is_named pool name (codes "StackMapTable")
is_stack_map pool (Class major) name = false
is_stack_map pool Field name = false
is_stack_map pool Method name = false
is_stack_map pool RecordComponent name = false

-- a Record stands in a class, of major version 60 or above (4.7.30)
abbrev pub is_record : List Entry → Location → ℕ → Bool
is_record pool (Class major) name = nat_le 60 major && is_named pool name (codes "Record")
is_record pool Field name = false
is_record pool Method name = false
is_record pool Code name = false
is_record pool RecordComponent name = false
