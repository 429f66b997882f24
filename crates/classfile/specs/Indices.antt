-- The entry at an index of the constant pool (JVMS 4.1, 4.4): whether it may be looked up, and of which kind it is.
-- A test of an entry that cannot be looked up, or is of another kind, does not hold.
use Rattle.std.specs.Prelude.{ℕ, Bool, true, false, not, ◌&&◌, nat_eq, List, Result, Ok, Err}
use Rattle.std.specs.Result.{is_err}
use Rattle.pool.specs.declared.fault.PoolFault.{PoolFault}
use Rattle.pool.specs.Entries.{Entry, Utf8, Integer, Float, Long, Double, Class, String, NameAndType, Fieldref, Methodref, InterfaceMethodref}
use Rattle.pool.specs.Lookups.{entry_at, text_at, class_name_at, Named, name_and_type_at}
use Rattle.classfile.specs.declared.indices.ConstantKind.{ConstantKind}
use Rattle.classfile.specs.declared.indices.ConstantKind.TheVariants as kinds

-- something was found, and passes the test
abbrev pub on_found : {A : Type 0} → (A → Bool) → Result A PoolFault → Bool
on_found test (Ok a) = test a
on_found test (Err e) = false

abbrev pub is_of : ConstantKind → Entry → Bool
is_of kinds.Utf8 (Utf8 bytes) = true
is_of kinds.Class (Class name) = true
is_of kinds.NameAndType (NameAndType name descriptor) = true
is_of kinds.Reference (Fieldref class name_and_type) = true
is_of kinds.Reference (Methodref class name_and_type) = true
is_of kinds.Reference (InterfaceMethodref class name_and_type) = true
is_of kinds.Value (Integer bits) = true
is_of kinds.Value (Float bits) = true
is_of kinds.Value (Long high low) = true
is_of kinds.Value (Double high low) = true
is_of kinds.Value (String text) = true
is_of kind e = false

-- the index is 0, past the pool, or the second one of a Long or Double
unfoldable pub is_bad : List Entry → ℕ → Bool
is_bad pool index = is_err (entry_at pool index)

-- the same of an index that may be 0
abbrev pub is_bad_unless_zero : List Entry → ℕ → Bool
is_bad_unless_zero pool index = not (nat_eq index 0) && is_bad pool index

-- an entry of another kind stands there
unfoldable pub is_other : List Entry → ConstantKind → ℕ → Bool
is_other pool kind index = on_found (λ e. not (is_of kind e)) (entry_at pool index)

-- a Utf8 stands there, and its text passes the test
abbrev pub on_text : List Entry → ℕ → (List ℕ → Bool) → Bool
on_text pool index test = on_found test (text_at pool index)

-- a Class stands there that leads to a text, which passes the test
abbrev pub on_class_name : List Entry → ℕ → (List ℕ → Bool) → Bool
on_class_name pool index test = on_found test (class_name_at pool index)

-- a NameAndType stands there that leads to two texts, which pass the test
abbrev pub on_name_and_type : List Entry → ℕ → (Named → Bool) → Bool
on_name_and_type pool index test = on_found test (name_and_type_at pool index)
