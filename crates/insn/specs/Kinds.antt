-- The kinds of numbers that instructions compute with, and how much room each takes (JVMS 2.6.1, 2.11.1).
use Rattle.std.specs.Prelude.{ℕ, Bool, true, false, if◌then◌else◌}
use Rattle.names.specs.declared.base.Primitive.{Primitive}
use Rattle.names.specs.declared.base.Primitive.TheVariants as primitives
use Rattle.insn.specs.declared.kinds.Kind.{Kind}
use Rattle.insn.specs.declared.kinds.Kind.TheVariants.{Int, Long, Float, Double}

-- a number of the kind takes two places: two locals, two units of the stack's depth (JVMS 2.6.1, 2.6.2)
abbrev pub is_wide : Kind → Bool
is_wide Int = false
is_wide Float = false
is_wide Long = true
is_wide Double = true

-- how many locals, and units of the stack's depth, it takes
abbrev pub kind_units : Kind → ℕ
kind_units kind = if is_wide kind then 2 else 1

-- the computational kind of a primitive type (Table 2.11.1-B)
abbrev pub computed_as : Primitive → Kind
computed_as primitives.Float = Float
computed_as primitives.Long = Long
computed_as primitives.Double = Double
computed_as _ = Int

abbrev pub same_kind : Kind → Kind → Bool
same_kind Int Int = true
same_kind Long Long = true
same_kind Float Float = true
same_kind Double Double = true
same_kind _ _ = false
