-- The interface whose method `invokespecial` calls (JVMS 4.9.2): the class itself, its direct superclass, or one of its
-- direct superinterfaces. A class that is read as a release has it may call those of no other.
use Rattle.std.specs.Prelude.{ℕ, Bool, true, false, not, ◌&&◌, ◌||◌, if◌then◌else◌, List, [], ◌∷◌, Option, Some, None}
use Rattle.std.specs.List.{list_any}
use Rattle.std.specs.Str.{bytes_eq}
use Rattle.names.specs.ReferenceTypes.{ReferenceType, class_type, array_type}
use Rattle.pool.specs.ConstantMeanings.{MethodConstant, method_at}
use Rattle.classfile.specs.Methods.{Method, is_name}
use Rattle.insn.specs.Meanings as acts
use Rattle.insn.specs.Meanings.{Act}
use Rattle.frames.specs.Conditions.{reason, Conditions}
use Rattle.rules.specs.ReasonNumbers.{not_direct_interface}

abbrev pub is_direct_name : Method Act → List ℕ → Bool
is_direct_name m name =
    bytes_eq m.class name || (is_name m.superclass name || list_any (λ other. bytes_eq other name) m.interfaces)

-- an array is no interface, and its methods are not called so
abbrev pub is_direct : Method Act → ReferenceType → Bool
is_direct m (class_type name) = is_direct_name m name
is_direct m (array_type component) = true

abbrev pub is_indirect : Method Act → Option MethodConstant → Bool
is_indirect m None = false
is_indirect m (Some c) = c.interface && not (is_direct m c.class)

-- the instruction calls a method of another interface
abbrev pub calls_indirect : Method Act → Act → Bool
calls_indirect m (acts.InvokeSpecial i) = m.release && is_indirect m (method_at m.constant_pool i)
calls_indirect m _ = false

abbrev pub interface_conditions : Method Act → Act → Conditions
interface_conditions m act = if calls_indirect m act then (reason not_direct_interface, true) ∷ [] else []
