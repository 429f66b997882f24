-- Objects on which members are used.
use Rattle.std.specs.Prelude.{◌≡◌, ℕ, Bool, true, false, if◌then◌else◌, List, Option, Some, None, MatchOption}
use Rattle.classfile.specs.Methods.{Method}
use Rattle.hierarchy.specs.Class.{ClassFact}
use Rattle.hierarchy.specs.Nearest.{is_guarded}
use Rattle.insn.specs.Meanings as acts
use Rattle.insn.specs.Meanings.{Act}
use Rattle.frames.specs.VerificationType.{VerificationType, array}
use Rattle.type_numbers.specs.declared.named_constant.NamedConstant.{NamedConstant}
use Rattle.type_numbers.specs.declared.named_constant.NamedConstant.TheVariants.{Field, Method as CalledMethod}
use Rattle.rules.specs.Guards.{IsUse}
use Rattle.rules.specs.Protected.{Use, used_by}
use Rattle.rules.specs.declared.protected_members.Use as uses

abbrev pub is_array_type : VerificationType → Bool
is_array_type (array component) = true
is_array_type _ = false

-- the member that an instruction may use on an object, by its index, in a class of a release or without one
abbrev pub used_index : (release : Bool) → Act → Option ℕ
used_index release (acts.GetField i) = Some i
used_index release (acts.PutField i) = Some i
used_index release (acts.InvokeVirtual i) = Some i
used_index release (acts.InvokeSpecial i) = if release then Some i else None
used_index release _ = None

-- the number of the class of a field or a method
abbrev pub member_class_of : NamedConstant → Option ℕ
member_class_of (Field n held) = Some n
member_class_of (CalledMethod interface init n types) = Some n
member_class_of _ = None

-- it is a method of an interface
abbrev pub names_interface : NamedConstant → Bool
names_interface (CalledMethod interface init n types) = interface
names_interface _ = false

-- the answer to whether the member that is used is guarded
abbrev pub AnswersUse : List ClassFact → Method Act → Act → Bool → Type 0
AnswersUse classes m a answer = (u : Use) → used_by m a ≡ Some u → is_guarded classes m.class u.reference ≡ answer

-- a guarded member is used
abbrev pub IsGuardedUse : List ClassFact → Method Act → Act → uses.Use → Type 0
IsGuardedUse classes m a u = (is : IsUse m a u.index u.above) × (is_guarded classes m.class is.member.reference ≡ true)

-- a guarded member is used, or none is
abbrev pub UsesGuarded : List ClassFact → Method Act → Act → Option uses.Use → Type 0
UsesGuarded classes m a u = MatchOption u (AnswersUse classes m a false) (IsGuardedUse classes m a)
