-- The expected types of operands and local variables (JVMS 4.10.1.9), with types by their numbers.
use Rattle.std.specs.Prelude.{◌≡◌, ℕ, List, [], ◌∷◌, Option, Some, None}
use Rattle.std.specs.List.{All}
use Rattle.hierarchy.specs.Class.{ClassFact}
use Rattle.hierarchy.specs.Answer.{Outcome, yes, yes_if}
use Rattle.insn.specs.declared.kinds.Kind.{Kind}
use Rattle.insn.specs.declared.kinds.Kind.TheVariants.{Int, Long, Float, Double}
use Rattle.frames.specs.VerificationType.{VerificationType, array, class, uninit_this}
use Rattle.frames.specs.Assignable.{type_answer}
use Rattle.type_numbers.specs.Numbers.{Numbering, IsGiven, IsNumber}
use Rattle.type_numbers.specs.Decoding.{type_by}
use Rattle.names.specs.Descriptors.{class as class_descriptor}
use Rattle.names.specs.StandardNames.{object_name}
use Rattle.rules.specs.TypingRules.{ExpectedType}
use Rattle.rules.specs.Rules.{accepts, is_array, is_array_for, is_reference}
use Rattle.numbered_rules.specs.declared.expected.Expected.{Expected}
use Rattle.numbered_rules.specs.declared.expected.Expected.TheVariants.{Assignable, Reference, Array, ArrayFor, OwnOr, Object, ObjectArray}

-- the type of arrays of the class `Object`
abbrev pub objects : VerificationType
objects = array (class_descriptor object_name)

-- the own object that is not initialized, or a type that is assignable to another
abbrev pub own_or : List ClassFact → VerificationType → VerificationType → Outcome
own_or classes to uninit_this = yes
own_or classes to t = type_answer classes t to

-- whether a type meets an expected type
abbrev pub accepts_by : Numbering → Expected → VerificationType → Outcome
accepts_by s (Assignable n) t = type_answer s.classes t (type_by s n)
accepts_by s Reference t = yes_if (is_reference t)
accepts_by s Array t = yes_if (is_array t)
accepts_by s (ArrayFor p) t = yes_if (is_array_for p t)
accepts_by s (OwnOr n) t = own_or s.classes (type_by s n) t
accepts_by s (Object n) t = type_answer s.classes t (type_by s n)
accepts_by s (ObjectArray n) t = type_answer s.classes t (type_by s n)

-- the number that it names was given to a type: that of the class Object, or of arrays of it, where this is asked for
abbrev pub IsExpected : Numbering → Expected → Type 0
IsExpected s (Assignable n) = IsGiven s n
IsExpected s (OwnOr n) = IsGiven s n
IsExpected s (Object n) = IsNumber s n (class object_name)
IsExpected s (ObjectArray n) = IsNumber s n objects
IsExpected s _ = Unit {0}

abbrev pub AreExpected : Numbering → List Expected → Type 0
AreExpected s asked = All (IsExpected s) asked

-- the number of the type of a kind, and what is asked of a number of this kind
abbrev pub kind_number : Kind → ℕ
kind_number Int = 16777216
kind_number Float = 33554432
kind_number Double = 50331648
kind_number Long = 67108864

abbrev pub number_asked : Kind → Expected
number_asked kind = Assignable (kind_number kind)

-- each type has one answer by both
abbrev pub StandsFor : Numbering → Expected → ExpectedType → Type 0
StandsFor s e w = (t : VerificationType) → accepts_by s e t ≡ accepts s.classes w t

-- the types that are pushed
abbrev pub types_given : Numbering → Option ℕ → List VerificationType
types_given s None = []
types_given s (Some n) = type_by s n ∷ []
