-- Which expected types those by numbers stand for.
use Rattle.std.proofs.Common.{◌≡◌, ◌∙◌, ℕ, zero, suc, ◌≤◌, List, [], ◌∷◌, map, take, replicate, refl, ap, arith}
use Rattle.std.specs.List.{AllZip}
use Rattle.std.proofs.lemmas.List.Elements.{All-nil, All-cons}
use Rattle.names.specs.declared.base.Primitive.{Primitive}
use Rattle.names.specs.Descriptors.{FieldDescriptor, primitive, class as class_descriptor, array as array_descriptor}
use Rattle.names.specs.ReferenceTypes.{ReferenceType}
use Rattle.hierarchy.specs.Class.{ClassFact}
use Rattle.insn.specs.declared.kinds.Kind.{Kind}
use Rattle.insn.specs.declared.kinds.Kind.TheVariants.{Int, Long, Float, Double}
use Rattle.frames.specs.VerificationType.{VerificationType, array, class, uninit_this}
use Rattle.frames.specs.Assignable.{type_answer}
use Rattle.frames.specs.Slots.{descriptor_type, number_type, to_reference}
use Rattle.type_numbers.specs.Numbers.{Numbering, IsNumber}
use Rattle.type_numbers.proofs.Decoded.{number_read}
use Rattle.rules.specs.TypingRules.{number, numbers, sizes, expected_of, assignable_to, any_reference, any_array, any_array_for, own_or_assignable_to}
use Rattle.rules.specs.Rules.{own_or_answer}
use Rattle.numbered_rules.specs.declared.expected.Expected.TheVariants.{Assignable, Reference, Array, ArrayFor, OwnOr}
use Rattle.numbered_rules.specs.Expected.{kind_number, number_asked, own_or, AreExpected, IsExpected, StandsFor}

-- the number of the type of a kind, for a number of this kind
pub kind_stands : (s : Numbering) (n : ℕ) (kind : Kind) → IsNumber s n (number_type kind) → StandsFor s (Assignable n) (number kind)
kind_stands s n kind h t = ap (type_answer s.classes t) (number_read s n (number_type kind) h)

pub kind_is_number : (s : Numbering) (kind : Kind) → IsNumber s (kind_number kind) (number_type kind)
kind_is_number s Int = record { number = refl; noted = tt }
kind_is_number s Long = record { number = refl; noted = tt }
kind_is_number s Float = record { number = refl; noted = tt }
kind_is_number s Double = record { number = refl; noted = tt }

-- several numbers of kinds
pub kinds_stand : (s : Numbering) (kinds : List Kind) → AllZip (StandsFor s) (map number_asked kinds) (numbers kinds)
kinds_stand s [] = tt
kinds_stand s (kind ∷ kinds) = (kind_stands s (kind_number kind) kind (kind_is_number s kind), kinds_stand s kinds)

pub kinds_expected : (s : Numbering) (kinds : List Kind) → AreExpected s (map number_asked kinds)
kinds_expected s [] = All-nil (IsExpected s)
kinds_expected s (kind ∷ kinds) = All-cons (IsExpected s) (number_asked kind) (map number_asked kinds) (number_type kind, kind_is_number s kind) (kinds_expected s kinds)

-- so many sizes
pub sizes_taken : (n m : ℕ) → n ≤ m → map number (take n (replicate m Int)) ≡ sizes n
sizes_taken zero m h = refl
sizes_taken (suc n) zero h = absurd (omega (arith, h))
sizes_taken (suc n) (suc m) h = ap (λ ws. number Int ∷ ws) (sizes_taken n m (omega (arith, h)))

-- the number of a class or an array, for what is assignable to it
pub type_stands : (s : Numbering) (n : ℕ) (type : ReferenceType) → IsNumber s n (to_reference type) → StandsFor s (Assignable n) (assignable_to type)
type_stands s n type h t = ap (type_answer s.classes t) (number_read s n (to_reference type) h)

-- the number of the type of a field or a parameter, for a value of it
pub descriptor_stands : (s : Numbering) (n : ℕ) (type : FieldDescriptor) → IsNumber s n (descriptor_type type) → StandsFor s (Assignable n) (expected_of type)
descriptor_stands s n (primitive p) h t = ap (type_answer s.classes t) (number_read s n (descriptor_type (primitive p)) h)
descriptor_stands s n (class_descriptor name) h t = ap (type_answer s.classes t) (number_read s n (class name) h)
descriptor_stands s n (array_descriptor x) h t = ap (type_answer s.classes t) (number_read s n (array x) h)

pub reference_stands : (s : Numbering) → StandsFor s Reference any_reference
reference_stands s t = refl

pub array_stands : (s : Numbering) → StandsFor s Array any_array
array_stands s t = refl

pub array_for_stands : (s : Numbering) (p : Primitive) → StandsFor s (ArrayFor p) (any_array_for p)
array_for_stands s p t = refl

own_by_name : (classes : List ClassFact) (name : List ℕ) (t : VerificationType) → own_or classes (class name) t ≡ own_or_answer classes name t
own_by_name classes name uninit_this = refl
own_by_name classes name _ = refl

-- the number of a class, for the own object or what is assignable to the class
pub own_stands : (s : Numbering) (n : ℕ) (name : List ℕ) → IsNumber s n (class name) → StandsFor s (OwnOr n) (own_or_assignable_to name)
own_stands s n name h t = ap (λ u. own_or s.classes u t) (number_read s n (class name) h) ∙ own_by_name s.classes name t
