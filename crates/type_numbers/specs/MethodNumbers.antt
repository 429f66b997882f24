-- The types that a method's descriptor names, by their numbers (JVMS 4.3.3): those of its parameters in a row that many
-- descriptors share, and that of its result.
use Rattle.std.specs.Prelude.{◌≡◌, ℕ, ◌+◌, ◌≤◌, false, List, [], ◌∷◌, ◌++◌, Option, Some, None, option_map, map, take, drop, length, slice_index_or}
use Rattle.std.specs.Option.{option_and_then}
use Rattle.names.specs.Descriptors.{MethodDescriptor, method_width}
use Rattle.names.specs.Reading.{method_answer}
use Rattle.pool.specs.Entries.{Entry}
use Rattle.pool.specs.Lookups.{text_at}
use Rattle.pool.specs.ConstantMeanings.{found}
use Rattle.frames.specs.VerificationType.{VerificationType}
use Rattle.frames.specs.Slots.{descriptor_type}
use Rattle.type_numbers.specs.declared.method_numbers.MethodNumbers.{MethodNumbers}
use Rattle.type_numbers.specs.declared.method_numbers.MethodReading.{MethodReading}
use Rattle.type_numbers.specs.declared.method_numbers.MethodReading.TheVariants.{Unread, Nothing, Types}
use Rattle.type_numbers.specs.declared.method_numbers.DescriptorNumbers.{DescriptorNumbers}
use Rattle.type_numbers.specs.Numbers.{Numbering, IsNumber, IsNumberOf}

-- the numbers of types, one for each
abbrev pub AreNumbers : Numbering → List ℕ → List VerificationType → Type 0
AreNumbers s [] [] = Unit {0}
AreNumbers s (n ∷ ns) (t ∷ ts) = IsNumber s n t × AreNumbers s ns ts
AreNumbers s _ _ = ⊥

-- the arguments of a descriptor, in a row
abbrev pub arguments_in : List ℕ → MethodNumbers → List ℕ
arguments_in row x = take x.count (drop x.start row)

pub record AreTypes (s : Numbering) (row : List ℕ) (x : MethodNumbers) (m : MethodDescriptor) : Type 0 where
  pub within : x.start + x.count ≤ length row
  pub width : x.width ≡ method_width m false
  pub arguments : AreNumbers s (arguments_in row x) (map descriptor_type m.params)
  pub result : IsNumberOf s x.result (option_map descriptor_type m.result)

-- numbers exactly where there is a descriptor, and then those of its types
abbrev pub AreTypesOf : Numbering → List ℕ → Option MethodNumbers → Option MethodDescriptor → Type 0
AreTypesOf s row None None = Unit {0}
AreTypesOf s row (Some x) (Some m) = AreTypes s row x m
AreTypesOf s row _ _ = ⊥

-- the descriptor that the text at an index of a pool is, without a receiver
abbrev pub method_in : List Entry → ℕ → Option MethodDescriptor
method_in pool index = option_and_then (λ text. found (method_answer false text)) (found (text_at pool index))

-- the row that the descriptors share
abbrev pub row_of : DescriptorNumbers → List ℕ
row_of d = d.arguments.items

-- a row goes on after another
abbrev pub GoesOn : List ℕ → List ℕ → Type 0
GoesOn old new = (more : List ℕ) × (new ≡ old ++ more)

-- what was read of a text that is this descriptor, or none
abbrev pub IsMethodReading : Numbering → List ℕ → Option MethodDescriptor → MethodReading → Type 0
IsMethodReading s row m Unread = Unit {0}
IsMethodReading s row m Nothing = AreTypesOf s row None m
IsMethodReading s row m (Types x) = AreTypesOf s row (Some x) m

-- of each text of a pool what was read of it
pub record AreDescriptors (s : Numbering) (pool : List Entry) (d : DescriptorNumbers) : Type 0 where
  pub long : length d.readings.items ≡ length pool + 1
  pub read : (index : ℕ)
      → IsMethodReading s (row_of d) (method_in pool index) (slice_index_or d.readings.items index Unread)
