-- The readings of texts that are kept, by the indices of the texts. Words of the code's own steps.
use Rattle.std.specs.Prelude.{◌≡◌, ℕ, ◌≤◌, false, List, Option, Some, Ok, vec_len}
use Rattle.names.specs.declared.references.RefType.{RefType}
use Rattle.names.specs.declared.descriptor.FieldType.{FieldType}
use Rattle.names.specs.declared.descriptor.MethodType.{MethodType}
use Rattle.names.specs.Types.{type_of, method_of}
use Rattle.names.specs.Reading.{field_answer, method_answer}
use Rattle.names.specs.ReferenceTypes.{reference_type}
use Rattle.names.specs.References.{reference_view}
use Rattle.pool.specs.Entries.{Entry}
use Rattle.pool.specs.Lookups.{text_at}

-- what is kept for an index is what the text there names
abbrev pub AreArrays : List Entry → (ℕ → Option RefType) → Type 0
AreArrays pool kept = (index : ℕ) (r : RefType) (text : List ℕ) → kept index ≡ Some r → text_at pool index ≡ Ok text
    → reference_type text ≡ Some (reference_view r)

abbrev pub AreFields : List Entry → (ℕ → Option FieldType) → Type 0
AreFields pool kept = (index : ℕ) (t : FieldType) (text : List ℕ) → kept index ≡ Some t → text_at pool index ≡ Ok text
    → field_answer text ≡ Ok (type_of t)

abbrev pub AreMethods : List Entry → (ℕ → Option MethodType) → Type 0
AreMethods pool kept = (index : ℕ) (m : MethodType) (text : List ℕ) → kept index ≡ Some m → text_at pool index ≡ Ok text
    → method_answer false text ≡ Ok (method_of m)

-- none has more parameters than units fit
abbrev pub AreFew : (ℕ → Option MethodType) → Type 0
AreFew kept = (index : ℕ) (m : MethodType) → kept index ≡ Some m → vec_len m.params ≤ 255
