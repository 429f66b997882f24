-- Which index a refused look-up names (JVMS 4.1, 4.4): the first on its path at which nothing may be looked up, or
-- nothing fitting stands. A path is what is still looked for, in the order of the standard's fields.
use Rattle.std.specs.Prelude.{◌≡◌, ℕ, List, [], ◌∷◌, ◌++◌, Option, Some, None, Err}
use Rattle.pool.specs.declared.fault.PoolFault.{PoolFault}
use Rattle.pool.specs.declared.fault.PoolFault.TheVariants.{BadIndex, WrongKind}
use Rattle.pool.specs.Entries.{Entry, Utf8, Class, NameAndType, Fieldref, Methodref, InterfaceMethodref, Dynamic, InvokeDynamic}
use Rattle.pool.specs.Lookups.{text_at, class_name_at, named, name_and_type_at, field_ref_at, method_ref_at, dynamic_at, invoke_dynamic_at, StandsAt}

-- what is looked for
pub data Wanted : Type 0 where
  a_text : Wanted
  a_class : Wanted
  a_name_and_type : Wanted
  a_field : Wanted
  a_method : Wanted
  a_dynamic : Wanted
  an_invoke_dynamic : Wanted

-- an index, and what is looked for there
abbrev pub Step : Type 0
Step = ℕ × Wanted

-- what is looked for after an entry that fits, by its fields (4.4.1, 4.4.2, 4.4.6, 4.4.10); no other entry fits
abbrev pub leads : Wanted → Entry → Option (List Step)
leads a_text (Utf8 bytes) = Some []
leads a_class (Class name) = Some ((name, a_text) ∷ [])
leads a_name_and_type (NameAndType name descriptor) = Some ((name, a_text) ∷ (descriptor, a_text) ∷ [])
leads a_field (Fieldref class name_and_type) = Some ((class, a_class) ∷ (name_and_type, a_name_and_type) ∷ [])
leads a_method (Methodref class name_and_type) = Some ((class, a_class) ∷ (name_and_type, a_name_and_type) ∷ [])
leads a_method (InterfaceMethodref class name_and_type) =
    Some ((class, a_class) ∷ (name_and_type, a_name_and_type) ∷ [])
leads a_dynamic (Dynamic bootstrap name_and_type) = Some ((name_and_type, a_name_and_type) ∷ [])
leads an_invoke_dynamic (InvokeDynamic bootstrap name_and_type) = Some ((name_and_type, a_name_and_type) ∷ [])
leads wanted e = None

-- the fault of the first index on the path at which nothing fitting stands
pub data IsFirstMissing (es : List Entry) : List Step → PoolFault → Type 0 where
  nothing : (index : ℕ) (wanted : Wanted) (rest : List Step) → ((e : Entry) → StandsAt es index e → ⊥)
      → IsFirstMissing es ((index, wanted) ∷ rest) (BadIndex index)
  unfit : (index : ℕ) (wanted : Wanted) (rest : List Step) (e : Entry) → StandsAt es index e → leads wanted e ≡ None
      → IsFirstMissing es ((index, wanted) ∷ rest) (WrongKind index)
  behind : (index : ℕ) (wanted : Wanted) (rest : List Step) (e : Entry) (more : List Step) (fault : PoolFault)
      → StandsAt es index e → leads wanted e ≡ Some more
      → IsFirstMissing es (more ++ rest) fault → IsFirstMissing es ((index, wanted) ∷ rest) fault

-- of one index
abbrev pub IsMissing : List Entry → Wanted → ℕ → PoolFault → Type 0
IsMissing es wanted index fault = IsFirstMissing es ((index, wanted) ∷ []) fault

-- each refused look-up tells it
pub record RefusedAreMissing : Type 0 where
  pub text : (es : List Entry) (index : ℕ) (fault : PoolFault) → text_at es index ≡ Err fault
      → IsMissing es a_text index fault
  pub class_name : (es : List Entry) (index : ℕ) (fault : PoolFault) → class_name_at es index ≡ Err fault
      → IsMissing es a_class index fault
  pub both : (es : List Entry) (name descriptor : ℕ) (fault : PoolFault) → named es name descriptor ≡ Err fault
      → IsFirstMissing es ((name, a_text) ∷ (descriptor, a_text) ∷ []) fault
  pub name_and_type : (es : List Entry) (index : ℕ) (fault : PoolFault) → name_and_type_at es index ≡ Err fault
      → IsMissing es a_name_and_type index fault
  pub field_ref : (es : List Entry) (index : ℕ) (fault : PoolFault) → field_ref_at es index ≡ Err fault
      → IsMissing es a_field index fault
  pub method_ref : (es : List Entry) (index : ℕ) (fault : PoolFault) → method_ref_at es index ≡ Err fault
      → IsMissing es a_method index fault
  pub dynamic : (es : List Entry) (index : ℕ) (fault : PoolFault) → dynamic_at es index ≡ Err fault
      → IsMissing es a_dynamic index fault
  pub invoke_dynamic : (es : List Entry) (index : ℕ) (fault : PoolFault) → invoke_dynamic_at es index ≡ Err fault
      → IsMissing es an_invoke_dynamic index fault

-- and there is one at most
abbrev pub OneIsMissing : Type 0
OneIsMissing = (es : List Entry) (path : List Step) (first second : PoolFault) → IsFirstMissing es path first
    → IsFirstMissing es path second → first ≡ second
