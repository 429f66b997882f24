-- The constants that instructions name, by their descriptions in a table.
use Rattle.std.specs.Prelude.{IfSome}
use Rattle.std.proofs.Common.{◌≡◌, ℕ, List, Option, Some, None, option_map, [], ◌∷◌, refl, ap}
use Rattle.names.specs.Descriptors.{FieldDescriptor}
use Rattle.pool.specs.ConstantMeanings.{FieldConstant, MethodConstant, CallSite}
use Rattle.frames.specs.VerificationType.{VerificationType}
use Rattle.frames.specs.Slots.{descriptor_type}
use Rattle.type_numbers.specs.Numbers.{Numbering, IsNumber, IsNumberOf, IsGiven}
use Rattle.type_numbers.proofs.Decoded.{number_read}
use Rattle.rules.specs.TypingRules.{result_types}
use Rattle.numbered_rules.specs.Expected.{types_given}
use Rattle.numbered_rules.specs.declared.constant_lookups.NamedField.{NamedField}
use Rattle.numbered_rules.specs.declared.constant_lookups.NamedMethod.{NamedMethod}
use Rattle.numbered_rules.specs.declared.constant_lookups.NamedSite.{NamedSite}
use Rattle.numbered_rules.specs.private.Named.{IsField, IsFieldOf, IsMethod, IsMethodOf, IsSite, IsSiteOf}

-- ---- numbers that there are, or are not

module _ {A : Type 0} (s : Numbering) (f : A → VerificationType) where
  pub record IsNamed (n : ℕ) (o : Option A) : Type 0 where
    pub value : A
    pub is : o ≡ Some value
    pub number : IsNumber s n (f value)

  pub number_missing : (o : Option A) → IsNumberOf s None (option_map f o) → o ≡ None
  number_missing None h = refl
  number_missing (Some x) h = absurd h

  pub number_named : (n : ℕ) (o : Option A) → IsNumberOf s (Some n) (option_map f o) → IsNamed n o
  number_named n None h = absurd h
  number_named n (Some x) h = record { value = x; is = refl; number = h }

pub none_numbered : (s : Numbering) (o : Option VerificationType) → IsNumberOf s None o → o ≡ None
none_numbered s None h = refl
none_numbered s (Some t) h = absurd h

pub record IsTyped (s : Numbering) (n : ℕ) (o : Option VerificationType) : Type 0 where
  pub type : VerificationType
  pub is : o ≡ Some type
  pub number : IsNumber s n type

pub typed : (s : Numbering) (n : ℕ) (o : Option VerificationType) → IsNumberOf s (Some n) o → IsTyped s n o
typed s n None h = absurd h
typed s n (Some t) h = record { type = t; is = refl; number = h }

pub if_number_given : (s : Numbering) (n : Option ℕ) (o : Option VerificationType) → IsNumberOf s n o → IfSome n (IsGiven s)
if_number_given s None o h = tt
if_number_given s (Some n) None h = absurd h
if_number_given s (Some n) (Some t) h = (t, h)

pub number_given : (s : Numbering) (n : ℕ) (o : Option VerificationType) → IsNumberOf s (Some n) o → IsGiven s n
number_given s n None h = absurd h
number_given s n (Some t) h = (t, h)

pub result_given : (s : Numbering) (n : Option ℕ) (r : Option FieldDescriptor) → IsNumberOf s n (option_map descriptor_type r) → types_given s n ≡ result_types r
result_given s None None h = refl
result_given s (Some n) None h = absurd h
result_given s None (Some t) h = absurd h
result_given s (Some n) (Some t) h = ap (λ (u : VerificationType). u ∷ []) (number_read s n (descriptor_type t) h)

-- ---- what is named, where something is

module _ (s : Numbering) where
  pub record NamesField (x : NamedField) (o : Option FieldConstant) : Type 0 where
    pub field : FieldConstant
    pub is : o ≡ Some field
    pub parts : IsField s x field

  pub names_field : (x : NamedField) (o : Option FieldConstant) → IsFieldOf s (Some x) o → NamesField x o
  names_field x None h = absurd h
  names_field x (Some f) h = record { field = f; is = refl; parts = h }

  pub names_no_field : (o : Option FieldConstant) → IsFieldOf s None o → o ≡ None
  names_no_field None h = refl
  names_no_field (Some f) h = absurd h

module _ (s : Numbering) (row : List ℕ) where
  pub record NamesMethod (x : NamedMethod) (o : Option MethodConstant) : Type 0 where
    pub method : MethodConstant
    pub is : o ≡ Some method
    pub parts : IsMethod s row x method

  pub record NamesSite (x : NamedSite) (o : Option CallSite) : Type 0 where
    pub site : CallSite
    pub is : o ≡ Some site
    pub parts : IsSite s row x site

  pub names_method : (x : NamedMethod) (o : Option MethodConstant) → IsMethodOf s row (Some x) o → NamesMethod x o
  names_method x None h = absurd h
  names_method x (Some c) h = record { method = c; is = refl; parts = h }

  pub names_site : (x : NamedSite) (o : Option CallSite) → IsSiteOf s row (Some x) o → NamesSite x o
  names_site x None h = absurd h
  names_site x (Some c) h = record { site = c; is = refl; parts = h }

  pub names_no_method : (o : Option MethodConstant) → IsMethodOf s row None o → o ≡ None
  names_no_method None h = refl
  names_no_method (Some c) h = absurd h

  pub names_no_site : (o : Option CallSite) → IsSiteOf s row None o → o ≡ None
  names_no_site None h = refl
  names_no_site (Some c) h = absurd h
