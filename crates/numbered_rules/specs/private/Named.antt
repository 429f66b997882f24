-- The fields, methods and call sites that instructions name.
use Rattle.std.specs.Prelude.{◌≡◌, ℕ, List, Option, Some, None}
use Rattle.pool.specs.ConstantMeanings.{FieldConstant, MethodConstant, CallSite}
use Rattle.frames.specs.VerificationType.{class as class_of}
use Rattle.frames.specs.Slots.{descriptor_type, to_reference}
use Rattle.type_numbers.specs.Numbers.{Numbering, IsNumber}
use Rattle.type_numbers.specs.MethodNumbers.{AreTypes}
use Rattle.rules.specs.Constants.{is_init_name, is_special_name}
use Rattle.numbered_rules.specs.declared.constant_lookups.NamedField.{NamedField}
use Rattle.numbered_rules.specs.declared.constant_lookups.NamedMethod.{NamedMethod}
use Rattle.numbered_rules.specs.declared.constant_lookups.NamedSite.{NamedSite}

pub record IsField (s : Numbering) (x : NamedField) (f : FieldConstant) : Type 0 where
  pub class : IsNumber s x.class (class_of f.class)
  pub held : IsNumber s x.held (descriptor_type f.type)

pub record IsMethod (s : Numbering) (row : List ℕ) (x : NamedMethod) (c : MethodConstant) : Type 0 where
  pub interface : x.interface ≡ c.interface
  pub init : x.init ≡ is_init_name c
  pub class : IsNumber s x.class (to_reference c.class)
  pub types : AreTypes s row x.types c.type

pub record IsSite (s : Numbering) (row : List ℕ) (x : NamedSite) (c : CallSite) : Type 0 where
  pub special : x.special ≡ is_special_name c
  pub types : AreTypes s row x.types c.type

-- one exactly where there is a constant, and then that of the constant
abbrev pub IsFieldOf : Numbering → Option NamedField → Option FieldConstant → Type 0
IsFieldOf s None None = Unit {0}
IsFieldOf s (Some x) (Some f) = IsField s x f
IsFieldOf s _ _ = ⊥

abbrev pub IsMethodOf : Numbering → List ℕ → Option NamedMethod → Option MethodConstant → Type 0
IsMethodOf s row None None = Unit {0}
IsMethodOf s row (Some x) (Some c) = IsMethod s row x c
IsMethodOf s row _ _ = ⊥

abbrev pub IsSiteOf : Numbering → List ℕ → Option NamedSite → Option CallSite → Type 0
IsSiteOf s row None None = Unit {0}
IsSiteOf s row (Some x) (Some c) = IsSite s row x c
IsSiteOf s row _ _ = ⊥
