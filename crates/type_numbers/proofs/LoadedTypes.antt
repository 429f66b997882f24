-- The types that constants load by their kinds.
use Rattle.std.proofs.Common.{◌≡◌, ℕ, None, refl}
use Rattle.names.specs.StandardNames.{string_name, class_name, method_type_name, method_handle_name}
use Rattle.pool.specs.declared.constant.Constant.{Constant}
use Rattle.pool.specs.declared.constant.Constant.TheVariants as constants
use Rattle.pool.specs.declared.kind.ReferenceKind.{ReferenceKind}
use Rattle.pool.specs.Views.{view}
use Rattle.frames.specs.VerificationType.{class}
use Rattle.type_numbers.specs.declared.loaded_numbers.LoadedNumbers.{LoadedNumbers}
use Rattle.type_numbers.specs.Numbers.{Numbering, IsNumberOf, Extends}
use Rattle.type_numbers.specs.Constants.{loaded_type}
use Rattle.type_numbers.specs.private.Readings.{AreLoaded}
use Rattle.type_numbers.proofs.LawsOfNumbers.{number_stays}

pub loaded_stays : (old new : Numbering) → Extends old new → (l : LoadedNumbers) → AreLoaded old l → AreLoaded new l
loaded_stays old new more l h = record {
  string = number_stays old new more l.string (class string_name) h.string;
  class_object = number_stays old new more l.class (class class_name) h.class_object;
  method_type = number_stays old new more l.method_type (class method_type_name) h.method_type;
  method_handle = number_stays old new more l.method_handle (class method_handle_name) h.method_handle;
}

-- none of the kinds that load something
pub record LoadsNothing (k : Constant) : Type 0 where
  pub no_int : (x : ℕ) → k ≡ constants.Integer x → ⊥
  pub no_float : (x : ℕ) → k ≡ constants.Float x → ⊥
  pub no_long : (x y : ℕ) → k ≡ constants.Long x y → ⊥
  pub no_double : (x y : ℕ) → k ≡ constants.Double x y → ⊥
  pub no_class : (x : ℕ) → k ≡ constants.Class x → ⊥
  pub no_string : (x : ℕ) → k ≡ constants.String x → ⊥
  pub no_method_type : (x : ℕ) → k ≡ constants.MethodType x → ⊥
  pub no_method_handle : (x : ReferenceKind) (y : ℕ) → k ≡ constants.MethodHandle x y → ⊥

pub loads_nothing : (s : Numbering) (k : Constant) → LoadsNothing k → IsNumberOf s None (loaded_type (view k))
loads_nothing s (constants.Integer x) p = absurd (p.no_int x refl)
loads_nothing s (constants.Float x) p = absurd (p.no_float x refl)
loads_nothing s (constants.Long x y) p = absurd (p.no_long x y refl)
loads_nothing s (constants.Double x y) p = absurd (p.no_double x y refl)
loads_nothing s (constants.Class x) p = absurd (p.no_class x refl)
loads_nothing s (constants.String x) p = absurd (p.no_string x refl)
loads_nothing s (constants.MethodType x) p = absurd (p.no_method_type x refl)
loads_nothing s (constants.MethodHandle x y) p = absurd (p.no_method_handle x y refl)
loads_nothing s _ p = tt
