-- The expected types of what instructions take, by their typing rules.
use Rattle.std.proofs.Common.{◌≡◌, ◌∙◌, Bool, true, false, Option, Some, None, Result, Ok, Err, refl, sym, ap}
use Rattle.std.specs.Prelude.{IfOk, ℕ, nat_eq}
use Rattle.names.specs.Descriptors.{FieldDescriptor, field_width}
use Rattle.names.specs.ReferenceTypes.{ReferenceType, class_type, array_type}
use Rattle.pool.specs.Entries as entries
use Rattle.pool.specs.Entries.{Entry}
use Rattle.pool.specs.ConstantMeanings.{FieldConstant}
use Rattle.classfile.specs.Bootstraps.{has_bootstrap}
use Rattle.classfile.specs.Methods.{Method}
use Rattle.insn.specs.Meanings.{Act}
use Rattle.frames.specs.Slots.{descriptor_type}
use Rattle.rules.specs.declared.expected_types.ExpectedTypes.{ExpectedTypes as RawExpectedTypes}
use Rattle.rules.specs.TypingRules.{TypingRule, gives, where_judged, where_allowed, where_bootstrapped}
use Rattle.rules.specs.Constants.{get_static, load_dynamic, load_constant, load_wide_constant, new_object, check_cast, instance_of}
use Rattle.rules.specs.Table.{return_nothing}
use Rattle.rules.specs.ExpectedTypes.{ExpectedTypes, expected_types, of_nothing, types_view}

-- by a typing rule that is found
pub by_rule : {E : Type 0} (p q : TypingRule) (r : Result RawExpectedTypes E) → p ≡ q → IfOk r (λ x. types_view x ≡ expected_types q) → IfOk r (λ x. types_view x ≡ expected_types p)
by_rule p q (Ok x) e h = h ∙ ap expected_types (sym e)
by_rule p q (Err why) e h = tt

pub by_rule_at_once : (p q : TypingRule) (x : ExpectedTypes) → p ≡ q → x ≡ expected_types q → x ≡ expected_types p
by_rule_at_once p q x e h = h ∙ ap expected_types (sym e)

-- ---- those that take nothing

abbrev TakesNothing : TypingRule → Type 0
TakesNothing p = of_nothing ≡ expected_types p

judged : (b : Bool) (p : TypingRule) → TakesNothing p → TakesNothing (where_judged b p)
judged true p e = e
judged false p e = refl

allowed : (b : Bool) (p : TypingRule) → TakesNothing p → TakesNothing (where_allowed b p)
allowed true p e = e
allowed false p e = refl

bootstrapped : (b : Bool) (p : TypingRule) → TakesNothing p → TakesNothing (where_bootstrapped b p)
bootstrapped true p e = e
bootstrapped false p e = refl

computed : (units : ℕ) (b : Bool) (type : Option FieldDescriptor) → TakesNothing (load_dynamic units b type)
computed units b None = refl
computed units b (Some type) =
    let given = gives (descriptor_type type) in
    allowed (nat_eq (field_width type) units) (where_bootstrapped b given) (bootstrapped b given refl)

pub nothing_static : (f : Option FieldConstant) → TakesNothing (get_static f)
nothing_static None = refl
nothing_static (Some f) = refl

pub nothing_made : (t : Option ReferenceType) → TakesNothing (new_object t)
nothing_made None = refl
nothing_made (Some (class_type name)) = refl
nothing_made (Some (array_type component)) = refl

pub nothing_returned : (t : Option FieldDescriptor) → TakesNothing (return_nothing t)
nothing_returned None = refl
nothing_returned (Some t) = refl

module _ (m : Method Act) (type : Option FieldDescriptor) where
  pub nothing_loaded : (c : Option Entry) → TakesNothing (load_constant m type c)
  nothing_loaded None = refl
  nothing_loaded (Some (entries.Utf8 x)) = refl
  nothing_loaded (Some (entries.Integer x)) = refl
  nothing_loaded (Some (entries.Float x)) = refl
  nothing_loaded (Some (entries.Long x y)) = refl
  nothing_loaded (Some (entries.Double x y)) = refl
  nothing_loaded (Some (entries.Class x)) = refl
  nothing_loaded (Some (entries.String x)) = refl
  nothing_loaded (Some (entries.Fieldref x y)) = refl
  nothing_loaded (Some (entries.Methodref x y)) = refl
  nothing_loaded (Some (entries.InterfaceMethodref x y)) = refl
  nothing_loaded (Some (entries.NameAndType x y)) = refl
  nothing_loaded (Some (entries.MethodHandle x y)) = refl
  nothing_loaded (Some (entries.MethodType x)) = refl
  nothing_loaded (Some (entries.Dynamic b n)) = judged m.dynamic (load_dynamic 1 (has_bootstrap m.constant_pool m.bootstraps b) type) (computed 1 (has_bootstrap m.constant_pool m.bootstraps b) type)
  nothing_loaded (Some (entries.InvokeDynamic x y)) = refl
  nothing_loaded (Some entries.Unusable) = refl

  pub nothing_loaded_wide : (c : Option Entry) → TakesNothing (load_wide_constant m type c)
  nothing_loaded_wide None = refl
  nothing_loaded_wide (Some (entries.Utf8 x)) = refl
  nothing_loaded_wide (Some (entries.Integer x)) = refl
  nothing_loaded_wide (Some (entries.Float x)) = refl
  nothing_loaded_wide (Some (entries.Long x y)) = refl
  nothing_loaded_wide (Some (entries.Double x y)) = refl
  nothing_loaded_wide (Some (entries.Class x)) = refl
  nothing_loaded_wide (Some (entries.String x)) = refl
  nothing_loaded_wide (Some (entries.Fieldref x y)) = refl
  nothing_loaded_wide (Some (entries.Methodref x y)) = refl
  nothing_loaded_wide (Some (entries.InterfaceMethodref x y)) = refl
  nothing_loaded_wide (Some (entries.NameAndType x y)) = refl
  nothing_loaded_wide (Some (entries.MethodHandle x y)) = refl
  nothing_loaded_wide (Some (entries.MethodType x)) = refl
  nothing_loaded_wide (Some (entries.Dynamic b n)) = judged m.dynamic (load_dynamic 2 (has_bootstrap m.constant_pool m.bootstraps b) type) (computed 2 (has_bootstrap m.constant_pool m.bootstraps b) type)
  nothing_loaded_wide (Some (entries.InvokeDynamic x y)) = refl
  nothing_loaded_wide (Some entries.Unusable) = refl

-- a cast takes what a test of the class takes
tests_as_casts : (t : Option ReferenceType) → expected_types (check_cast t) ≡ expected_types (instance_of t)
tests_as_casts None = refl
tests_as_casts (Some t) = refl

pub as_tests : {E : Type 0} (t : Option ReferenceType) (r : Result RawExpectedTypes E) → IfOk r (λ x. types_view x ≡ expected_types (check_cast t)) → IfOk r (λ x. types_view x ≡ expected_types (instance_of t))
as_tests t (Ok x) h = h ∙ tests_as_casts t
as_tests t (Err why) h = tt
