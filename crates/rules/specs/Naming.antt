-- Which constant an instruction names, and what the program keeps of it.
use Rattle.std.specs.Prelude.{◌≡◌, ℕ, Bool, true, false, ◌&&◌, Option, Some, None, is_none, option_map}
use Rattle.std.specs.Option.{option_and_then}
use Rattle.names.specs.References.{reference_view}
use Rattle.names.specs.Types.{type_of}
use Rattle.names.specs.declared.descriptor.FieldType.{FieldType}
use Rattle.names.specs.declared.references.RefType.{RefType}
use Rattle.pool.specs.ConstantMeanings.{constant_at, class_at, field_at, method_at, dynamic_type_at, call_site_at}
use Rattle.pool.specs.ConstantMeanings as meanings
use Rattle.pool.specs.ConstantViews.{field_constant_view, method_constant_view, call_site_view}
use Rattle.pool.specs.declared.reference.FieldConstant.{FieldConstant}
use Rattle.pool.specs.declared.reference.MethodConstant.{MethodConstant}
use Rattle.pool.specs.declared.reference.CallSite.{CallSite}
use Rattle.classfile.specs.Methods as methods
use Rattle.classfile.specs.Methods.{is_own_field}
use Rattle.insn.specs.Meanings as acts
use Rattle.insn.specs.Meanings.{Act}
use Rattle.rules.specs.declared.naming.Named.{Named}
use Rattle.rules.specs.declared.naming.Named.TheVariants.{Class, Field, Method, Computed, Site}
use Rattle.rules.specs.Constants.{is_bootstrapped}

-- the Class constant of a type
abbrev pub class_index : Act → Option ℕ
class_index (acts.NewReferenceArray i) = Some i
class_index (acts.NewMultiArray i dimensions) = Some i
class_index (acts.CheckCast i) = Some i
class_index (acts.InstanceOf i) = Some i
class_index _ = None

abbrev pub field_index : Act → Option ℕ
field_index (acts.GetStatic i) = Some i
field_index (acts.PutStatic i) = Some i
field_index (acts.GetField i) = Some i
field_index (acts.PutField i) = Some i
field_index _ = None

abbrev pub method_index : Act → Option ℕ
method_index (acts.InvokeVirtual i) = Some i
method_index (acts.InvokeSpecial i) = Some i
method_index (acts.InvokeStatic i) = Some i
method_index (acts.InvokeInterface i count) = Some i
method_index _ = None

-- the constant that it loads
abbrev pub loaded_index : Act → Option ℕ
loaded_index (acts.LoadConstant i) = Some i
loaded_index (acts.LoadWideConstant i) = Some i
loaded_index _ = None

abbrev pub site_index : Act → Option ℕ
site_index (acts.InvokeDynamic i) = Some i
site_index _ = None

-- no class, field or method
abbrev pub names_no_member : Act → Bool
names_no_member a = is_none (class_index a) && is_none (field_index a) && is_none (method_index a)

abbrev pub names_nothing : Act → Bool
names_nothing a = names_no_member a && is_none (loaded_index a) && is_none (site_index a)

-- the field of the class itself that `putfield` sets in an instance initialization method
abbrev pub is_own : methods.Method Act → Option meanings.FieldConstant → Bool
is_own m (Some f) = m.is_init && is_own_field m f
is_own m None = false

abbrev pub sets_own : methods.Method Act → Act → Bool
sets_own m (acts.PutField i) = is_own m (field_at m.constant_pool i)
sets_own m _ = false

-- the Dynamic or InvokeDynamic that it names has a bootstrap method that may be used
abbrev pub names_bootstrapped : methods.Method Act → Act → Bool
names_bootstrapped m (acts.LoadConstant i) = is_bootstrapped m (constant_at m.constant_pool i)
names_bootstrapped m (acts.LoadWideConstant i) = is_bootstrapped m (constant_at m.constant_pool i)
names_bootstrapped m (acts.InvokeDynamic i) = is_bootstrapped m (constant_at m.constant_pool i)
names_bootstrapped m _ = true

-- ---- what the program keeps

abbrev pub kept_class : Named → Option RefType
kept_class (Class class) = class
kept_class _ = None

abbrev pub kept_field : Named → Option FieldConstant
kept_field (Field field own) = field
kept_field _ = None

abbrev pub kept_own : Named → Bool
kept_own (Field field own) = own
kept_own _ = false

abbrev pub kept_method : Named → Option MethodConstant
kept_method (Method method) = method
kept_method _ = None

abbrev pub kept_type : Named → Option FieldType
kept_type (Computed type bootstrapped) = type
kept_type _ = None

abbrev pub kept_site : Named → Option CallSite
kept_site (Site site bootstrapped) = site
kept_site _ = None

abbrev pub kept_bootstrapped : Named → Bool
kept_bootstrapped (Computed type bootstrapped) = bootstrapped
kept_bootstrapped (Site site bootstrapped) = bootstrapped
kept_bootstrapped _ = true

-- this is what the instruction names
pub record IsNamed (m : methods.Method Act) (act : Act) (n : Named) : Type 0 where
  pub class : option_map reference_view (kept_class n) ≡ option_and_then (class_at m.constant_pool) (class_index act)
  pub field : option_map field_constant_view (kept_field n)
      ≡ option_and_then (field_at m.constant_pool) (field_index act)
  pub own : kept_own n ≡ sets_own m act
  pub method : option_map method_constant_view (kept_method n)
      ≡ option_and_then (method_at m.constant_pool) (method_index act)
  pub computed : option_map type_of (kept_type n) ≡ option_and_then (dynamic_type_at m.constant_pool) (loaded_index act)
  pub site : option_map call_site_view (kept_site n) ≡ option_and_then (call_site_at m.constant_pool) (site_index act)
  pub bootstrapped : kept_bootstrapped n ≡ names_bootstrapped m act
