-- The thing that an instruction names, by its act where that is known.
use Rattle.std.proofs.Common.{◌≡◌, ◌∙◌, ap}
use Rattle.std.specs.Prelude.{Bool, Option, option_map}
use Rattle.std.specs.Option.{option_and_then}
use Rattle.names.specs.References.{reference_view}
use Rattle.names.specs.declared.references.RefType.{RefType}
use Rattle.pool.specs.declared.reference.FieldConstant.{FieldConstant}
use Rattle.pool.specs.ConstantMeanings.{class_at, field_at, method_at, call_site_at}
use Rattle.pool.specs.ConstantViews.{field_constant_view, method_constant_view, call_site_view}
use Rattle.classfile.specs.Methods.{Method}
use Rattle.insn.specs.Meanings as acts
use Rattle.insn.specs.Views.{act_view}
use Rattle.insn.specs.declared.acts.Act.{Act}
use Rattle.rules.specs.declared.naming.Named.{Named}
use Rattle.rules.specs.Naming.{IsNamed, class_index, field_index, method_index, site_index, names_bootstrapped, kept_class, kept_field, kept_method, kept_site, kept_bootstrapped}

pub class_is : (m : Method acts.Act) (act other : Act) (n : Named) (r : Option RefType) → r ≡ kept_class n → IsNamed m (act_view act) n → act ≡ other
    → option_map reference_view r ≡ option_and_then (class_at m.constant_pool) (class_index (act_view other))
class_is m act other n r k h e = ap (option_map reference_view) k ∙ h.class ∙ ap (λ a. option_and_then (class_at m.constant_pool) (class_index (act_view a))) e

pub field_is : (m : Method acts.Act) (act other : Act) (n : Named) (r : Option FieldConstant) → r ≡ kept_field n → IsNamed m (act_view act) n → act ≡ other
    → option_map field_constant_view r ≡ option_and_then (field_at m.constant_pool) (field_index (act_view other))
field_is m act other n r k h e =
    ap (option_map field_constant_view) k ∙ h.field ∙ ap (λ a. option_and_then (field_at m.constant_pool) (field_index (act_view a))) e

pub method_is : (m : Method acts.Act) (act other : Act) (n : Named) → IsNamed m (act_view act) n → act ≡ other
    → option_map method_constant_view (kept_method n) ≡ option_and_then (method_at m.constant_pool) (method_index (act_view other))
method_is m act other n h e = h.method ∙ ap (λ a. option_and_then (method_at m.constant_pool) (method_index (act_view a))) e

pub site_is : (m : Method acts.Act) (act other : Act) (n : Named) → IsNamed m (act_view act) n → act ≡ other
    → option_map call_site_view (kept_site n) ≡ option_and_then (call_site_at m.constant_pool) (site_index (act_view other))
site_is m act other n h e = h.site ∙ ap (λ a. option_and_then (call_site_at m.constant_pool) (site_index (act_view a))) e

pub bootstrapped_is : (m : Method acts.Act) (act other : Act) (n : Named) (b : Bool) → b ≡ kept_bootstrapped n → IsNamed m (act_view act) n → act ≡ other
    → b ≡ names_bootstrapped m (act_view other)
bootstrapped_is m act other n b k h e = k ∙ h.bootstrapped ∙ ap (λ a. names_bootstrapped m (act_view a)) e
