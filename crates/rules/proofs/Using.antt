-- The member that an instruction uses on an object, by what was looked up for it, and what is judged of it.
use Rattle.std.proofs.Common.{◌≡◌, ◌∙◌, ℕ, Bool, true, false, ◌&&◌, if◌then◌else◌, List, [], ◌∷◌, length, Option, Some, None, option_map, Result, refl, sym, ap, subst, arith}
use Rattle.std.specs.Option.{option_and_then, option_map_or}
use Rattle.names.specs.ReferenceTypes.{ReferenceType, class_type, array_type, is_class_type}
use Rattle.pool.specs.ConstantMeanings.{FieldConstant, field_at, MethodConstant, method_at}
use Rattle.pool.specs.ConstantViews.{field_constant_view, method_constant_view}
use Rattle.pool.specs.declared.reference.FieldConstant.{FieldConstant as RawField}
use Rattle.pool.specs.declared.reference.MethodConstant.{MethodConstant as RawMethod}
use Rattle.classfile.specs.Methods.{Method}
use Rattle.hierarchy.specs.Class.{ClassFact}
use Rattle.hierarchy.specs.Answer.{Outcome}
use Rattle.hierarchy.specs.Nearest.{is_guarded}
use Rattle.insn.specs.Meanings as acts
use Rattle.insn.specs.Meanings.{Act}
use Rattle.frames.specs.FrameFact.{FrameFact}
use Rattle.rules.specs.declared.naming.Named.{Named}
use Rattle.rules.specs.declared.reason.Reason.{Reason}
use Rattle.rules.specs.declared.protected_members.Use as uses
use Rattle.rules.specs.Guards.{field, method, AnswersCall, IsCallUse, IsReference, IsUse, Uses}
use Rattle.rules.specs.Naming.{field_index, method_index, kept_field, kept_method, IsNamed}
use Rattle.rules.specs.Outcomes.{Judges}
use Rattle.rules.specs.Protected.{Use, field_use, method_reference, method_use, used_by, object_answer, object_beneath, object_conditions, use_conditions}

module _ (m : Method Act) (a : Act) (n : Named) (is : IsNamed m a n) (i : ℕ) where
  field_there : (f : RawField) → kept_field n ≡ Some f → field_index a ≡ Some i → field_at m.constant_pool i ≡ Some (field_constant_view f)
  field_there f kept index =
      sym (is.field ∙ ap (option_and_then (field_at m.constant_pool)) index) ∙ ap (option_map field_constant_view) kept

  pub gets : (f : RawField) → kept_field n ≡ Some f → a ≡ acts.GetField i → IsUse m a i 0
  gets f kept e =
      let there = field_there f kept (ap field_index e) in
      record {
        member = field_use [] (field_constant_view f);
        used = ap (used_by m) e ∙ ap (option_map (λ x. field_use [] x)) there;
        named = field (field_constant_view f) there;
        count = refl;
      }

  pub puts : (f : RawField) → kept_field n ≡ Some f → a ≡ acts.PutField i → IsUse m a i 1
  puts f kept e =
      let there = field_there f kept (ap field_index e) in
      record {
        member = field_use ((field_constant_view f).type ∷ []) (field_constant_view f);
        used = ap (used_by m) e ∙ ap (option_map (λ (x : FieldConstant). field_use (x.type ∷ []) x)) there;
        named = field (field_constant_view f) there;
        count = omega arith;
      }

  -- the method that the constant at the index names
  pub called_there : (c : RawMethod) → Some (method_constant_view c) ≡ option_map method_constant_view (kept_method n) → method_index a ≡ Some i
      → method_at m.constant_pool i ≡ Some (method_constant_view c)
  called_there c kept index = sym (is.method ∙ ap (option_and_then (method_at m.constant_pool)) index) ∙ sym kept

  pub calls : (c : MethodConstant) → method_at m.constant_pool i ≡ Some c → used_by m a ≡ method_use c c.interface c.class → (r : Option uses.Use) → AnswersCall c i r → Uses m a r
  calls c there same None none = same ∙ none
  calls c there same (Some u) (index, call) = record {
    member = call.member;
    used = same ∙ call.used;
    named = subst (λ k. IsReference m.constant_pool k call.member.reference) (sym index) (call.named m.constant_pool i there);
    count = call.count;
  }

-- ---- the use of a method that is called

module _ (c : MethodConstant) where
  pub is_call : c.interface ≡ false → is_class_type c.class ≡ true → (above : ℕ) → above ≡ length c.type.params → IsCallUse c above
  is_call own of_class above count = by c.class refl of_class
    where
      by : (t : ReferenceType) → c.class ≡ t → is_class_type t ≡ true → IsCallUse c above
      by (class_type name) q h = record {
        member = record { reference = method_reference name c; above = c.type.params };
        used = λ j. method_use c (own j) (q j);
        named = λ pool index there. method c name there own q;
        count = count;
      }
      by (array_type component) q h = cc

pub judged : (classes : List ClassFact) (m : Method Act) (act : Act) (f : FrameFact) (u : Use) (r : Result Unit Reason) → used_by m act ≡ Some u
    → is_guarded classes m.class u.reference ≡ true → (a : Outcome) → a ≡ object_answer classes m.class (object_beneath u f) → Judges (object_conditions a) r
    → Judges (option_map_or (use_conditions classes m f) (used_by m act) []) r
judged classes m act f u r used guarded a is j =
    subst (λ (o : Option Use). Judges (option_map_or (use_conditions classes m f) o []) r) (sym used)
    (subst (λ b. Judges (if b then object_conditions (object_answer classes m.class (object_beneath u f)) else []) r) (sym guarded)
    (subst (λ z. Judges (object_conditions z) r) is j))
