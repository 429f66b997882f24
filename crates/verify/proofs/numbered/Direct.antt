-- Methods of interfaces that `invokespecial` calls, by the constants of a class.
use Rattle.std.proofs.Common.{◌≡◌, ◌∙◌, ℕ, Bool, true, false, not, ◌&&◌, List, Option, Some, None, option_map, refl, sym, ap}
use Rattle.pool.specs.ConstantMeanings.{MethodConstant, method_at}
use Rattle.classfile.specs.Methods.{Method}
use Rattle.insn.specs.Meanings as acts
use Rattle.insn.specs.Meanings.{Act}
use Rattle.type_numbers.specs.Numbers.{Numbering}
use Rattle.type_numbers.specs.Constants.{constant_in, constants_of, method_interface, method_interface_of}
use Rattle.type_numbers.specs.declared.named_constant.NamedConstant.{NamedConstant}
use Rattle.type_numbers.specs.declared.named_constant.NamedConstant.TheVariants.{Method as CalledMethod}
use Rattle.rules.specs.Interfaces.{calls_indirect, is_direct, is_indirect}
use Rattle.rules.specs.Ways.{special_index}
use Rattle.numbered_rules.specs.RuleNumbers.{AreRuleNumbers}
use Rattle.numbered_rules.specs.declared.rule_numbers.RuleNumbers.{RuleNumbers}
use Rattle.verify.specs.private.pass.Objects.{names_interface}

-- the constant says whether the method is one of an interface
interface_told : (c : NamedConstant) (k : MethodConstant) → method_interface_of c ≡ Some k.interface → names_interface c ≡ k.interface
interface_told (CalledMethod interface init n types) k e = cc
interface_told c k e = absurd (cc)

neither : (release interface direct : Bool) → (release && interface) ≡ false → (release && (interface && not direct)) ≡ false
neither true true direct e = absurd (cc)
neither true false direct e = refl
neither false interface direct e = refl

pub none_called : (m : Method Act) (a : Act) → special_index a ≡ None → calls_indirect m a ≡ false
none_called m (acts.InvokeSpecial i) none = absurd (cc)
none_called m a none = refl

module _ (s : Numbering) (m : Method Act) (x : RuleNumbers) (numbers : AreRuleNumbers s m x) where
  abbrev constant : ℕ → NamedConstant
  constant i = constant_in (constants_of x.table.now) i

  at_index : (i : ℕ) → (m.release && names_interface (constant i)) ≡ false → (o : Option MethodConstant) → method_at m.constant_pool i ≡ o → (m.release && is_indirect m o) ≡ false
  at_index i e None q = no_method m.release
    where
      no_method : (b : Bool) → (b && false) ≡ false
      no_method true = refl
      no_method false = refl
  at_index i e (Some k) q =
      let told = interface_told (constant i) k ((numbers.table i).method_interface ∙ ap (option_map method_interface) q) in
      neither m.release k.interface (is_direct m k.class) (ap (λ b. m.release && b) (sym told) ∙ e)

  -- by the constant, none is called of another interface
  pub direct_called : (a : Act) (i : ℕ) → special_index a ≡ Some i → (m.release && names_interface (constant i)) ≡ false → calls_indirect m a ≡ false
  direct_called (acts.InvokeSpecial j) i at e =
      let same : i ≡ j = cc in
      at_index j (ap (λ k. m.release && names_interface (constant k)) (sym same) ∙ e) (method_at m.constant_pool j) refl
  direct_called a i at e = absurd (cc)
