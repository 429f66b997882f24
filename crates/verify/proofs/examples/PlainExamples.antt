-- A method that is type-safe, for the eye: `static void f() { return; }`. Nothing stands on it.
use Rattle.std.proofs.Common.{◌≡◌, ℕ, Bool, true, false, nat_eq, [], ◌∷◌, Some, None, codes, if◌then◌else◌, inl, refl, subst, arith}
use Rattle.classfile.specs.Methods.{Method}
use Rattle.insn.specs.Meanings.{Act, ReturnVoid}
use Rattle.insn.specs.Offsets.{at_offset, next_offset}
use Rattle.frames.specs.FrameFact.{FrameFact}
use Rattle.rules.specs.Table.{typing_rule}
use Rattle.rules.specs.TypingRules.{returns}
use Rattle.verify.specs.TypeSafety.{IsTypeSafeAt, IsTypeSafe}

abbrev method : Method Act
method = record {
  code = (0, ReturnVoid) ∷ [];
  code_length = 1;
  max_stack = 0;
  max_locals = 0;
  exceptions = [];
  stack_map = None;
  constant_pool = [];
  major_version = 52;
  class = codes "K";
  superclass = Some (codes "java/lang/Object");
  interfaces = [];
  fields = [];
  is_static = true;
  is_init = false;
  type = record { params = []; result = None };
  bootstraps = [];
  dynamic = false;
  release = false;
}

abbrev empty_frame : FrameFact
empty_frame = record { locals = []; stack = []; flag = false }

apart : false ≡ true → ⊥
apart e = cc

no_next : (at to : ℕ) → next_offset method.code at ≡ Some to → ⊥
no_next at to e = by (nat_eq 0 at) e
  where
    by : (b : Bool) → (if b then None else None) ≡ Some to → ⊥
    by true e = cc
    by false e = cc

return_is_safe : (at : ℕ) → IsTypeSafeAt [] method [] (λ n. empty_frame) at ReturnVoid returns
return_is_safe at = record {
  rule = (refl, (refl, tt));
  protected = tt;
  leads = λ target i. elim i [ ];
  next = λ e. absurd (apart e);
  alone = λ e to n. absurd (no_next at to n);
  handled = λ e i c. elim i [ ];
  uncovered = λ e x i. elim i [ ];
}

only_return : (at : ℕ) (act : Act) → at_offset method.code at ≡ Some act → ReturnVoid ≡ act
only_return at act e = by (nat_eq 0 at) e
  where
    by : (b : Bool) → (if b then Some ReturnVoid else None) ≡ Some act → ReturnVoid ≡ act
    by true e = cc
    by false e = cc

is_type_safe : IsTypeSafe [] method
is_type_safe = record {
  begins = record { what = ReturnVoid; here = refl };
  enough = omega arith;
  frames = [];
  declares = record { entries = []; spelled = refl; declared = refl };
  entries = λ e i. elim i [ ];
  table = λ n. empty_frame;
  first = inl refl;
  at_declared = λ at f e. absurd (none_some f e);
  each = λ at act e. subst (λ a. IsTypeSafeAt [] method [] (λ n. empty_frame) at a (typing_rule method a)) (only_return at act e) (return_is_safe at);
}
  where
    none_some : (f : FrameFact) → None ≡ Some f → ⊥
    none_some f e = cc
