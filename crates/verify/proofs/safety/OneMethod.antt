-- A class file has one method of a number at most.
use Rattle.std.proofs.Common.{◌≡◌, ℕ, List, Some, sym, ap, ◌∙◌, subst}
use Rattle.classfile.specs.Methods.{JudgedClass, Method, code_of, method_of}
use Rattle.insn.specs.Code.{SpellsCode}
use Rattle.insn.specs.Meanings.{Act}
use Rattle.insn.specs.Offsets.{acts}
use Rattle.insn.proofs.CodeLaws.{one_code}
use Rattle.hierarchy.specs.Class.{ClassFact}
use Rattle.verify.specs.Safety.{IsSafe, IsSafeInAll}
use Rattle.verify.specs.ClassMethods.{IsMethod, TypeSafeMethodsAreSafe}
use Rattle.verify.proofs.safety.Run.{type_safe_is_safe}

some_same : {A : Type 0} (a b : A) → Some a ≡ Some b → a ≡ b
some_same a b e = cc

pub one_method : (c : JudgedClass) (number : ℕ) (a b : Method Act) → IsMethod c number a → IsMethod c number b → a ≡ b
one_method c number a b x y =
    let member : x.member ≡ y.member = some_same x.member y.member (sym x.numbered ∙ y.numbered) in
    let body : x.body ≡ y.body = some_same x.body y.body (sym x.has_code ∙ ap (λ z. code_of z.attributes) member ∙ y.has_code) in
    let code : SpellsCode 0 x.body.code y.instructions = subst (λ z. SpellsCode 0 z.code y.instructions) (sym body) y.spelled in
    let same : x.instructions ≡ y.instructions = one_code 0 x.body.code x.instructions y.instructions x.spelled code in
    some_same a b (sym x.method ∙ ap (λ z. method_of c number (acts z)) same ∙ y.method)

pub in_all : (classes : List ClassFact) (m : Method Act) → IsSafe classes m → IsSafeInAll classes m
in_all classes m safe = record {
  safe = safe;
  operands = λ w x run r s a. let n = safe w x run r s a in (n.act, n.here, n.operands);
  stack = λ w x run r s a. let n = safe w x run r s a in (n.act, n.here, n.stack);
  control = λ w x run r s a. let n = safe w x run r s a in (n.act, n.here, n.control);
  objects = λ w x run r s a. let n = safe w x run r s a in (n.act, n.here, n.objects);
  own_object = λ w x run r s a. let n = safe w x run r s a in (n.act, n.here, n.own_object);
}

pub methods_are_safe : TypeSafeMethodsAreSafe
methods_are_safe classes h c number t m i = in_all classes m (subst (IsSafe classes) (one_method c number t.0 m t.1 i) (type_safe_is_safe classes h t.0 t.2))
