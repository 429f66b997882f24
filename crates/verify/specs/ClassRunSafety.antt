-- Safety of classes in play: no activation meets a fault in any run through their methods. The theorem: classes whose
-- methods are type-safe are safe.
use Rattle.std.specs.Prelude.{◌≡◌, ℕ, List, Some}
use Rattle.pool.specs.Lookups.{text_at}
use Rattle.pool.specs.ConstantMeanings.{found}
use Rattle.classfile.specs.Methods.{JudgedClass, Method}
use Rattle.hierarchy.specs.World.{World}
use Rattle.hierarchy.specs.Class.{ClassFact}
use Rattle.hierarchy.specs.Rules.{IsHierarchy}
use Rattle.hierarchy.specs.Extends.{Extends}
use Rattle.insn.specs.Meanings.{Act}
use Rattle.insn.specs.Offsets.{IsAmong}
use Rattle.machine.specs.Demands.{IsNoFault}
use Rattle.verify.specs.TypeSafety.{IsTypeSafe}
use Rattle.verify.specs.ClassMethods.{IsMethod}
use Rattle.verify.specs.Listed.{IsListed}
use Rattle.verify.specs.ClassRuns.{Callee, state_in, Activation, Moment, IsClassRun}

-- a method with code of one of the classes, by its name and descriptor
pub record IsInPlay (cs : List JudgedClass) (k : Callee) : Type 0 where
  pub class : JudgedClass
  pub among : IsAmong class cs
  pub number : ℕ
  pub method : IsMethod class number k.method
  pub name : found (text_at class.file.constant_pool method.member.name) ≡ Some k.name
  pub descriptor : found (text_at class.file.constant_pool method.member.descriptor) ≡ Some k.descriptor

-- the hierarchy has each of the classes as it is, and each method with code of theirs is type-safe
pub record AreVerified (classes : List ClassFact) (cs : List JudgedClass) : Type 0 where
  pub listed : (c : JudgedClass) → IsAmong c cs → IsListed classes c.file
  pub safe : (c : JudgedClass) → IsAmong c cs → (number : ℕ) (m : Method Act) → IsMethod c number m
      → IsTypeSafe classes m

-- in every world that extends the hierarchy, no activation of a run through the methods of the classes is at a fault
abbrev pub ArePlayable : List ClassFact → List JudgedClass → Type 0
ArePlayable classes cs =
    (world : World) → Extends world classes → (run : List Moment) → IsClassRun world (IsInPlay cs) run → (q : Moment)
    → IsAmong q run
    → (a : Activation) → IsAmong a q.activations → IsNoFault world a.method (state_in q.types a)

abbrev pub VerifiedIsPlayable : Type 0
VerifiedIsPlayable = (classes : List ClassFact) → IsHierarchy classes → (cs : List JudgedClass) → AreVerified classes cs
    → ArePlayable classes cs
