-- Which methods are in play, and what follows for each from safe class runs (JVMS 4.6, 4.7.3): every method with code of
-- every class of the list is in play, by the texts of its name and its descriptor; and where the classes are playable,
-- each of these methods is safe by itself, in each part of the theorem on one method.
use Rattle.std.specs.Prelude.{◌≡◌, ℕ, List, Some, slice_get}
use Rattle.pool.specs.Lookups.{HasText}
use Rattle.classfile.specs.Values.{Member}
use Rattle.classfile.specs.Methods.{JudgedClass, Method}
use Rattle.hierarchy.specs.Class.{ClassFact}
use Rattle.insn.specs.Meanings.{Act}
use Rattle.insn.specs.Offsets.{IsAmong}
use Rattle.verify.specs.ClassMethods.{IsMethod, IsSafeIn}
use Rattle.verify.specs.ClassRuns.{Callee}
use Rattle.verify.specs.ClassRunSafety.{IsInPlay, ArePlayable}

-- the class's method of this number is in play, by the texts that its class file names it by
pub record HasCallee (cs : List JudgedClass) (c : JudgedClass) (number : ℕ) (m : Method Act) : Type 0 where
  pub callee : Callee
  pub in_play : IsInPlay cs callee
  pub method : callee.method ≡ m
  pub member : Member
  pub numbered : slice_get c.file.methods number ≡ Some member
  pub name : HasText c.file.constant_pool member.name callee.name
  pub descriptor : HasText c.file.constant_pool member.descriptor callee.descriptor

abbrev pub AllAreInPlay : Type 0
AllAreInPlay =
    (cs : List JudgedClass) (c : JudgedClass) → IsAmong c cs → (number : ℕ) (m : Method Act) → IsMethod c number m
    → HasCallee cs c number m

-- playable classes: each of their methods is safe
abbrev pub PlayableIsSafe : Type 0
PlayableIsSafe =
    (classes : List ClassFact) (cs : List JudgedClass) → ArePlayable classes cs → (c : JudgedClass) → IsAmong c cs
    → (number : ℕ) → IsSafeIn classes c number
