-- The methods of a class file (JVMS 4.6, 4.7.3), and when they are type-safe and safe.
use Rattle.std.specs.Prelude.{◌≡◌, ℕ, List, Some, slice_get}
use Rattle.classfile.specs.Values.{CodeBody, Member}
use Rattle.classfile.specs.Methods.{JudgedClass, Method, code_of, method_of}
use Rattle.hierarchy.specs.Class.{ClassFact}
use Rattle.hierarchy.specs.Rules.{IsHierarchy}
use Rattle.insn.specs.Instructions.{Instruction}
use Rattle.insn.specs.Code.{SpellsCode}
use Rattle.insn.specs.Meanings.{Act}
use Rattle.insn.specs.Offsets.{acts}
use Rattle.verify.specs.TypeSafety.{IsTypeSafe}
use Rattle.verify.specs.Safety.{IsSafeInAll}

-- the class's method of this number has code, and this is what its instructions see of it
pub record IsMethod (c : JudgedClass) (number : ℕ) (m : Method Act) : Type 0 where
  pub member : Member
  pub numbered : slice_get c.file.methods number ≡ Some member
  pub body : CodeBody
  pub has_code : code_of member.attributes ≡ Some body
  pub instructions : List (ℕ × Instruction)
  pub spelled : SpellsCode 0 body.code instructions
  pub method : method_of c number (acts instructions) ≡ Some m

abbrev pub IsTypeSafeIn : List ClassFact → JudgedClass → ℕ → Type 0
IsTypeSafeIn classes c number = (m : Method Act) × IsMethod c number m × IsTypeSafe classes m

-- safe in all five parts; there is one method of a number at most
abbrev pub IsSafeIn : List ClassFact → JudgedClass → ℕ → Type 0
IsSafeIn classes c number = (m : Method Act) → IsMethod c number m → IsSafeInAll classes m

abbrev pub TypeSafeMethodsAreSafe : Type 0
TypeSafeMethodsAreSafe =
    (classes : List ClassFact) → IsHierarchy classes → (c : JudgedClass) (number : ℕ) → IsTypeSafeIn classes c number
    → IsSafeIn classes c number
