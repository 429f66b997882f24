-- The answer about a method of a class (JVMS 4.10.1), by cases that exclude each other.
use Rattle.std.specs.Prelude.{◌≡◌, ◌⊎◌, ℕ, List, Some, None, Result, Ok, Err, MatchResult, IfOk}
use Rattle.classfile.specs.Values.{CodeBody}
use Rattle.classfile.specs.Methods.{JudgedClass, Method, method_of}
use Rattle.classfile.specs.MethodParts.{code_at}
use Rattle.hierarchy.specs.Class.{ClassFact}
use Rattle.insn.specs.declared.fault.CodeFault.{CodeFault}
use Rattle.insn.specs.declared.fault.CodeFault.TheVariants as codes
use Rattle.insn.specs.Faults.{code_fault_number}
use Rattle.insn.specs.Instructions.{Instruction}
use Rattle.insn.specs.Code.{SpellsCode, FaultyCode}
use Rattle.insn.specs.Meanings.{Act}
use Rattle.insn.specs.Offsets.{acts}
use Rattle.rules.specs.declared.reason.Reason.{Reason}
use Rattle.rules.specs.declared.reason.Reason.TheVariants.{BadCode}
use Rattle.rules.specs.Reasons.{reason_view}
use Rattle.rules.specs.Table.{typing_rule}
use Rattle.verify.specs.declared.verdict.Verdict.{Verdict}
use Rattle.verify.specs.declared.verdict.Verdict.TheVariants.{Verified, NoCode, Refused}
use Rattle.verify.specs.declared.verdict.VerifyFault.{VerifyFault}
use Rattle.verify.specs.declared.verdict.VerifyFault.TheVariants.{OutOfMemory, NotInHierarchy}
use Rattle.verify.specs.TypeSafety.{IsTypeSafe}
use Rattle.verify.specs.Verdict as verdicts
use Rattle.verify.specs.Verdict.{verified, told_of, verdict}
use Rattle.verify.specs.ClassMethods.{IsMethod, IsTypeSafeIn, IsSafeIn}
use Rattle.verify.specs.Listed.{IsListed}

-- the number of the fault for which there is no verdict
abbrev pub verify_fault_number : VerifyFault → ℕ
verify_fault_number OutOfMemory = 1
verify_fault_number NotInHierarchy = 80

-- where the instruction begins that is at fault
abbrev pub place_of : CodeFault → ℕ
place_of codes.OutOfMemory = 0
place_of (codes.BadOpcode at) = at
place_of (codes.CutInstruction at) = at
place_of (codes.BadSwitch at) = at
place_of (codes.BadWide at) = at
place_of (codes.NonZeroByte at) = at

-- Its bytes are no code: 79 where the first instruction at fault begins, with the number of its fault.
pub record HasBadCode (c : JudgedClass) (number : ℕ) (at : ℕ) (why : Reason) : Type 0 where
  pub body : CodeBody
  pub has_code : code_at c.file number ≡ Some body
  pub fault : CodeFault
  pub faulty : FaultyCode body.code fault
  pub there : at ≡ place_of fault
  pub told : why ≡ BadCode (code_fault_number fault)

-- Its bytes are code, and this is the verdict.
pub record HasVerdict (classes : List ClassFact) (c : JudgedClass) (number : ℕ) (v : verdicts.Verdict) : Type 0 where
  pub body : CodeBody
  pub has_code : code_at c.file number ≡ Some body
  pub instructions : List (ℕ × Instruction)
  pub spelled : SpellsCode 0 body.code instructions
  pub method : Method Act
  pub says : method_of c number (acts instructions) ≡ Some method
  pub told : verdict typing_rule classes method ≡ v

-- The verdict refuses it, there and for this reason.
pub record HasRefusal (classes : List ClassFact) (c : JudgedClass) (number : ℕ) (at : ℕ) (why : Reason) : Type 0 where
  pub refusal : verdicts.Verdict
  pub judged : HasVerdict classes c number refusal
  pub told : told_of refusal ≡ Some (at, reason_view why)

abbrev pub IsRefused : List ClassFact → JudgedClass → ℕ → ℕ → Reason → Type 0
IsRefused classes c number at why = HasBadCode c number at why ⊎ HasRefusal classes c number at why

-- a method with a Code attribute
abbrev pub AnswersCode : List ClassFact → JudgedClass → ℕ → Result Verdict VerifyFault → Type 0
AnswersCode classes c number (Ok Verified) = HasVerdict classes c number verified
AnswersCode classes c number (Ok NoCode) = ⊥
AnswersCode classes c number (Ok (Refused at why)) = IsRefused classes c number at why
AnswersCode classes c number (Err OutOfMemory) = Unit {0}
AnswersCode classes c number (Err NotInHierarchy) = ⊥

-- Any method. 80 where the hierarchy has not this class as it is; that goes first.
abbrev pub Answers : List ClassFact → JudgedClass → ℕ → Result Verdict VerifyFault → Type 0
Answers classes c number (Ok Verified) = IsListed classes c.file × IsTypeSafeIn classes c number
    × HasVerdict classes c number verified
Answers classes c number (Ok NoCode) = IsListed classes c.file × (code_at c.file number ≡ None)
Answers classes c number (Ok (Refused at why)) = IsListed classes c.file × IsRefused classes c number at why
Answers classes c number (Err OutOfMemory) = Unit {0}
Answers classes c number (Err NotInHierarchy) = IsListed classes c.file → ⊥

-- A method that is type-safe is verified, unless memory runs out.
abbrev pub VerifiesTypeSafe : List ClassFact → JudgedClass → ℕ → Result Verdict VerifyFault → Type 0
VerifiesTypeSafe classes c number r =
    IsListed classes c.file → (m : Method Act) → IsMethod c number m → IsTypeSafe classes m
    → MatchResult r (λ v. v ≡ Verified) (λ e. e ≡ OutOfMemory)

-- A method that is verified is safe, in all five parts of that and in every world that extends the hierarchy.
abbrev pub VerifiedIsSafe : List ClassFact → JudgedClass → ℕ → Result Verdict VerifyFault → Type 0
VerifiedIsSafe classes c number r = IfOk r (λ v. v ≡ Verified → IsSafeIn classes c number)
