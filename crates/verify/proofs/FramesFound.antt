-- From the frames at an instruction of a method's code to those of the method.
use Rattle.std.proofs.Common.{◌≡◌, ℕ, Bool, List, Option, Some, None, Result, Ok, Err, refl, sym, ◌∙◌, subst, inl, inr}
use Rattle.std.specs.Prelude.{◌≢◌, IfOk, MatchOption}
use Rattle.classfile.specs.Values.{CodeBody}
use Rattle.classfile.specs.Methods.{JudgedClass, Method, method_of}
use Rattle.classfile.specs.MethodParts.{code_at}
use Rattle.hierarchy.specs.Class.{ClassFact}
use Rattle.insn.specs.Instructions.{Instruction}
use Rattle.insn.specs.declared.fault.CodeFault.{CodeFault}
use Rattle.insn.specs.declared.fault.CodeFault.TheVariants as codes
use Rattle.insn.specs.Code.{SpellsCode, FaultyCode, UnlessMemory}
use Rattle.insn.specs.Meanings.{Act}
use Rattle.insn.specs.Offsets.{acts}
use Rattle.insn.proofs.CodeLaws.{code_or_fault}
use Rattle.rules.specs.Reasons.{reason_number}
use Rattle.rules.specs.Table.{typing_rule}
use Rattle.verify.specs.declared.frames_at.FramesAt.{FramesAt}
use Rattle.verify.specs.declared.frames_at.Refusal.{Refusal}
use Rattle.verify.specs.declared.verdict.Verdict.{Verdict}
use Rattle.verify.specs.declared.verdict.VerifyFault.{VerifyFault}
use Rattle.verify.specs.Coming.{FramesFact, no_frames, frames_at, frames_view, HasNoInstructions, AreFramesOf, IsFramedIf}

some_same : {A : Type 0} (a b : A) → Some a ≡ Some b → a ≡ b
some_same a b e = cc

pub told : (code : List ℕ) (fault : CodeFault) → fault ≢ codes.OutOfMemory → UnlessMemory fault (FaultyCode code fault) → FaultyCode code fault
told code codes.OutOfMemory f h = absurd (f refl)
told code (codes.BadOpcode at) f h = h
told code (codes.CutInstruction at) f h = h
told code (codes.BadSwitch at) f h = h
told code (codes.BadWide at) f h = h
told code (codes.NonZeroByte at) f h = h

module _ (classes : List ClassFact) (c : JudgedClass) (number reason at : ℕ) where
  faulty_none : (body : CodeBody) (fault : CodeFault) → code_at c.file number ≡ Some body → FaultyCode body.code fault → HasNoInstructions c number
  faulty_none body fault has faulty = λ other xs there spelled.
      let same : other ≡ body = some_same other body (sym there ∙ has) in
      code_or_fault body.code xs fault (subst (λ b. SpellsCode 0 b.code xs) same spelled) faulty

  pub without_code : (body : CodeBody) (fault : CodeFault) (r : Result FramesAt VerifyFault) → code_at c.file number ≡ Some body
      → UnlessMemory fault (FaultyCode body.code fault) → IfOk r (λ x. (fault ≢ codes.OutOfMemory) × (frames_view x ≡ no_frames))
      → IfOk r (λ x. AreFramesOf classes c number reason at (frames_view x))
  without_code body fault (Ok x) has faulty p = inr (faulty_none body fault has (told body.code fault p.0 faulty), p.1)
  without_code body fault (Err e) has faulty p = tt

  pub found_in : (body : CodeBody) (xs : List (ℕ × Instruction)) (method : Method Act) (r : Result FramesAt VerifyFault)
      → code_at c.file number ≡ Some body → SpellsCode 0 body.code xs → method_of c number (acts xs) ≡ Some method
      → IfOk r (λ x. frames_view x ≡ frames_at typing_rule classes method reason at) → IfOk r (λ x. AreFramesOf classes c number reason at (frames_view x))
  found_in body xs method (Ok x) has spelled says same =
      inl (record { body = body; has_code = has; instructions = xs; spelled = spelled; method = method; says = says; same = same })
  found_in body xs method (Err e) has spelled says same = tt

-- by the verdict on the method
pub framed_by : (classes : List ClassFact) (c : JudgedClass) (number : ℕ) (told : Bool) (v : Verdict) (x : FramesFact) (r : Option Refusal)
    → MatchOption r (x ≡ no_frames) (λ k. AreFramesOf classes c number (reason_number k.reason) k.at x)
    → MatchOption r (x ≡ no_frames → IsFramedIf told classes c number v x) (λ k. AreFramesOf classes c number (reason_number k.reason) k.at x → IsFramedIf told classes c number v x)
    → IsFramedIf told classes c number v x
framed_by classes c number told v x None found by = by found
framed_by classes c number told v x (Some k) found by = by found
