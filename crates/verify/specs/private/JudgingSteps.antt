-- The answers of the steps of the pass over a method.
use Rattle.std.specs.Prelude.{◌≡◌, ◌≢◌, ◌⊎◌, ◌&&◌, ◌++◌, ◌∷◌, [], ℕ, Bool, List, Some, None, Option, Result, Ok, Err, MatchResult}
use Rattle.classfile.specs.Methods.{Method}
use Rattle.hierarchy.specs.Class.{ClassFact}
use Rattle.insn.specs.declared.fault.CodeFault.{CodeFault}
use Rattle.insn.specs.declared.fault.CodeFault.TheVariants as codes
use Rattle.insn.specs.Faults.{code_fault_number}
use Rattle.insn.specs.Meanings.{Act}
use Rattle.frames.specs.Conditions.{Conditions, reason}
use Rattle.frames.specs.FrameFact.{FrameFact}
use Rattle.rules.specs.declared.reason.Reason.{Reason}
use Rattle.rules.specs.declared.reason.Reason.TheVariants.{OutOfMemory, BadCode}
use Rattle.rules.specs.Reasons.{reason_view}
use Rattle.rules.specs.ReasonNumbers.{falls_off, constructor_covered}
use Rattle.rules.specs.After.{after}
use Rattle.rules.specs.Rules.{conditions, constructs_own}
use Rattle.rules.specs.Table.{typing_rule}
use Rattle.rules.specs.TypingRules.{targets}
use Rattle.rules.specs.Ways.{goes_on}
use Rattle.verify.specs.declared.verdict.Verdict.{Verdict}
use Rattle.verify.specs.declared.verdict.Verdict.TheVariants.{Verified, NoCode, Refused}
use Rattle.verify.specs.declared.verdict.VerifyFault.{VerifyFault}
use Rattle.verify.specs.declared.verdict.VerifyFault.TheVariants as faults
use Rattle.verify.specs.Verdict as verdicts
use Rattle.verify.specs.Verdict.{verified, told_of, entry, entered, before_conditions, is_covered, target_conditions}
use Rattle.verify.specs.TypeSafety.{Frames}
use Rattle.verify.specs.Answers.{place_of}

-- a frame comes to a start, where this one is declared, and this one goes on; or this is the reason against it, or
-- memory ran out
pub record Enters (classes : List ClassFact) (falls : Bool) (f : FrameFact) (declared : Option FrameFact)
    (now : FrameFact)
    (r : Result Unit Reason) : Type 0 where
  pub outcome : MatchResult r
      (λ _. (entry classes falls f declared ≡ None) × (now ≡ entered f declared))
      (λ e. (e ≡ OutOfMemory) ⊎ (entry classes falls f declared ≡ Some (reason_view e)))

-- 79 there, with the fault's number; or memory ran out
pub record RefusesCode (fault : CodeFault) (r : Result Verdict VerifyFault) : Type 0 where
  pub outcome : MatchResult r
      (λ v. (fault ≢ codes.OutOfMemory) × (v ≡ Refused (place_of fault) (BadCode (code_fault_number fault))))
      (λ e. (fault ≡ codes.OutOfMemory) × (e ≡ faults.OutOfMemory))

-- the verdict on code, or memory ran out
abbrev pub Gives : verdicts.Verdict → Result Verdict VerifyFault → Type 0
Gives v (Ok Verified) = v ≡ verified
Gives v (Ok NoCode) = ⊥
Gives v (Ok (Refused at why)) = told_of v ≡ Some (at, reason_view why)
Gives v (Err faults.OutOfMemory) = Unit {0}
Gives v (Err faults.NotInHierarchy) = ⊥

-- the conditions on an instruction by its rule and its targets
abbrev pub run_conditions : List ClassFact → Method Act → Frames → ℕ → Act → FrameFact → Conditions
run_conditions classes m frames at a f =
    let p = typing_rule m a in
    conditions classes m at p f ++ target_conditions classes frames (after m at p f) (targets at p)

-- the conditions on an instruction besides its rule and its targets: those on the frame before it; that it does not go
-- on where it is the last one; and that no entry of the exception table covers it where it calls a constructor on the
-- own object
abbrev pub aside_conditions : List ClassFact → Method Act → Frames → ℕ → Act → Bool → FrameFact → Conditions
aside_conditions classes m frames at a last f =
    before_conditions classes m frames at a f
    ++ ((reason falls_off, goes_on a && last)
    ∷ (reason constructor_covered, constructs_own (typing_rule m a) f && is_covered m.exceptions at) ∷ [])
