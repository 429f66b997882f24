-- From the verdict on a method's instructions to the answer.
use Rattle.std.proofs.Common.{◌≡◌, ℕ, List, Some, None, Result, Ok, Err, refl, sym, ◌∙◌, ap, subst, inl, inr}
use Rattle.std.specs.Prelude.{MatchResult}
use Rattle.std.specs.Option.{option_and_then}
use Rattle.classfile.specs.Values.{CodeBody}
use Rattle.classfile.specs.Methods.{JudgedClass, Method, code_of, method_of}
use Rattle.classfile.specs.MethodParts.{code_at}
use Rattle.classfile.specs.WellFormed.{WellFormed}
use Rattle.hierarchy.specs.Class.{ClassFact}
use Rattle.hierarchy.specs.Rules.{IsHierarchy}
use Rattle.insn.specs.Instructions.{Instruction}
use Rattle.insn.specs.declared.fault.CodeFault.{CodeFault}
use Rattle.insn.specs.declared.fault.CodeFault.TheVariants as codes
use Rattle.insn.specs.Code.{SpellsCode, FaultyCode, UnlessMemory}
use Rattle.insn.specs.Meanings.{Act}
use Rattle.insn.specs.Offsets.{IsStart, acts, StartsRise}
use Rattle.rules.specs.Table.{typing_rule}
use Rattle.insn.proofs.CodeLaws.{starts_rise, one_code, code_or_fault}
use Rattle.frames.specs.Conditions.{Reason}
use Rattle.verify.specs.declared.verdict.Verdict.{Verdict}
use Rattle.verify.specs.declared.verdict.Verdict.TheVariants.{Verified, NoCode, Refused}
use Rattle.verify.specs.declared.verdict.VerifyFault.{VerifyFault}
use Rattle.verify.specs.declared.verdict.VerifyFault.TheVariants.{OutOfMemory, NotInHierarchy}
use Rattle.rules.specs.declared.reason.Reason.{Reason as RuleReason}
use Rattle.rules.specs.Reasons.{reason_view}
use Rattle.verify.specs.TypeSafety.{IsTypeSafe}
use Rattle.verify.specs.Verdict.{verified, told_of, verdict}
use Rattle.verify.specs.ClassMethods.{IsMethod, IsTypeSafeIn}
use Rattle.verify.specs.private.JudgingSteps.{RefusesCode, Gives}
use Rattle.verify.specs.Listed.{IsListed}
use Rattle.verify.specs.Answers.{HasBadCode, HasVerdict, HasRefusal, IsRefused, AnswersCode, Answers, VerifiesTypeSafe, VerifiedIsSafe}
use Rattle.verify.proofs.Decoded.{decoded_rise, decoded_begins}
use Rattle.verify.proofs.verdicts.Verdicts.{verified_is_type_safe, type_safe_is_verified}
use Rattle.verify.proofs.safety.OneMethod.{methods_are_safe}
use Rattle.verify.proofs.MethodCode.{code_is, has_code, some_code}

some_same : {A : Type 0} (a b : A) → Some a ≡ Some b → a ≡ b
some_same a b e = cc

module _ (classes : List ClassFact) (c : JudgedClass) (number : ℕ) where
  -- ---- a method with code

  pub bad_code : (body : CodeBody) (fault : CodeFault) (r : Result Verdict VerifyFault) → code_at c.file number ≡ Some body
      → UnlessMemory fault (FaultyCode body.code fault) → RefusesCode fault r → AnswersCode classes c number r
  bad_code body fault (Ok v) has faulty x =
      subst (λ z. AnswersCode classes c number (Ok z)) (sym x.outcome.1)
      (inl (record {
        body = body;
        has_code = has;
        fault = fault;
        faulty =
            told fault x.outcome.0 faulty;
        there = refl;
        told = refl;
      }))
    where
      told : (fault : CodeFault) → (fault ≡ codes.OutOfMemory → ⊥) → UnlessMemory fault (FaultyCode body.code fault)
          → FaultyCode body.code fault
      told codes.OutOfMemory f h = absurd (f refl)
      told (codes.BadOpcode at) f h = h
      told (codes.CutInstruction at) f h = h
      told (codes.BadSwitch at) f h = h
      told (codes.BadWide at) f h = h
      told (codes.NonZeroByte at) f h = h
  bad_code body fault (Err e) has faulty x = subst (λ z. AnswersCode classes c number (Err z)) (sym x.outcome.1) tt

  pub given : (body : CodeBody) (xs : List (ℕ × Instruction)) (method : Method Act) (r : Result Verdict VerifyFault)
      → code_at c.file number ≡ Some body → SpellsCode 0 body.code xs
      → method_of c number (acts xs) ≡ Some method → Gives (verdict typing_rule classes method) r
      → AnswersCode classes c number r
  given body xs method (Ok Verified) has spelled says g =
      record { body = body; has_code = has; instructions = xs; spelled = spelled; method = method; says = says; told = g }
  given body xs method (Ok NoCode) has spelled says g = g
  given body xs method (Ok (Refused at why)) has spelled says g =
      inr (record {
        refusal = verdict typing_rule classes method;
        judged = record { body = body; has_code = has; instructions = xs; spelled = spelled; method = method; says = says; told = refl };
        told = g;
      })
  given body xs method (Err OutOfMemory) has spelled says g = tt
  given body xs method (Err NotInHierarchy) has spelled says g = g

  -- a method that is verified is type-safe
  pub type_safe_in : WellFormed c.file → HasVerdict classes c number verified → IsTypeSafeIn classes c number
  type_safe_in formed v =
      let code : v.method.code ≡ acts v.instructions =
      code_is c (acts v.instructions) v.method number v.says in
      let rise : StartsRise 0 (acts v.instructions) =
      decoded_rise 0 v.instructions (starts_rise 0 v.body.code v.instructions v.spelled) in
      let begins : IsStart (acts v.instructions) 0 =
      decoded_begins v.body.code v.instructions v.spelled (some_code c.file formed number v.body v.has_code) in
      let safe : IsTypeSafe classes v.method =
      verified_is_type_safe typing_rule classes v.method (subst (StartsRise 0) (sym code) rise) (subst (λ z. IsStart z 0) (sym code) begins) v.told in
      let x = has_code c.file number v.body v.has_code in (
        v.method,
        record {
          member = x.member;
          numbered = x.numbered;
          body = v.body;
          has_code = x.has_code;
          instructions =
              v.instructions;
          spelled = v.spelled;
          method = v.says;
        },
        safe,
      )

  pub answers_code : WellFormed c.file → IsListed classes c.file → (r : Result Verdict VerifyFault) → AnswersCode classes c number r
      → Answers classes c number r
  answers_code formed listed (Ok Verified) a = (listed, type_safe_in formed a, a)
  answers_code formed listed (Ok NoCode) a = absurd a
  answers_code formed listed (Ok (Refused at why)) a = (listed, a)
  answers_code formed listed (Err OutOfMemory) a = tt
  answers_code formed listed (Err NotInHierarchy) a = absurd a

  pub safe_then : IsHierarchy classes → (r : Result Verdict VerifyFault) → Answers classes c number r → VerifiedIsSafe classes c number r
  safe_then hierarchy (Ok Verified) a = λ e. methods_are_safe classes hierarchy c number a.1
  safe_then hierarchy (Ok NoCode) a = λ e. absurd (no_code e)
    where
      no_code : NoCode ≡ Verified → ⊥
      no_code e = cc
  safe_then hierarchy (Ok (Refused at why)) a = λ e. absurd (refusal e)
    where
      refusal : Refused at why ≡ Verified → ⊥
      refusal e = cc
  safe_then hierarchy (Err e) a = tt

  -- ---- what is type-safe is not refused

  module _ (m : Method Act) (i : IsMethod c number m) (safe : IsTypeSafe classes m) where
    own_code : (body : CodeBody) → code_at c.file number ≡ Some body → i.body ≡ body
    own_code body e =
        let x = has_code c.file number body e in
        some_same i.body body (sym i.has_code ∙ ap (λ z. code_of z.attributes) (some_same i.member x.member (sym i.numbered ∙ x.numbered))
        ∙ x.has_code)

    none_absent : code_at c.file number ≡ None → ⊥
    none_absent e = let there : code_at c.file number ≡ Some i.body =
        ap (option_and_then (λ z. code_of z.attributes)) i.numbered ∙ i.has_code in cc

    not_faulty : (at : ℕ) (why : RuleReason) → HasBadCode c number at why → ⊥
    not_faulty at why x = code_or_fault x.body.code i.instructions x.fault
        (subst (λ z. SpellsCode 0 z.code i.instructions) (own_code x.body x.has_code) i.spelled) x.faulty

    code_there : m.code ≡ acts i.instructions
    code_there = code_is c (acts i.instructions) m number i.method

    same_method : (body : CodeBody) (xs : List (ℕ × Instruction)) (n : Method Act) → code_at c.file number ≡ Some body
        → SpellsCode 0 body.code xs → method_of c number (acts xs) ≡ Some n → n ≡ m
    same_method body xs n has spelled says =
        let same : i.instructions ≡ xs =
        one_code 0 body.code i.instructions xs (subst (λ z. SpellsCode 0 z.code i.instructions) (own_code body has) i.spelled) spelled
        in
        some_same n m (sym says ∙ ap (λ z. method_of c number (acts z)) (sym same) ∙ i.method)

    is_verified : verdict typing_rule classes m ≡ verified
    is_verified =
        let rise : StartsRise 0 (acts i.instructions) =
        decoded_rise 0 i.instructions (starts_rise 0 i.body.code i.instructions i.spelled) in
        type_safe_is_verified typing_rule classes m (subst (StartsRise 0) (sym code_there) rise) safe

    not_refused : (at : ℕ) (why : RuleReason) → HasRefusal classes c number at why → ⊥
    not_refused at why x =
        let v = x.judged in
        let e : x.refusal ≡ verified =
        sym v.told ∙ ap (verdict typing_rule classes) (same_method v.body v.instructions v.method v.has_code v.spelled v.says) ∙ is_verified in
        none_told_of (at, reason_view why) (sym (ap told_of e) ∙ x.told)
      where
        none_told_of : (x : ℕ × Reason) → None ≡ Some x → ⊥
        none_told_of x e = cc

    refused_never : (at : ℕ) (why : RuleReason) → IsRefused classes c number at why → ⊥
    refused_never at why (inl x) = not_faulty at why x
    refused_never at why (inr x) = not_refused at why x

    verifies : IsListed classes c.file → (r : Result Verdict VerifyFault) → Answers classes c number r
        → MatchResult r (λ v. v ≡ Verified) (λ e. e ≡ OutOfMemory)
    verifies listed (Ok Verified) a = refl
    verifies listed (Ok NoCode) a = absurd (none_absent a.1)
    verifies listed (Ok (Refused at why)) a = absurd (refused_never at why a.1)
    verifies listed (Err OutOfMemory) a = refl
    verifies listed (Err NotInHierarchy) a = absurd (a listed)

  pub only_then : (r : Result Verdict VerifyFault) → Answers classes c number r → VerifiesTypeSafe classes c number r
  only_then r a = λ listed m i safe. verifies m i safe listed r a
