-- The cases of an answer exclude each other, and each gives one verdict.
use Rattle.std.proofs.Common.{◌≡◌, ℕ, zero, suc, Bool, true, false, nat_lt, List, [], ◌∷◌, length, Some, None, Result, Ok, refl, sym, ◌∙◌, ap, subst, inl, inr, arith}
use Rattle.std.specs.Prelude.{slice_get}
use Rattle.pool.specs.declared.fault.PoolFault.{PoolFault}
use Rattle.pool.specs.Lookups.{Named, named}
use Rattle.classfile.specs.Methods.{JudgedClass, method_of}
use Rattle.classfile.specs.MethodParts.{code_at}
use Rattle.hierarchy.specs.Class.{ClassFact}
use Rattle.insn.specs.Faults.{code_fault_number}
use Rattle.insn.specs.Code.{SpellsCode, FaultyCode}
use Rattle.insn.specs.Offsets.{acts}
use Rattle.rules.specs.Table.{typing_rule}
use Rattle.insn.proofs.CodeLaws.{one_code, code_or_fault, one_fault}
use Rattle.frames.specs.Conditions as conditions
use Rattle.rules.specs.declared.reason.Reason.{Reason}
use Rattle.rules.specs.declared.reason.Reason.TheVariants.{BadCode}
use Rattle.rules.specs.Reasons.{reason_number, reason_view}
use Rattle.verify.specs.declared.verdict.Verdict.{Verdict}
use Rattle.verify.specs.declared.verdict.Verdict.TheVariants.{Verified, NoCode, Refused}
use Rattle.verify.specs.declared.report.MethodVerdict.{MethodVerdict}
use Rattle.verify.specs.Verdict as verdicts
use Rattle.verify.specs.Verdict.{verified, told_of, verdict}
use Rattle.verify.specs.Answers.{place_of}
use Rattle.verify.specs.Answers.{HasBadCode, HasVerdict, HasRefusal, IsRefused}
use Rattle.verify.specs.Reports.{IsReported}
use Rattle.verify.specs.declared.frames_at.TheConstants.{MOST_KEPT}
use Rattle.verify.specs.declared.frames_at.FramesAt.{FramesAt}
use Rattle.verify.specs.Coming.{FramesFact, frames_at, frames_view, HasFrames, HasNoInstructions, AreFramesOf, IsFramed, IsFramedIf, AreFramed, size_before}
use Rattle.verify.specs.OneVerdict.{AreSameVerdict, OneVerdict, IsSameLine, IsSameReport, OneReport, OneFrames}
use Rattle.rules.proofs.Lesser.{view_number}
use Rattle.verify.proofs.Counted.{same_in_turn}

some_same : {A : Type 0} (a b : A) → Some a ≡ Some b → a ≡ b
some_same a b e = cc

none_some : {A : Type 0} (a : A) → None ≡ Some a → ⊥
none_some a e = cc

same_told : (x y : ℕ × conditions.Reason) → Some x ≡ Some y → (x.0 ≡ y.0) × (x.1 ≡ y.1)
same_told x y e = let same = some_same x y e in (ap (λ z. z.0) same, ap (λ z. z.1) same)

module _ (classes : List ClassFact) (c : JudgedClass) (number : ℕ) where
  abbrev Same : ℕ → Reason → ℕ → Reason → Type 0
  Same at why there other = AreSameVerdict (Refused at why) (Refused there other)

  by_reason : (at there : ℕ) (why other : Reason) → at ≡ there → why ≡ other → Same at why there other
  by_reason at there why other p q = (p, ap reason_number q, ap reason_view q)

  -- ---- two verdicts on code

  one_told : (v w : verdicts.Verdict) → HasVerdict classes c number v → HasVerdict classes c number w → v ≡ w
  one_told v w x y =
      let body : x.body ≡ y.body = some_same x.body y.body (sym x.has_code ∙ y.has_code) in
      let same : x.instructions ≡ y.instructions =
      one_code 0 y.body.code x.instructions y.instructions (subst (λ b. SpellsCode 0 b.code x.instructions) body x.spelled) y.spelled in
      let method : x.method ≡ y.method =
      some_same x.method y.method (sym x.says ∙ ap (λ z. method_of c number (acts z)) same ∙ y.says) in
      sym x.told ∙ ap (verdict typing_rule classes) method ∙ y.told

  both_told : (at there : ℕ) (why other : Reason) → HasRefusal classes c number at why → HasRefusal classes c number there other
      → Same at why there other
  both_told at there why other x y =
      let e = one_told x.refusal y.refusal x.judged y.judged in
      let same = same_told (at, reason_view why) (there, reason_view other) (sym x.told ∙ ap told_of e ∙ y.told) in (
        same.0,
        sym (view_number why) ∙ ap conditions.number_of same.1 ∙ view_number other,
        same.1,
      )

  -- ---- code that is faulty spells nothing

  bad_or_told : (at : ℕ) (why : Reason) (v : verdicts.Verdict) → HasBadCode c number at why → HasVerdict classes c number v → ⊥
  bad_or_told at why v x y =
      let body : y.body ≡ x.body = some_same y.body x.body (sym y.has_code ∙ x.has_code) in
      code_or_fault x.body.code y.instructions x.fault (subst (λ b. SpellsCode 0 b.code y.instructions) body y.spelled) x.faulty

  both_bad : (at there : ℕ) (why other : Reason) → HasBadCode c number at why → HasBadCode c number there other → Same at why there other
  both_bad at there why other x y =
      let body : y.body ≡ x.body = some_same y.body x.body (sym y.has_code ∙ x.has_code) in
      let fault : x.fault ≡ y.fault =
      one_fault x.body.code x.fault y.fault x.faulty (subst (λ b. FaultyCode b.code y.fault) body y.faulty) in
      by_reason at there why other (x.there ∙ ap place_of fault ∙ sym y.there)
      (x.told ∙ ap (λ f. BadCode (code_fault_number f)) fault ∙ sym y.told)

  -- ---- refusals

  both_refused : (at there : ℕ) (why other : Reason) → IsRefused classes c number at why → IsRefused classes c number there other
      → Same at why there other
  both_refused at there why other (inl x) (inl y) = both_bad at there why other x y
  both_refused at there why other (inl x) (inr y) = absurd (bad_or_told at why y.refusal x y.judged)
  both_refused at there why other (inr x) (inl y) = absurd (bad_or_told there other x.refusal y x.judged)
  both_refused at there why other (inr x) (inr y) = both_told at there why other x y

  not_both : (at : ℕ) (why : Reason) → HasVerdict classes c number verified → IsRefused classes c number at why → ⊥
  not_both at why x (inl y) = bad_or_told at why verified y x
  not_both at why x (inr y) = none_some (at, reason_view why) (ap told_of (one_told verified y.refusal x y.judged) ∙ y.told)

  -- ---- a method without code is not refused

  refused_code : (at : ℕ) (why : Reason) → code_at c.file number ≡ None → IsRefused classes c number at why → ⊥
  refused_code at why none (inl x) = none_some x.body (sym none ∙ x.has_code)
  refused_code at why none (inr x) = none_some x.judged.body (sym none ∙ x.judged.has_code)

pub one_verdict : OneVerdict
one_verdict classes c number Verified Verified p q = tt
one_verdict classes c number Verified NoCode p q = none_some p.2.body (sym q.1 ∙ p.2.has_code)
one_verdict classes c number Verified (Refused at why) p q = not_both classes c number at why p.2 q.1
one_verdict classes c number NoCode Verified p q = none_some q.2.body (sym p.1 ∙ q.2.has_code)
one_verdict classes c number NoCode NoCode p q = tt
one_verdict classes c number NoCode (Refused at why) p q = refused_code classes c number at why p.1 q.1
one_verdict classes c number (Refused at why) Verified p q = not_both classes c number at why q.2 p.1
one_verdict classes c number (Refused at why) NoCode p q = refused_code classes c number at why q.1 p.1
one_verdict classes c number (Refused at why) (Refused there other) p q = both_refused classes c number at there why other p.1 q.1

-- ---- reports

ok_same : (a b : Named) → (let found : Result Named PoolFault = Ok a in found) ≡ Ok b → a ≡ b
ok_same a b e = cc

same_line : (classes : List ClassFact) (c : JudgedClass) (number : ℕ) (r other : MethodVerdict) → IsReported classes c number r
    → IsReported classes c number other → IsSameLine r other
same_line classes c number r other x y =
    let member : x.member ≡ y.member = some_same x.member y.member (sym x.numbered ∙ y.numbered) in
    let called = ok_same _ _ (sym x.called ∙ ap (λ m. named c.file.constant_pool m.name m.descriptor) member ∙ y.called) in
    record {
      name = ap (λ n. n.name) called;
      descriptor = ap (λ n. n.descriptor) called;
      verdict = one_verdict classes c number r.verdict other.verdict x.exactly y.exactly;
    }

pub one_report : OneReport
one_report classes c rs others p q = record {
  all = p.all ∙ sym q.all;
  each = λ number r other x y. same_line classes c number r other (p.each number r x) (q.each number other y);
}

-- ---- frames

module _ (classes : List ClassFact) (c : JudgedClass) (number : ℕ) where
  both_have : (n k at there : ℕ) (x y : FramesFact) → n ≡ k → at ≡ there → HasFrames classes c number n at x → HasFrames classes c number k there y → x ≡ y
  both_have n k at there x y i e p q =
      let body : p.body ≡ q.body = some_same p.body q.body (sym p.has_code ∙ q.has_code) in
      let same : p.instructions ≡ q.instructions =
      one_code 0 q.body.code p.instructions q.instructions (subst (λ b. SpellsCode 0 b.code p.instructions) body p.spelled) q.spelled in
      let method : p.method ≡ q.method =
      some_same p.method q.method (sym p.says ∙ ap (λ z. method_of c number (acts z)) same ∙ q.says) in
      p.same ∙ ap (λ m. frames_at typing_rule classes m n at) method ∙ ap (λ z. frames_at typing_rule classes q.method z at) i
      ∙ ap (frames_at typing_rule classes q.method k) e ∙ sym q.same

  has_none : (n at : ℕ) (x : FramesFact) → HasFrames classes c number n at x → HasNoInstructions c number → ⊥
  has_none n at x p none = none p.body p.instructions p.has_code p.spelled

  same_frames : (n k at there : ℕ) (x y : FramesFact) → n ≡ k → at ≡ there → AreFramesOf classes c number n at x → AreFramesOf classes c number k there y → x ≡ y
  same_frames n k at there x y i e (inl p) (inl q) = both_have n k at there x y i e p q
  same_frames n k at there x y i e (inl p) (inr q) = absurd (has_none n at x p q.0)
  same_frames n k at there x y i e (inr p) (inl q) = absurd (has_none k there y q p.0)
  same_frames n k at there x y i e (inr p) (inr q) = p.1 ∙ sym q.1

  same_framed : (v w : Verdict) (x y : FramesFact) → AreSameVerdict v w → IsFramed classes c number v x → IsFramed classes c number w y → x ≡ y
  same_framed Verified Verified x y e p q = p ∙ sym q
  same_framed NoCode NoCode x y e p q = p ∙ sym q
  same_framed (Refused at why) (Refused there other) x y e p q = same_frames (reason_number why) (reason_number other) at there x y e.1 e.0 p q
  same_framed _ _ x y e p q = absurd e

-- each place of a list of one length with another is one of this too
there_too : {A B : Type 0} (xs : List A) (ys : List B) (n : ℕ) (x : A) → length xs ≡ length ys → slice_get xs n ≡ Some x → (y : B) × (slice_get ys n ≡ Some y)
there_too [] ys n x e here = absurd (none_some x here)
there_too (a ∷ xs) [] n x e here = absurd (omega (arith, e))
there_too (a ∷ xs) (b ∷ ys) zero x e here = (b, refl)
there_too (a ∷ xs) (b ∷ ys) (suc n) x e here = there_too xs ys n x (omega (arith, e)) here

module _ (classes : List ClassFact) (c : JudgedClass) where
  same_framed_if : (told : Bool) (number : ℕ) (v w : Verdict) (x y : FramesFact) → AreSameVerdict v w → IsFramedIf told classes c number v x
      → IsFramedIf told classes c number w y → x ≡ y
  same_framed_if true number v w x y e p q = same_framed classes c number v w x y e p q
  same_framed_if false number v w x y e p q = p ∙ sym q

  -- the method of this number has a verdict, and these frames where those of the methods in front have so many types
  abbrev Framed : List MethodVerdict → ℕ → ℕ → FramesFact → Type 0
  Framed rs n size f = (r : MethodVerdict) × (slice_get rs n ≡ Some r) × IsFramedIf (nat_lt size MOST_KEPT) classes c n r.verdict f

  same_here : (rs others : List MethodVerdict) → IsSameReport rs others → (n size : ℕ) (x y : FramesFact) → Framed rs n size x → Framed others n size y → x ≡ y
  same_here rs others same n size x y p q =
      same_framed_if (nat_lt size MOST_KEPT) n p.0.verdict q.0.verdict x y (same.each n p.0 q.0 p.1 q.1).verdict p.2 q.2

  framed_here : (rs : List MethodVerdict) (xs : List FramesAt) → AreFramed classes c rs xs → (n : ℕ) (x : FramesAt) → slice_get xs n ≡ Some x
      → Framed rs n (size_before xs n) (frames_view x)
  framed_here rs xs p n x here = let r = there_too xs rs n x p.all here in (r.0, r.1, p.each n r.0 x r.1 here)

pub one_frames : OneFrames
one_frames classes c rs others xs ys same p q = record {
  all = p.all ∙ same.all ∙ sym q.all;
  each = same_in_turn xs ys (Framed classes c rs) (Framed classes c others) (same_here classes c rs others same)
      (framed_here classes c rs xs p) (framed_here classes c others ys q);
}
