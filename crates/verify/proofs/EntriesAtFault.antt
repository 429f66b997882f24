-- The first entry of an exception table that is refused, and the first that covers an instruction.
use Rattle.std.proofs.Common.{◌≡◌, ◌⊎◌, inl, inr, ℕ, suc, ◌+◌, true, false, List, ◌∷◌, drop, Option, Some, None, Result, Ok, Err, refl, sym, ◌∙◌, ap, arith}
use Rattle.std.specs.Prelude.{◌≢◌, IfOk}
use Rattle.std.specs.declared.alloc.AllocError.{AllocError}
use Rattle.hierarchy.specs.Class.{ClassFact}
use Rattle.classfile.specs.Methods.{Method, ExceptionEntry, covers}
use Rattle.insn.specs.Meanings.{Act}
use Rattle.frames.specs.Conditions.{Reason as Refusing, least}
use Rattle.rules.specs.declared.reason.Reason.{Reason as RuleReason}
use Rattle.rules.specs.declared.reason.Reason.TheVariants.{OutOfMemory}
use Rattle.verify.specs.TypeSafety.{Frames}
use Rattle.verify.specs.Verdict.{table_conditions}
use Rattle.verify.specs.DifferencesAt.{first_refused, first_covering}

-- the entries from a place on begin with this one
module _ (es : List ExceptionEntry) (i : ℕ) (e : ExceptionEntry) (here : drop i es ≡ e ∷ drop (i + 1) es) where
  next : suc i ≡ i + 1
  next = omega arith

  -- it covers an instruction, or it does not
  pub covering_here : (at : ℕ) → covers e at ≡ true → first_covering at i (drop i es) ≡ Some i
  covering_here at c = ap (first_covering at i) here ∙ rw c refl

  pub covering_later : (at : ℕ) → covers e at ≡ false → first_covering at i (drop i es) ≡ first_covering at (i + 1) (drop (i + 1) es)
  covering_later at c = ap (first_covering at i) here ∙ rw c (ap (λ k. first_covering at k (drop (i + 1) es)) next)

  -- it is refused, or it is not
  module _ (classes : List ClassFact) (m : Method Act) (frames : Frames) where
    pub refused_here : (why : Refusing) → least (table_conditions classes m frames e) ≡ Some why → first_refused classes m frames i (drop i es) ≡ Some i
    refused_here why c = ap (first_refused classes m frames i) here ∙ rw c refl

    pub refused_later : least (table_conditions classes m frames e) ≡ None → first_refused classes m frames i (drop i es) ≡ first_refused classes m frames (i + 1) (drop (i + 1) es)
    refused_later c = ap (first_refused classes m frames i) here ∙ rw c (ap (λ k. first_refused classes m frames k (drop (i + 1) es)) next)

-- the answer where an entry was refused
pub refused_told : (why : RuleReason) (r : Result (Option ℕ) AllocError) (first : Option ℕ) (place : ℕ) → IfOk r (λ o. (o ≡ Some place) × (why ≢ OutOfMemory))
    → (why ≡ OutOfMemory) ⊎ (first ≡ Some place) → IfOk r (λ o. o ≡ first)
refused_told why (Ok o) first place p (inl out) = absurd (p.1 out)
refused_told why (Ok o) first place p (inr is) = p.0 ∙ sym is
refused_told why (Err e) first place p q = tt
