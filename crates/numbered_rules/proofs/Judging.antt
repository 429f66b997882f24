-- Rules that refuse an instruction.
use Rattle.std.proofs.Common.{◌≡◌, ◌∙◌, ℕ, ◌&&◌, Bool, true, false, List, Some, inr, Err, ap, sym, refl}
use Rattle.std.proofs.lemmas.Bool.{cond-false}
use Rattle.classfile.specs.Methods.{Method}
use Rattle.hierarchy.specs.Class.{ClassFact}
use Rattle.insn.specs.Meanings.{Act}
use Rattle.frames.specs.FrameFact.{FrameFact}
use Rattle.frames.specs.Conditions.{reason}
use Rattle.rules.specs.declared.reason.Reason.{Reason}
use Rattle.rules.specs.declared.reason.Reason.TheVariants.{WrongConstant}
use Rattle.rules.specs.TypingRules.{TypingRule, refuses, where_allowed}
use Rattle.rules.specs.After.{after}
use Rattle.rules.specs.Rules.{conditions}
use Rattle.rules.specs.Outcomes.{Done}
use Rattle.rules.specs.Reasons.{reason_view}
use Rattle.rules.proofs.Settling.{by_typing_rule}

pub refused : (m : Method Act) (at : ℕ) (p : TypingRule) (n : ℕ) (x : Reason) (cs : List ClassFact) (f now : FrameFact) → p ≡ refuses n → reason_view x ≡ reason n → Done (conditions cs m at p f) (after m at p f) now (Err x)
refused m at p n x cs f now e is = by_typing_rule m at p (refuses n) cs f now (Err x) e (record { outcome = inr (ap (λ r. Some r) (sym is)) })

pub and_false : (a : Bool) {b : Bool} → b ≡ false → (a && b) ≡ false
and_false true e = e
and_false false e = refl

-- where a test does not hold
pub not_allowed : (m : Method Act) (at : ℕ) (p : TypingRule) (b : Bool) (q : TypingRule) (cs : List ClassFact) (f now : FrameFact) → p ≡ where_allowed b q → b ≡ false → Done (conditions cs m at p f) (after m at p f) now (Err WrongConstant)
not_allowed m at p b q cs f now e x = refused m at p 66 WrongConstant cs f now (e ∙ cond-false b q (refuses 66) x) refl
