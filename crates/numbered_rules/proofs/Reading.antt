-- Local variables that are read, and counted.
use Rattle.std.specs.Prelude.{slice_index}
use Rattle.std.proofs.Common.{◌≡◌, ◌∙◌, ℕ, zero, suc, false, List, [], ◌∷◌, Some, Result, slice_get, refl, sym, ap}
use Rattle.classfile.specs.Methods.{Method}
use Rattle.hierarchy.specs.Class.{ClassFact}
use Rattle.hierarchy.specs.Answer.{Outcome, no}
use Rattle.insn.specs.Meanings.{Act}
use Rattle.insn.specs.declared.kinds.Kind.TheVariants.{Int}
use Rattle.frames.specs.FrameFact.{FrameFact}
use Rattle.frames.specs.Conditions.{reason, least}
use Rattle.type_numbers.specs.Numbers.{Numbering}
use Rattle.type_numbers.specs.Decoding.{type_by, types_by}
use Rattle.method_frames.specs.NumberedFrames.{NumberedFrames}
use Rattle.rules.specs.declared.reason.Reason.{Reason}
use Rattle.rules.specs.TypingRules.{number, increments}
use Rattle.rules.specs.After.{or_top, local_of, after}
use Rattle.rules.specs.Rules.{accepts, conditions, is_outside, is_too_wide}
use Rattle.rules.specs.Outcomes.{Done, settled}
use Rattle.rules.proofs.Settling.{redone, local_no, local_settled}
use Rattle.numbered_rules.specs.RunningFrame.{held}

typed_at : (s : Numbering) (row : List ℕ) (n : ℕ) → or_top (slice_get (types_by s row) n) ≡ type_by s (slice_index row n)
typed_at s [] n = refl
typed_at s (x ∷ xs) zero = refl
typed_at s (x ∷ xs) (suc n) = typed_at s xs n

pub local_typed : (x : NumberedFrames) (n place m : ℕ) → place ≡ n → m ≡ slice_index x.running.locals place → local_of n (held x) ≡ type_by x.types m
local_typed x n place m e at = ap (λ k. local_of k (held x)) (sym e) ∙ typed_at x.types x.running.locals place ∙ ap (type_by x.types) (sym at)

-- ---- iinc

module _ (cs : List ClassFact) (m : Method Act) (n : ℕ) (f : FrameFact) (inside : is_outside m n 1 ≡ false) where
  pub count_no : accepts cs (number Int) (local_of n f) ≡ no → least (conditions cs m 0 (increments n) f) ≡ Some (reason 63)
  count_no e = local_no (is_outside m n 1) (accepts cs (number Int) (local_of n f)) (is_too_wide m f) inside e

  pub count_done : (a : Outcome) (r : Result Unit Reason) → a ≡ accepts cs (number Int) (local_of n f) → (a ≡ no → ⊥) → Done (settled m a f) f f r → Done (conditions cs m 0 (increments n) f) (after m 0 (increments n) f) f r
  count_done a r told ne d =
      redone (conditions cs m 0 (increments n) f) (settled m a f) f f f r
      (local_settled (is_outside m n 1) (accepts cs (number Int) (local_of n f)) (is_too_wide m f) inside (λ e. ne (told ∙ e)) ∙ ap (λ z. least (settled m z f)) (sym told))
      refl d
