-- The numbers of the types with which a method begins, which are kept elsewhere.
use Rattle.std.proofs.Common.{◌≡◌, ◌∙◌, ℕ, ◌<◌, List, length, sym, ap, subst}
use Rattle.std.specs.Prelude.{slice_index}
use Rattle.frames.specs.VerificationType.{VerificationType}
use Rattle.type_numbers.specs.Numbers.{Numbering, IsGiven}
use Rattle.type_numbers.specs.Decoding.{types_by}
use Rattle.type_numbers.specs.MethodNumbers.{AreNumbers}
use Rattle.verify.proofs.numbered.ClassTyped.{numbers_read, each_given}

module _ (s : Numbering) (kept ns : List ℕ) (ts : List VerificationType) (same : kept ≡ ns) (are : AreNumbers s ns ts) where
  pub kept_read : types_by s kept ≡ ts
  kept_read = ap (types_by s) same ∙ numbers_read s ns ts are

  pub kept_given : (i : ℕ) → i < length kept → IsGiven s (slice_index kept i)
  kept_given = each_given s kept ts (subst (λ xs. AreNumbers s xs ts) (sym same) are)
