-- Rows and their known pairs, by a judgement of which number fits which.
use Rattle.std.specs.Prelude.{◌≡◌, ℕ, ◌<◌, Bool, true, length, slice_index, Contains}
use Rattle.blocks.specs.Rows.{Rows, declared_row, IsSettled, IsSaidToFit}

-- by a judgement, each number fits itself, and each fits Top
pub record IsJudgement (fits : ℕ → ℕ → Bool) : Type 0 where
  pub itself : (a : ℕ) → fits a a ≡ true
  pub top : (a : ℕ) → fits a 0 ≡ true

-- all that was said is true by a judgement
abbrev pub IsTrueBy : (ℕ → ℕ → Bool) → Rows → Type 0
IsTrueBy fits rows = (a b : ℕ) → Contains rows.known (a, b) → fits a b ≡ true

-- by a judgement, the running row fits a declared one at a slot
abbrev pub FitsAt : (ℕ → ℕ → Bool) → Rows → ℕ → ℕ → Type 0
FitsAt fits rows row slot = fits (slice_index rows.running slot) (slice_index (declared_row rows row) slot) ≡ true

-- where all that was said is true, a slot that is settled fits
abbrev pub SettledSlotsFit : Type 0
SettledSlotsFit = (fits : ℕ → ℕ → Bool) → IsJudgement fits → (rows : Rows) (row slot : ℕ)
    → IsTrueBy fits rows → IsSettled rows row slot → FitsAt fits rows row slot

-- all that was said stays true where a row is said to fit that does
abbrev pub TruthsStay : Type 0
TruthsStay = (fits : ℕ → ℕ → Bool) → IsJudgement fits → (old new : Rows) (row : ℕ)
    → IsTrueBy fits old → IsSaidToFit old new row
    → ((slot : ℕ) → slot < length old.running → FitsAt fits old row slot) → IsTrueBy fits new
