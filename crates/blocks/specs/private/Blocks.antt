-- Blocks of 16 numbers.
use Rattle.std.specs.Prelude.{◌≡◌, ◌≢◌, ℕ, ◌≤◌, ◌<◌, ◌*◌, ◌/◌, ◌%◌, ◌^◌, ◌⊎◌, true, false, List, slice_index}
use Rattle.blocks.specs.Rows.{is_decided}

-- the place of a slot in the nodes of a level on its way down
abbrev pub place_in : ℕ → ℕ → ℕ
place_in slot level = slot / 2 ^ (4 * level) % 16

-- the numbers of two blocks are decided from one lane up to another
abbrev pub AreDecided : List ℕ → List ℕ → ℕ → ℕ → Type 0
AreDecided a b from to = (k : ℕ) → from ≤ k → k < to → is_decided (slice_index a k) (slice_index b k) ≡ true

-- the first lane from one on that is not decided, or 16
pub record IsFirstLane (a b : List ℕ) (from lane : ℕ) : Type 0 where
  pub few : lane ≤ 16
  pub ahead : from ≤ lane
  pub decided : AreDecided a b from lane
  pub stop : lane < 16 → is_decided (slice_index a lane) (slice_index b lane) ≡ false

-- the first lane from one on that is not decided and does not hold the number of a third block, or 16
pub record IsFirstNewLane (a b fitting : List ℕ) (from lane : ℕ) : Type 0 where
  pub few : lane ≤ 16
  pub ahead : from ≤ lane
  pub settled : (k : ℕ) → from ≤ k → k < lane
      → (is_decided (slice_index a k) (slice_index b k) ≡ true) ⊎ (slice_index a k ≡ slice_index fitting k)
  pub stop : lane < 16 → is_decided (slice_index a lane) (slice_index b lane) ≡ false

-- the numbers of two blocks are equal from one lane up to another
abbrev pub AreEqual : List ℕ → List ℕ → ℕ → ℕ → Type 0
AreEqual a b from to = (k : ℕ) → from ≤ k → k < to → slice_index a k ≡ slice_index b k

-- the first lane from one on in which the numbers of two blocks differ, or 16
pub record IsFirstUnequalLane (a b : List ℕ) (from lane : ℕ) : Type 0 where
  pub few : lane ≤ 16
  pub ahead : from ≤ lane
  pub equal : AreEqual a b from lane
  pub stop : lane < 16 → slice_index a lane ≢ slice_index b lane
