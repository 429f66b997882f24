-- Numbers that fit wanted ones by the two alone, lane by lane.
use Rattle.std.specs.Prelude.{◌≡◌, ℕ, ◌≤◌, ◌<◌, Bool, true, false, nat_eq, if◌then◌else◌, List, slice_index}

-- a number fits its equal; where the mark is wanted, every number fits, or none does
abbrev pub is_decided_by : ℕ → Bool → ℕ → ℕ → Bool
is_decided_by mark mark_fits number wanted = if nat_eq wanted mark then mark_fits else nat_eq number wanted

-- so many of the first n lanes are decided, up to the first that is not
pub record AreDecidedLanes (decided : ℕ → ℕ → Bool) (a b : List ℕ) (n count : ℕ) : Type 0 where
  pub few : count ≤ n
  pub before : (k : ℕ) → k < count → decided (slice_index a k) (slice_index b k) ≡ true
  pub stop : count < n → decided (slice_index a count) (slice_index b count) ≡ false
