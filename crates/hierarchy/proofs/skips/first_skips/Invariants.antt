use Rattle.std.proofs.Common.{◌≡◌, ℕ, Some, length, slice_get}
use Rattle.hierarchy.specs.declared.skips.Skip.{Skip}
use Rattle.hierarchy.specs.private.Skips.{IsSkip}
use Rattle.hierarchy.proofs.skips.first_skips.Given as goal

abbrev pub invariant-loop-place : goal.invariant-loop-place
invariant-loop-place g l = (length l.skips.items ≡ l.place) × ((i : ℕ) (skip : Skip) → slice_get l.skips.items i ≡ Some skip → IsSkip l.index 1 i skip)
