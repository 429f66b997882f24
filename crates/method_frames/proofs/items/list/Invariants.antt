use Rattle.std.proofs.Common.{◌≡◌, ℕ, ◌≤◌, ◌<◌, get_or, true}
use Rattle.method_frames.specs.Objects.{is_uninitialized}
use Rattle.method_frames.specs.private.Holders.{IsListed, KeepsListed}
use Rattle.method_frames.proofs.items.list.Given as goal

abbrev pub invariant-loop-place : goal.invariant-loop-place
invariant-loop-place l = record {
  kept : KeepsListed l.fn.holders l.holders;
  listed : (k : ℕ) → l.fn.from ≤ k → k < l.place → is_uninitialized (get_or l.numbers k 0) ≡ true → IsListed l.holders (get_or l.numbers k 0) k;
}
