use Rattle.std.proofs.Common.{◌≡◌, ◌≢◌, ℕ, ◌<◌, get_or, true, ◌⊎◌}
use Rattle.method_frames.specs.private.Holders.{is_among, key_of}
use Rattle.method_frames.proofs.items.has_listed.Given as goal

abbrev pub invariant-loop-key : goal.invariant-loop-key
invariant-loop-key l = (i : ℕ) → (get_or l.numbers i 0 ≢ l.object) ⊎ ((is_among l.key-iterator (key_of l.object i) ≡ true) × (i < 4294967296))
