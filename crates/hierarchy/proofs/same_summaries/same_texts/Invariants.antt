use Rattle.std.proofs.Common.{◌≡◌, ◌<◌, ℕ}
use Rattle.hierarchy.specs.Summary.{text_among}
use Rattle.hierarchy.proofs.same_summaries.same_texts.Given as goal

abbrev pub invariant-loop-i : goal.invariant-loop-i
invariant-loop-i l = (place : ℕ) → place < l.i → text_among l.ones place ≡ text_among l.others place
