-- Places of classes as they are kept.
use Rattle.std.proofs.Common.{ℕ, zero, suc, List, [], ◌∷◌, Option, None, get_or}
use Rattle.std.specs.Borrow.{Bor}
use Rattle.std.specs.List.{All}
use Rattle.std.proofs.lemmas.List.Elements.{All-head, All-tail}
use Rattle.hierarchy.specs.Class.{ClassFact}
use Rattle.type_numbers.specs.private.RecentPlaces.{IsSlot, KeptNames}

-- what is kept at one place of a row, if anything
pub place_at : (classes : List ClassFact) (kept : KeptNames) (slots : List (Option (Bor (List ℕ) × ℕ))) (k : ℕ) → All (IsSlot classes kept) slots → IsSlot classes kept (get_or slots k None)
place_at classes kept [] zero are = tt
place_at classes kept [] (suc k) are = tt
place_at classes kept (x ∷ xs) zero are = All-head (IsSlot classes kept) x xs are
place_at classes kept (x ∷ xs) (suc k) are = place_at classes kept xs k (All-tail (IsSlot classes kept) x xs are)
