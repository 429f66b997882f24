-- The names so far are met, and no other.
use Rattle.std.proofs.Common.{◌≡◌, ◌||◌, ℕ, List, drop, map}
use Rattle.std.specs.List.{list_any}
use Rattle.std.specs.Str.{bytes_eq}
use Rattle.names.specs.MetNames.{is_met}
use Rattle.classfile.specs.Methods.{names_at}
use Rattle.rules.proofs.direct_classes.meet_all.Given as goal

abbrev pub invariant-loop-index : goal.invariant-loop-index
invariant-loop-index l =
    (name : List ℕ)
    → (list_any (λ other. bytes_eq other name) (names_at l.pool (map (λ n. n) l.indices)) || is_met l.fn.names name)
    ≡ (list_any (λ other. bytes_eq other name) (names_at l.pool (map (λ n. n) (drop l.index-index l.indices))) || is_met l.names name)
