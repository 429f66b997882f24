-- Names of absent classes, as they are kept.
use Rattle.std.specs.Prelude.{ℕ, List, Option}
use Rattle.std.specs.BTreeMap.{BTreeMap, get_by}
use Rattle.std.specs.Borrow.{Bor}
use Rattle.std.specs.Cmp.Lexicographic.{slice_cmp}
use Rattle.std.specs.Ordering.{nat_cmp}

-- the place that is kept for a name
abbrev pub place_kept : BTreeMap (Bor (List ℕ)) ℕ → List ℕ → Option ℕ
place_kept places name = get_by (λ k. slice_cmp nat_cmp name k.now) places
