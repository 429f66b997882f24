-- Names that were met.
use Rattle.std.specs.Prelude.{◌≡◌, ℕ, Bool, ◌||◌, is_some, bytes_eq, List}
use Rattle.std.specs.BTreeMap.{get_by}
use Rattle.std.specs.Cmp.Lexicographic.{slice_cmp}
use Rattle.std.specs.Ordering.{nat_cmp}
use Rattle.names.specs.declared.met_names.MetNames.{MetNames}

abbrev pub is_met : MetNames → List ℕ → Bool
is_met names name = is_some (get_by (λ k. slice_cmp nat_cmp name k.now) names.places)

-- the name is met, which was so before or was not
pub record Meets (old new : MetNames) (name : List ℕ) (before : Bool) : Type 0 where
  pub told : before ≡ is_met old name
  pub behind : (other : List ℕ) → is_met new other ≡ (bytes_eq name other || is_met old other)
