-- Values that were met, and values that stand twice.
use Rattle.std.proofs.Common.{◌≡◌, ◌≤◌, ◌∙◌, ℕ, Bool, true, false, ◌||◌, List, [], ◌∷◌, length, Result, Ok, Err, refl, sym, ap, arith}
use Rattle.std.specs.List.{list_any}
use Rattle.std.specs.Str.{bytes_eq}
use Rattle.pool.specs.declared.fault.PoolFault.{PoolFault}
use Rattle.pool.specs.Entries.{Entry}
use Rattle.pool.specs.Lookups.{class_name_at}
use Rattle.classfile.proofs.Tables.{four}
use Rattle.classfile.specs.Methods.{with_name, names_at}
use Rattle.classfile.specs.release.Twice.{has_twice}

-- one of the values was met, or stands twice
abbrev pub come_again : {X : Type 0} → (X → X → Bool) → (X → Bool) → List X → Bool
come_again same met xs = list_any met xs || has_twice same xs

pub none_met : {X : Type 0} (met : X → Bool) → ((x : X) → met x ≡ false) → (xs : List X) → list_any met xs ≡ false
none_met met none [] = refl
none_met met none (x ∷ xs) = ap (λ (b : Bool). b || list_any met xs) (none x) ∙ none_met met none xs

module _ {X : Type 0} (same : X → X → Bool) (old new : X → Bool) (x : X) (behind : (o : X) → new o ≡ (same x o || old o)) where
  met_among : (xs : List X) → list_any new xs ≡ list_any (same x) xs || list_any old xs
  met_among [] = refl
  met_among (o ∷ xs) =
      ap (λ (b : Bool). b || list_any new xs) (behind o)
      ∙ ap (λ (b : Bool). (same x o || old o) || b) (met_among xs)
      ∙ four (same x o) (old o) (list_any (same x) xs) (list_any old xs)

  grouped : (a b c : Bool) → a || (b || c) ≡ (b || a) || c
  grouped true true c = refl
  grouped true false c = refl
  grouped false true c = refl
  grouped false false c = refl

  -- a value that was not met is met
  pub comes_once : (xs : List X) → old x ≡ false → come_again same old (x ∷ xs) ≡ come_again same new xs
  comes_once xs none =
      ap (λ (b : Bool). (b || list_any old xs) || (list_any (same x) xs || has_twice same xs)) none
      ∙ grouped (list_any old xs) (list_any (same x) xs) (has_twice same xs)
      ∙ ap (λ (b : Bool). b || has_twice same xs) (sym (met_among xs))

-- one class alone
pub stands_once : (pool : List Entry) (indices : List ℕ) → length indices ≤ 1 → has_twice bytes_eq (names_at pool indices) ≡ false
stands_once pool [] few = refl
stands_once pool (i ∷ []) few = alone (class_name_at pool i)
  where
    alone : (r : Result (List ℕ) PoolFault) → has_twice bytes_eq (with_name r []) ≡ false
    alone (Ok name) = refl
    alone (Err e) = refl
stands_once pool (i ∷ (j ∷ others)) few = absurd (omega (arith, few))
