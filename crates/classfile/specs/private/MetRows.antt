-- Rows of local variables that were met. Words of the code's own steps.
use Rattle.std.specs.Prelude.{◌≡◌, ℕ, Bool, ◌||◌, List}
use Rattle.std.specs.List.{list_any}
use Rattle.std.specs.Ordering.{nat_cmp, ordering_then, is_eq}
use Rattle.std.specs.declared.cmp.Ordering.{Ordering}
use Rattle.classfile.specs.declared.release_form.debug_tables.Variable.{Variable}
use Rattle.classfile.specs.declared.release_form.repeated_rows.MetRows.{MetRows}
use Rattle.classfile.specs.release.DebugTables.{are_same}

abbrev pub Key : Type 0
Key = (ℕ × ℕ) × (ℕ × ℕ)

abbrev pub key_of : Variable → Key
key_of v = ((v.start, v.length), (v.name, v.index))

abbrev pub order : Key → Key → Ordering
order a b = ordering_then (ordering_then (nat_cmp a.0.0 b.0.0) (nat_cmp a.0.1 b.0.1))
    (ordering_then (nat_cmp a.1.0 b.1.0) (nat_cmp a.1.1 b.1.1))

abbrev pub is_met : MetRows → Variable → Bool
is_met rows v = list_any (λ k. is_eq (order (key_of v) k)) rows.keys.keys

-- the row is met, which was so before or was not
pub record Meets (old new : MetRows) (v : Variable) (before : Bool) : Type 0 where
  pub told : before ≡ is_met old v
  pub behind : (other : Variable) → is_met new other ≡ (are_same v other || is_met old other)

-- these rows were met, and no others
abbrev pub AreMet : List Variable → MetRows → Type 0
AreMet vs rows = (other : Variable) → is_met rows other ≡ list_any (λ v. are_same v other) vs
