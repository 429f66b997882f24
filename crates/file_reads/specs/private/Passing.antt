-- Words of the code's own steps: calls that pass what a format says.
use Rattle.std.specs.Prelude.{◌≡◌, ◌≤◌, ◌+◌, ℕ, Bool, List, ◌++◌, length}
use Rattle.layout.specs.Format.{Format, Spells}
use Rattle.classfile.specs.Outline.{constant, is_wide}
use Rattle.file_reads.specs.declared.outline.Extent.{Extent}

-- The bytes begin with a spelling of the value, behind which these are left.
pub record Passes {V : Type 0} (f : Format V) (bytes rest : List ℕ) (v : V) : Type 0 where
  pub front : List ℕ
  pub parts : bytes ≡ front ++ rest
  pub spelled : Spells f front v

abbrev pub Skips : Format (Unit {0}) → (bytes rest : List ℕ) → Type 0
Skips f bytes rest = Passes f bytes rest tt

-- A constant with this tag takes so many bytes, whatever stands behind the tag, and two indices if it is wide.
pub record Takes (last : Bool) (tag : ℕ) (e : Extent) : Type 0 where
  pub wide : e.is_wide ≡ is_wide tag
  pub tagged : 1 ≤ e.length
  pub spelled : (body : List ℕ) → length body + 1 ≡ e.length → Spells (constant last tag) body tt
