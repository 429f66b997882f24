-- The texts of a name and type as they are found, and the indices that they stand at. Words of the code's own steps.
use Rattle.std.specs.Prelude.{◌≡◌, ℕ, true, List, Option, Some, None, Ok}
use Rattle.std.specs.Result.{is_err}
use Rattle.pool.specs.Entries.{Entry}
use Rattle.pool.specs.Lookups.{text_at, name_and_type_at}
use Rattle.pool.specs.Views.{name_and_type_view}
use Rattle.classfile.specs.declared.constant_form.NamedAt.{NamedAt}

pub record HasNamed (pool : List Entry) (index : ℕ) (x : NamedAt) : Type 0 where
  pub both : name_and_type_at pool index ≡ Ok (name_and_type_view x.texts)
  pub name : text_at pool x.name ≡ Ok x.texts.name.bytes.now
  pub descriptor : text_at pool x.descriptor ≡ Ok x.texts.descriptor.bytes.now

abbrev pub IsNamedAt : List Entry → ℕ → Option NamedAt → Type 0
IsNamedAt pool index None = is_err (name_and_type_at pool index) ≡ true
IsNamedAt pool index (Some x) = HasNamed pool index x
