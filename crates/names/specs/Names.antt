-- Names (JVMS 4.2): an unqualified name (4.2.2) has no '.', ';', '[' or '/', a method name no '<' or '>'
-- besides, and a class name in its internal form (4.2.1) is unqualified names joined by '/'.
-- Each fact is said of a list of units, and as well of the bytes that spell them: these characters are
-- spelled by themselves, and no other spelling has their bytes in it.
use Rattle.std.specs.Prelude.{◌≡◌, ℕ, ◌<◌, Bool, not, ◌||◌, List, length, nat_eq}
use Rattle.std.specs.List.{AllPass, AllByRecursion, join_with_byte}

abbrev pub dot : ℕ
dot = 46

abbrev pub slash : ℕ
slash = 47

abbrev pub semicolon : ℕ
semicolon = 59

abbrev pub bracket : ℕ
bracket = 91

abbrev pub less_than : ℕ
less_than = 60

abbrev pub greater_than : ℕ
greater_than = 62

-- a unit of unqualified names
abbrev pub is_name_unit : ℕ → Bool
is_name_unit u = not (nat_eq u dot || nat_eq u semicolon || nat_eq u bracket || nat_eq u slash)

abbrev pub is_angle : ℕ → Bool
is_angle u = nat_eq u less_than || nat_eq u greater_than

pub record IsUnqualifiedName (name : List ℕ) : Type 0 where
  pub some : 0 < length name
  pub each : AllPass is_name_unit name

pub record IsMethodName (name : List ℕ) : Type 0 where
  pub unqualified : IsUnqualifiedName name
  pub no_angle : AllPass (λ u. not (is_angle u)) name

-- one or more unqualified names, with a '/' between each two
pub record IsClassName (name : List ℕ) : Type 0 where
  pub names : List (List ℕ)
  pub some : 0 < length names
  pub each : AllByRecursion IsUnqualifiedName names
  pub joined : name ≡ join_with_byte slash names
