-- Which comparisons of two types are decided by the parts of their numbers, where these differ.
use Rattle.std.specs.Prelude.{ℕ, Bool, true, false, not, ◌&&◌, ◌||◌, nat_eq, nat_lt, if◌then◌else◌, Option, Some, None}

-- the tags of classes and of arrays
abbrev pub is_reference : ℕ → Bool
is_reference tag = nat_eq tag 7 || nat_lt 8 tag

-- by the tags and the dimensions of both: whether the first may stand where the second is wanted; none where that is a
-- question about classes
abbrev pub decided : ℕ → ℕ → ℕ → ℕ → Option Bool
decided from_tag from_dims to_tag to_dims =
    if nat_eq to_tag 0 then Some true
    else if not (is_reference to_tag) then Some false
    else if nat_eq from_tag 5 then Some true
    else if not (is_reference from_tag) || nat_lt from_dims to_dims then Some false
    else if nat_eq to_tag 9 || (nat_eq from_dims to_dims && nat_eq from_tag 9) then Some false
    else None
