-- The names and descriptors of members that were met: of which it holds that they were.
use Rattle.std.specs.Prelude.{◌≡◌, ℕ, Bool, List, [], ◌∷◌, ◌++◌, Some, Ok}
use Rattle.std.specs.List.{All, list_any}
use Rattle.pool.specs.Entries.{Entry}
use Rattle.pool.specs.Lookups.{text_at, Named, named}
use Rattle.classfile.specs.declared.member_keys.MemberKeys.{MemberKeys}
use Rattle.classfile.specs.declared.text_numbers.TextNumbers.{TextNumbers}
use Rattle.classfile.specs.Indices.{on_found}
use Rattle.classfile.specs.TextNumbers.{number_of, AreNumbers}
use Rattle.classfile.specs.Values.{Member}
use Rattle.classfile.specs.MemberForm.{are_same, is_among, is_repeated}

-- these numbers lead to this name and descriptor
abbrev pub is_pair_of : List Entry → Named → ℕ × ℕ → Bool
is_pair_of pool x k = on_found (are_same x) (named pool k.0 k.1)

-- this name and descriptor were met
abbrev pub has_seen : List Entry → MemberKeys → Named → Bool
has_seen pool s x = list_any (is_pair_of pool x) s.seen.keys

-- a text that stands at this index has it as its number
abbrev pub IsNumber : List Entry → TextNumbers → ℕ → Type 0
IsNumber pool s n = (text : List ℕ) → text_at pool n ≡ Ok text → number_of s text ≡ Some n

abbrev pub AreBothNumbers : List Entry → TextNumbers → ℕ × ℕ → Type 0
AreBothNumbers pool s k = IsNumber pool s k.0 × IsNumber pool s k.1

-- the names and descriptors of these members were met, and no others
pub record AreSeen (pool : List Entry) (members : List Member) (s : MemberKeys) : Type 0 where
  pub numbers : AreNumbers pool s.numbers
  pub pairs : All (AreBothNumbers pool s.numbers) s.seen.keys
  pub exactly : (x : Named) → has_seen pool s x ≡ is_among pool members x

-- a member was met, after these ones
pub record MeetsMember (pool : List Entry) (old new : MemberKeys) (m : Member) (repeated : Bool) : Type 0 where
  pub repeats : (earlier : List Member) → AreSeen pool earlier old → repeated ≡ is_repeated pool earlier m
  pub seen : (earlier : List Member) → AreSeen pool earlier old → AreSeen pool (earlier ++ m ∷ []) new

-- the name and the descriptor at two indices were looked for, and no member was met meanwhile
pub record FindsMember (pool : List Entry) (old new : MemberKeys) (name descriptor : ℕ) (met : Bool) : Type 0 where
  pub finds : (members : List Member) → AreSeen pool members old
      → met ≡ on_found (is_among pool members) (named pool name descriptor)
  pub kept : (members : List Member) → AreSeen pool members old → AreSeen pool members new
