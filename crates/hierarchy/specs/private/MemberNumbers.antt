-- Numbers of members, each found by the numbers of its texts and by its kind. Words of the code's own steps.
use Rattle.std.specs.Prelude.{◌≡◌, ◌⊎◌, ℕ, ◌<◌, List, Option, Some, None, IsSome}
use Rattle.std.specs.BTreeMap.{BTreeMap, btree_map_len, get}
use Rattle.std.specs.Borrow.{Bor}
use Rattle.std.specs.Option.{option_and_then}
use Rattle.std.specs.declared.cmp.Ordering.{Ordering}
use Rattle.hierarchy.specs.declared.member_key.MemberKey.{MemberKey}
use Rattle.hierarchy.specs.declared.member_numbers.MemberLookups.{MemberLookups}
use Rattle.hierarchy.specs.declared.member_numbers.MemberNumbers.{MemberNumbers}
use Rattle.hierarchy.specs.declared.summary.Kind.{Kind}
use Rattle.hierarchy.specs.contracts.member_key.MemberKeyOrd.TheImpl as key_ord
use Rattle.hierarchy.specs.private.Above.{number_of}
use Rattle.hierarchy.specs.private.TextNumbers.{AreFound}
use Rattle.hierarchy.specs.private.Flags.{AreNumbers}
use Rattle.hierarchy.specs.Nearest.{MemberReference}

-- the order in which members are kept
abbrev pub key_cmp : MemberKey → MemberKey → Ordering
key_cmp = (key_ord.ghosts).cmp

-- the number that a map has for a member by the numbers of its texts
abbrev pub number_at : BTreeMap MemberKey ℕ → MemberKey → Option ℕ
number_at members key = get key_cmp members key

-- a member of this kind by the numbers of its texts, where both have one
abbrev pub key_with : Option ℕ → Option ℕ → Kind → Option MemberKey
key_with None descriptor kind = None
key_with (Some name) None kind = None
key_with (Some name) (Some descriptor) kind = Some (record { name = name; descriptor = descriptor; kind = kind })

abbrev pub key_of : BTreeMap (Bor (List ℕ)) ℕ → Kind → List ℕ → List ℕ → Option MemberKey
key_of texts kind name descriptor = key_with (number_of texts name) (number_of texts descriptor) kind

-- the number of the member of this kind, name and descriptor
abbrev pub member_number : MemberNumbers → Kind → List ℕ → List ℕ → Option ℕ
member_number numbers kind name descriptor =
    option_and_then (number_at numbers.members) (key_of numbers.texts kind name descriptor)

-- the number of a member that a reference asks for
abbrev pub asked_number : MemberNumbers → MemberReference → Option ℕ
asked_number numbers r = member_number numbers r.kind r.name r.descriptor

-- different members have different numbers
pub record AreMemberNumbers (numbers : MemberNumbers) : Type 0 where
  pub one : (k l : Kind) (a b d e : List ℕ) (i : ℕ) → member_number numbers k a d ≡ Some i
      → member_number numbers l b e ≡ Some i → (k ≡ l) × (a ≡ b) × (d ≡ e)
  -- different texts have different numbers too, and so have different keys, below how many there are
  pub texts : AreNumbers numbers.texts
  pub below : (key : MemberKey) (i : ℕ) → number_at numbers.members key ≡ Some i → i < btree_map_len numbers.members
  pub keys : (key other : MemberKey) (i : ℕ) → number_at numbers.members key ≡ Some i
      → number_at numbers.members other ≡ Some i → key ≡ other
  -- each key has the numbers of two texts
  pub named : (key : MemberKey) (i : ℕ) → number_at numbers.members key ≡ Some i
      → (name : List ℕ) × (descriptor : List ℕ) × (number_of numbers.texts name ≡ Some key.name)
      × (number_of numbers.texts descriptor ≡ Some key.descriptor)

-- the member has a number, all that had one keep it, and no other gets one
pub record AddsMember (old new : MemberNumbers) (kind : Kind) (name descriptor : List ℕ) : Type 0 where
  pub good : AreMemberNumbers new
  pub kept : (k : Kind) (a d : List ℕ) (i : ℕ) → member_number old k a d ≡ Some i → member_number new k a d ≡ Some i
  pub here : IsSome (member_number new kind name descriptor)
  pub only : (k : Kind) (a d : List ℕ) (i : ℕ) → member_number new k a d ≡ Some i → (member_number old k a d ≡ Some i)
      ⊎ ((k ≡ kind) × (a ≡ name) × (d ≡ descriptor))

-- members of these numbers are asked for by these texts, and what was found of each text is its number
pub record AreLookups (numbers : MemberNumbers) (texts : List (Bor (List ℕ))) (l : MemberLookups) : Type 0 where
  pub among : l.numbers.now ≡ numbers
  pub found : AreFound numbers.texts texts l.texts
