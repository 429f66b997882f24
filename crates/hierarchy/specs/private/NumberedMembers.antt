-- Which members of classes have numbers. Words of the code's own steps.
use Rattle.std.specs.Prelude.{◌≡◌, ℕ, Bool, true, false, List, slice_get, Some, IsSome}
use Rattle.hierarchy.specs.declared.member_numbers.MemberNumbers.{MemberNumbers}
use Rattle.hierarchy.specs.declared.numbered_members.Numbered.{Numbered}
use Rattle.hierarchy.specs.declared.numbered_members.Numbered.TheVariants as numbered
use Rattle.hierarchy.specs.declared.summary.Kind.{Kind}
use Rattle.hierarchy.specs.declared.summary.Overriding.{Overriding}
use Rattle.hierarchy.specs.declared.summary.Overriding.TheVariants.{Apart, Open, FinalInPackage, Final}
use Rattle.hierarchy.specs.private.MemberNumbers.{member_number}
use Rattle.hierarchy.specs.Class.{MemberFact, ClassFact}

-- some classes may not override a method that takes this part
abbrev pub is_final : Overriding → Bool
is_final Apart = false
is_final Open = false
is_final FinalInPackage = true
is_final Final = true

-- a member is one of those that get numbers
abbrev pub is_numbered : Numbered → MemberFact → Bool
is_numbered numbered.Protected m = m.is_protected
is_numbered numbered.Final m = is_final m.overriding

-- each of these members has a number, where it gets one
abbrev pub HaveNumbers : Numbered → MemberNumbers → List MemberFact → Type 0
HaveNumbers which numbers ms = (i : ℕ) (m : MemberFact) → slice_get ms i ≡ Some m → is_numbered which m ≡ true
    → IsSome (member_number numbers m.kind m.name m.descriptor)

-- so has each of these classes
abbrev pub NumberAll : Numbered → MemberNumbers → List ClassFact → Type 0
NumberAll which numbers all = (p : ℕ) (c : ClassFact) → slice_get all p ≡ Some c → HaveNumbers which numbers c.members

-- all members that had a number keep it
abbrev pub KeepMembers : MemberNumbers → MemberNumbers → Type 0
KeepMembers old new = (k : Kind) (a d : List ℕ) (i : ℕ) → member_number old k a d ≡ Some i
    → member_number new k a d ≡ Some i
