use Rattle.std.proofs.Common.{◌≡◌, ℕ, Some, false, slice_get, take}
use Rattle.hierarchy.specs.private.NumberedMembers.{is_final}
use Rattle.hierarchy.specs.Class.{MemberFact}
use Rattle.hierarchy.specs.Summary.{fact_of}
use Rattle.hierarchy.proofs.final_methods.has_final.Given as goal

abbrev pub invariant-loop-member : goal.invariant-loop-member
invariant-loop-member l = (i : ℕ) (m : MemberFact) → slice_get (take l.member-index (fact_of l.class).members) i ≡ Some m → is_final m.overriding ≡ false
