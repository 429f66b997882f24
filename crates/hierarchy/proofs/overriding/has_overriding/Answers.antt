use Rattle.std.proofs.Common.{◌≡◌, ◌∙◌, false, sym}
use Rattle.hierarchy.specs.Class.{MemberFact}
use Rattle.hierarchy.specs.Overrides.{may_override}
use Rattle.hierarchy.specs.Summary.{fact_of}
use Rattle.hierarchy.proofs.FinalParts.{member_next}
use Rattle.hierarchy.proofs.Positions.{each_next}
use Rattle.hierarchy.proofs.overriding.has_overriding.Goals as goal

pub loop-member-preserved : goal.loop-member-preserved
loop-member-preserved c =
    let s = c.args.class.now in
    let at = member_next s c.deref-member-items.result.now c.deref-member-items.ensures.value c.loop-member.member-index _ c.loop-member-test.true in
    each_next (λ (m : MemberFact). may_override m.overriding ≡ false) (fact_of s).members c.loop-member.member-index _ at (sym c.may_override.ensures ∙ c.if-may_override.false) c.loop-member.invariant
