use Rattle.std.proofs.Common.{◌≡◌, ◌≤◌, ◌∙◌, ◌+◌, Bool, Some, false, ap, sym, subst, arith, length}
use Rattle.std.specs.List.{list_any}
use Rattle.std.proofs.lemmas.List.{take_all}
use Rattle.hierarchy.specs.declared.summary.Kind.TheVariants.{Method}
use Rattle.hierarchy.specs.Class.{MemberFact}
use Rattle.hierarchy.specs.Nearest.{is_kind, package_of}
use Rattle.hierarchy.specs.Overrides.{overrides_final}
use Rattle.hierarchy.specs.Summary.{fact_of, member_of, text_among}
use Rattle.hierarchy.proofs.FinalParts.{member_at, members_long}
use Rattle.hierarchy.proofs.Overrides.{methods_among, told}
use Rattle.hierarchy.proofs.Positions.{counted, found, left_out, no_position, still_none}
use Rattle.hierarchy.proofs.final_methods.FinalMethods.first.Goals as goal

pub loop-i-preserved-then-not-is_method : goal.loop-i-preserved-then-not-is_method
loop-i-preserved-then-not-is_method c =
    let s = c.args.class.now in
    let i = c.loop-i.i in
    let q : MemberFact → Bool = λ m. is_kind m.kind Method in
    let at = member_at s i c.index-member.result.now (omega (arith, c.loop-i-test.true, c.len-i-end.ensures)) c.index-member.ensures in
    let same = left_out q q (fact_of s).members i _ at (sym c.is_method.ensures ∙ c.if-not-is_method.true) in
    record {
      asks = c.loop-i.invariant.asks;
      counted = c.loop-i.invariant.counted ∙ sym (ap length same);
      few = omega (arith, c.loop-i.invariant.few);
      none = λ classes a h has number super. ap (list_any (overrides_final classes (fact_of s))) same ∙ c.loop-i.invariant.none classes a h has number super;
    }

pub returns-then-overrides : goal.returns-then-overrides
returns-then-overrides c classes a h has number super =
    let s = c.args.class.now in
    let i = c.loop-i.i in
    let fact = fact_of s in
    let m = member_of s.texts.items c.index-member.result.now in
    let q : MemberFact → Bool = λ m. is_kind m.kind Method in
    let at = member_at s i c.index-member.result.now (omega (arith, c.loop-i-test.true, c.len-i-end.ensures)) c.index-member.ensures in
    let answer = c.overrides.ensures.answer classes a (package_of s.name.now) s.texts.items has number c.loop-i.invariant.asks (c.text_among-name.ensures ∙ ap (λ ts. text_among ts c.index-member.result.now.places.name) c.deref-in-loop-i.ensures.value) in
    let is = told classes fact m a.name super h c.overrides.result answer ∙ c.if-overrides.true in
    ap (λ n. Some n) c.loop-i.invariant.counted ∙ sym (found q (overrides_final classes fact) fact.members i m at (sym c.is_method.ensures ∙ c.if-not-is_method.false) is (c.loop-i.invariant.none classes a h has number super))

pub loop-i-preserved : goal.loop-i-preserved
loop-i-preserved c =
    let s = c.args.class.now in
    let i = c.loop-i.i in
    let fact = fact_of s in
    let m = member_of s.texts.items c.index-member.result.now in
    let q : MemberFact → Bool = λ m. is_kind m.kind Method in
    let at = member_at s i c.index-member.result.now (omega (arith, c.loop-i-test.true, c.len-i-end.ensures)) c.index-member.ensures in
    let is_method = sym c.is_method.ensures ∙ c.if-not-is_method.false in
    record {
      asks = c.overrides.ensures.lookups s.texts.items c.loop-i.invariant.asks;
      counted = ap (λ n. n + 1) c.loop-i.invariant.counted ∙ sym (counted q q fact.members i m at is_method);
      few = omega (arith, c.loop-i.invariant.few);
      none = λ classes a h has number super.
          let answer = c.overrides.ensures.answer classes a (package_of s.name.now) s.texts.items has number c.loop-i.invariant.asks (c.text_among-name.ensures ∙ ap (λ ts. text_among ts c.index-member.result.now.places.name) c.deref-in-loop-i.ensures.value) in
          let is = told classes fact m a.name super h c.overrides.result answer ∙ c.if-overrides.false in
          still_none q (overrides_final classes fact) fact.members i m at is_method is (c.loop-i.invariant.none classes a h has number super);
    }

pub returns : goal.returns
returns c classes a h has number super =
    let s = c.args.class.now in
    let i = c.loop-i.i in
    let fact = fact_of s in
    let long = members_long s in
    let end : length fact.members ≤ i = omega (arith, c.loop-i-test.false, c.len-i-end.ensures, long) in
    sym (no_position (overrides_final classes fact) (methods_among fact.members)
    (subst (λ ms. list_any (overrides_final classes fact) (methods_among ms) ≡ false) (take_all i fact.members end) (c.loop-i.invariant.none classes a h has number super)))
