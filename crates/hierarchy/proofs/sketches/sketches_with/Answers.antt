use Rattle.std.proofs.Common.{◌≡◌, ◌∙◌, true, ap, sym, arith, slice_set}
use Rattle.std.proofs.lemmas.Bool.{false≢true}
use Rattle.std.proofs.lemmas.List.{length-set}
use Rattle.hierarchy.specs.private.NumberedMembers.{is_numbered}
use Rattle.hierarchy.specs.private.Sketches.{has_sketch, sketch}
use Rattle.hierarchy.specs.Class.{MemberFact}
use Rattle.hierarchy.specs.Summary.{fact_of, member_of, text_among}
use Rattle.hierarchy.proofs.FinalParts.{member_at, members_long}
use Rattle.hierarchy.proofs.Positions.{at_end, each_next}
use Rattle.hierarchy.proofs.Sketching.{noted_here, noted_still}
use Rattle.hierarchy.proofs.sketches.sketches_with.Goals as goal

pub loop-i-preserved-then-not-has : goal.loop-i-preserved-then-not-has
loop-i-preserved-then-not-has c =
    let s = c.args.class.now in
    let i = c.loop-i.i in
    let at = member_at s i c.index-member.result.now (omega (arith, c.loop-i-test.true, c.len-i-end.ensures)) c.index-member.ensures in
    record {
      long = c.loop-i.invariant.long;
      kept = c.loop-i.invariant.kept;
      noted = each_next (λ (m : MemberFact). is_numbered c.args.which m ≡ true → has_sketch c.loop-i.sketches m.name ≡ true) (fact_of s).members i _ at
          (λ e. absurd (false≢true (sym (sym (c.has.ensures s.texts.items) ∙ c.if-not-has.true) ∙ e))) c.loop-i.invariant.noted;
    }

pub loop-i-preserved : goal.loop-i-preserved
loop-i-preserved c =
    let s = c.args.class.now in
    let i = c.loop-i.i in
    let m = member_of s.texts.items c.index-member.result.now in
    let old = c.loop-i.sketches in
    let long = c.loop-i.invariant.long in
    let new = slice_set old c.sketch.result true in
    let at = member_at s i c.index-member.result.now (omega (arith, c.loop-i-test.true, c.len-i-end.ensures)) c.index-member.ensures in
    let is = c.sketch.ensures.is in
    let is_name : c.text_among-name.result.now ≡ m.name = c.text_among-name.ensures ∙ ap (λ ts. text_among ts c.index-member.result.now.places.name) c.deref.ensures.value in
    record {
      long = length-set old c.sketch.result true ∙ long;
      kept = λ name h. ap (λ k. has_sketch (slice_set old k true) name) is ∙ noted_still old long _ name (c.loop-i.invariant.kept name h);
      noted = each_next (λ (m : MemberFact). is_numbered c.args.which m ≡ true → has_sketch new m.name ≡ true) (fact_of s).members i m at
          (λ e. ap (λ k. has_sketch (slice_set old k true) m.name) (is ∙ ap sketch is_name) ∙ noted_here old long m.name)
          (λ j x at_x e. ap (λ k. has_sketch (slice_set old k true) x.name) is ∙ noted_still old long _ x.name (c.loop-i.invariant.noted j x at_x e));
    }

pub returns-clause-noted : goal.returns-clause-noted
returns-clause-noted c =
    let s = c.args.class.now in
    let long = members_long s in
    at_end (λ (m : MemberFact). is_numbered c.args.which m ≡ true → has_sketch c.loop-i.sketches m.name ≡ true) (fact_of s).members c.loop-i.i (omega (arith, c.loop-i-test.false, c.len-i-end.ensures, long)) c.loop-i.invariant.noted
