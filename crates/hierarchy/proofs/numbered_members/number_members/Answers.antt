use Rattle.std.proofs.Common.{◌∙◌, ◌+◌, ap, get_or, map, subst, sym, take}
use Rattle.std.proofs.lemmas.Bool.{false≢true}
use Rattle.hierarchy.specs.private.NumberedMembers.{HaveNumbers}
use Rattle.hierarchy.specs.private.MemberNumbers.{AddsMember, AreMemberNumbers, member_number}
use Rattle.hierarchy.specs.private.TextNumbers.{AreGiven}
use Rattle.hierarchy.specs.Summary.{member_of, text_among}
use Rattle.hierarchy.proofs.Names.{none_some}
use Rattle.hierarchy.proofs.Numbered.{members_next}
use Rattle.hierarchy.proofs.numbered_members.number_members.Goals.{then-has+in_ok-add, else-has}
use Rattle.hierarchy.proofs.numbered_members.number_members.Goals as goal

pub loop-member-init : goal.loop-member-init
loop-member-init c = record {
  good = c.requires;
  given = c.in_ok-numbering.ensures.1 c.args.numbers.now.texts;
  same = c.in_ok-numbering.ensures.0 ∙ c.deref.ensures.value;
  numbered = λ i m e. absurd (none_some e);
  kept = λ k a d i e. e;
}

pub loop-member-preserved : goal.loop-member-preserved
loop-member-preserved c =
    let xs = c.deref-member-items.result.now in
    let same = c.deref-member-items.ensures.value in
    let texts = c.args.class.now.texts.items in
    let i = c.loop-member.member-index in
    let old = c.loop-member.numbers in
    let had = subst (λ ms. HaveNumbers c.args.which old (map (member_of texts) (take i ms))) (sym same) c.loop-member.invariant.numbered in
    elim c.if-has.branch [
      | then-has+in_ok-add w ↦
          let m = (get_or xs i _).places in
          let adds = subst (λ ts. AddsMember old w.add.new.self m.kind (text_among ts m.name) (text_among ts m.descriptor)) c.loop-member.invariant.same w.in_ok-add.ensures.added in
          record {
            good = subst AreMemberNumbers (sym w.numbers-is) adds.good;
            given = subst (λ n. AreGiven n.texts c.if-has.numbering) (sym w.numbers-is) (subst (AreGiven w.add.new.self.texts) (sym w.numbering-is) w.in_ok-add.ensures.given);
            same = (λ j. (w.numbering-is j).texts.now) ∙ w.in_ok-add.ensures.same ∙ c.loop-member.invariant.same;
            numbered = subst (λ ms. HaveNumbers c.args.which c.if-has.numbers (map (member_of texts) (take (i + 1) ms))) same
                (subst (λ n. HaveNumbers c.args.which n (map (member_of texts) (take (i + 1) xs))) (sym w.numbers-is) (members_next c.args.which old w.add.new.self texts xs i _ c.loop-member-test.true adds.kept had (λ p. adds.here)));
            kept = λ k a d j e. ap (λ n. member_number n k a d) w.numbers-is ∙ adds.kept k a d j (c.loop-member.invariant.kept k a d j e);
          }
      | else-has w ↦ record {
        good = subst AreMemberNumbers (sym w.numbers-is) c.loop-member.invariant.good;
        given = subst (λ n. AreGiven n.texts c.if-has.numbering) (sym w.numbers-is) (subst (AreGiven old.texts) (sym w.numbering-is) c.loop-member.invariant.given);
        same = (λ j. (w.numbering-is j).texts.now) ∙ c.loop-member.invariant.same;
        numbered = subst (λ ms. HaveNumbers c.args.which c.if-has.numbers (map (member_of texts) (take (i + 1) ms))) same
            (subst (λ n. HaveNumbers c.args.which n (map (member_of texts) (take (i + 1) xs))) (sym w.numbers-is) (members_next c.args.which old old texts xs i _ c.loop-member-test.true (λ k a d j e. e) had (λ p. absurd (false≢true (sym w.if-has.false ∙ c.has.ensures texts ∙ p)))));
        kept = λ k a d j e. ap (λ n. member_number n k a d) w.numbers-is ∙ c.loop-member.invariant.kept k a d j e;
      }
    ]
