use Rattle.std.proofs.Common.{◌++◌, get_or, map, take, subst}
use Rattle.classfile.specs.Views.{member_view}
use Rattle.hierarchy.specs.ClassSummary.{member_summary}
use Rattle.hierarchy.specs.private.Summarising.{AreSummarised, Summarises}
use Rattle.hierarchy.specs.Texts.{kept_texts}
use Rattle.hierarchy.proofs.Summarising.{next_facts, one_more}
use Rattle.hierarchy.proofs.class_summary.summarise.Goals as goal

pub loop-member-preserved : goal.loop-member-preserved
loop-member-preserved c =
    let is = c.in_ok-member_summary.ensures in
    let i = c.loop-member.member-index in
    record {
      good = is.good;
      summaries = λ facts all.
          subst (AreSummarised (kept_texts c.member_summary.new.texts) c.push.new.self.items)
          (next_facts member_view c.args.origin.release c.args.pool.now c.args.origin.kind facts c.args.members.now i c.member-item.result c.loop-member-test.true)
          (one_more c.args.pool.now c.loop-member.texts c.member_summary.new.texts (member_summary c.args.origin.release c.args.pool.now c.args.origin.kind (member_view (get_or c.args.members.now i c.member-item.result))) c.in_ok-member_summary.field-0 c.loop-member.out.items c.push.new.self.items (facts ++ map (member_summary c.args.origin.release c.args.pool.now c.args.origin.kind) (map member_view (take i c.args.members.now))) (subst (λ x. Summarises c.args.pool.now c.loop-member.texts c.member_summary.new.texts (member_summary c.args.origin.release c.args.pool.now c.args.origin.kind (member_view x)) c.in_ok-member_summary.field-0) c.member-item.is is) c.in_ok-push.ensures.items
          (c.loop-member.invariant.summaries facts all));
    }
