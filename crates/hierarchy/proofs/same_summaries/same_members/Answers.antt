use Rattle.std.proofs.Common.{◌≡◌, ◌<◌, ◌∙◌, arith, length, sym}
use Rattle.hierarchy.proofs.SameSummaries.{lengths_differ, members_differ, members_next}
use Rattle.hierarchy.proofs.same_summaries.same_members.Goals as goal

pub returns-then-len : goal.returns-then-len
returns-then-len c =
    let one = c.args.one.now in
    let other = c.args.other.now in
    sym (lengths_differ one.texts.items other.texts.items one.members.items other.members.items
    (λ e. c.if-len.true (omega (arith, e, c.len.ensures, c.len-2.ensures, one.members.ok, other.members.ok))))

pub returns-then-not-branch : goal.returns-then-not-branch
returns-then-not-branch c =
    let one = c.args.one.now in
    let other = c.args.other.now in
    let i = c.loop-i.i in
    let within : i < length one.members.items = omega (arith, c.loop-i-test.true, c.len-i-end.ensures, one.members.ok) in
    let as_well : i < length other.members.items = omega (arith, within, c.if-len.false, c.len.ensures, c.len-2.ensures, one.members.ok, other.members.ok) in
    let told = c.in_ok-same_member.ensures one.texts.items other.texts.items c.loop-i.invariant.compared in
    sym (c.loop-i.invariant.rest
    ∙ members_differ one.texts.items other.texts.items one.members.items other.members.items i c.index.result.now c.index-in-loop-i.result.now within as_well c.index.ensures c.index-in-loop-i.ensures
    (sym told.1 ∙ c.if-not-branch.true))

pub loop-i-preserved : goal.loop-i-preserved
loop-i-preserved c =
    let one = c.args.one.now in
    let other = c.args.other.now in
    let i = c.loop-i.i in
    let within : i < length one.members.items = omega (arith, c.loop-i-test.true, c.len-i-end.ensures, one.members.ok) in
    let as_well : i < length other.members.items = omega (arith, within, c.if-len.false, c.len.ensures, c.len-2.ensures, one.members.ok, other.members.ok) in
    let told = c.in_ok-same_member.ensures one.texts.items other.texts.items c.loop-i.invariant.compared in
    record {
      compared = told.0;
      rest = c.loop-i.invariant.rest
          ∙ members_next one.texts.items other.texts.items one.members.items other.members.items i c.index.result.now c.index-in-loop-i.result.now within as_well c.index.ensures c.index-in-loop-i.ensures
          (sym told.1 ∙ c.if-not-branch.false);
    }
