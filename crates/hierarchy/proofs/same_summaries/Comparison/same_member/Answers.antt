use Rattle.std.proofs.Common.{◌∙◌, IfOk, refl, sym, subst}
use Rattle.hierarchy.specs.private.SameSummaries.{Compares}
use Rattle.hierarchy.specs.Summary.{member_of}
use Rattle.hierarchy.proofs.SameSummaries.{other_flags, other_name, told_member}
use Rattle.hierarchy.proofs.same_summaries.Comparison.same_member.Goals as goal

pub returns-then-not-same_flags : goal.returns-then-not-same_flags
returns-then-not-same_flags c ones others is =
    (is, other_flags (member_of ones c.args.one.now) (member_of others c.args.other.now) (sym (c.same_flags.ensures ones others) ∙ c.if-not-same_flags.true))

pub returns-then-not-branch : goal.returns-then-not-branch
returns-then-not-branch c ones others is =
    let told = c.in_ok-same_text.ensures ones others is in (
      told.0,
      other_name (member_of ones c.args.one.now) (member_of others c.args.other.now) (sym (c.same_flags.ensures ones others) ∙ c.if-not-same_flags.false) (sym told.1 ∙ c.if-not-branch.true),
    )

pub same_text-requires-2 : goal.same_text-requires-2
same_text-requires-2 c = (c.requires.0, c.requires.1, (c.in_ok-same_text.ensures c.requires.0 c.requires.1 c.requires.2).0)

pub returns : goal.returns
returns c ones others is =
    let told = c.in_ok-same_text.ensures ones others is in
    let a = member_of ones c.args.one.now in
    let b = member_of others c.args.other.now in
    subst (λ answer. IfOk c.same_text-2.result (Compares ones others c.same_text-2.new.self answer))
    (told_member a b _ (sym (c.same_flags.ensures ones others) ∙ c.if-not-same_flags.false) (sym told.1 ∙ c.if-not-branch.false) refl) (c.same_text-2.ensures ones others told.0)
