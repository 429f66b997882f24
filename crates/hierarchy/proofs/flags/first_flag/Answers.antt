use Rattle.std.proofs.Common.{◌∙◌, ap, sym}
use Rattle.hierarchy.specs.private.Flags.{first_flag}
use Rattle.hierarchy.proofs.Guards.{none_in_range, first_in_range}
use Rattle.hierarchy.proofs.flags.first_flag.Goals as goal

pub returns-in-None : goal.returns-in-None
returns-in-None c =
    let flags = c.args.flags.now in
    sym (ap (first_flag flags c.args.end) c.in-Some.is ∙ none_in_range flags c.in-Some.from c.args.end c.range.result (c.range.ensures.in_range tt) c.in-None.ensures.steps.0)

pub returns-in-Some-next : goal.returns-in-Some-next
returns-in-Some-next c =
    let flags = c.args.flags.now in
    sym (ap (first_flag flags c.args.end) c.in-Some.is
    ∙ first_in_range flags c.in-Some.from c.args.end c.range.result (c.range.ensures.in_range tt) (c.in-Some-next.field-0-0.now, c.in-Some-next.flag.now) c.next.new.self c.in-Some-next.ensures.steps)
