use Rattle.std.proofs.lemmas.Result.{IfOk-weaker}
use Rattle.std.proofs.Common.{map}
use Rattle.classfile.specs.Views.{member_view}
use Rattle.classfile.proofs.duplicate_finder.DuplicateFinder.meet.Goals as goal

pub returns-in-Many : goal.returns-in-Many
returns-in-Many c =
    let earlier = map member_view c.args.earlier.now in
    IfOk-weaker c.meet_member.result _ _ (λ repeated m. record {
      repeats = m.repeats earlier (rw c.in-Many.is at c.requires);
      met = m.seen earlier (rw c.in-Many.is at c.requires);
    }) c.meet_member.ensures
