use Rattle.std.proofs.Common.{refl}
use Rattle.hierarchy.proofs.class_summary.member_summary.Goals as goal

pub returns : goal.returns
returns c =
    let first = c.in_ok-name.ensures in
    let second = c.in_ok-descriptor.ensures in
    record {
      here = record { name = second.kept _ _ first.here; descriptor = second.here; kind = refl; is_static = c.has.ensures; is_protected = c.has-2.ensures; overriding = c.overriding.ensures };
      kept = λ other t e. second.kept other t (first.kept other t e);
      good = second.good;
    }
