use Rattle.std.proofs.Common.{subst}
use Rattle.type_numbers.specs.Numbers.{IsGiven}
use Rattle.method_frames.proofs.Knowing.{running_given}
use Rattle.method_frames.proofs.type_rows.TypeRows.get.Goals as goal

pub returns-clause-given : goal.returns-clause-given
returns-clause-given g c =
    let x = c.self.inside in
    subst (λ y. IsGiven y.types c.get.result) c.self.view_is
    (running_given x.types.now x.rows c.args.self.now c.self.view_is c.self.invariant.held.known c.args.place c.get.result c.requires c.get.ensures)
