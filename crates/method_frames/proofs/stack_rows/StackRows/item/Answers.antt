use Rattle.std.proofs.Common.{subst}
use Rattle.std.specs.Prelude.{IfSome}
use Rattle.type_numbers.specs.Numbers.{IsGiven}
use Rattle.method_frames.proofs.StackGiven.{item_given}
use Rattle.method_frames.proofs.stack_rows.StackRows.item.Goals as goal

pub returns-clause-given : goal.returns-clause-given
returns-clause-given g c =
    let x = c.self.inside in
    subst (λ y. IfSome c.item.result (IsGiven y.types)) c.self.view_is (item_given x.rows.types x.items c.args.above c.item.result c.self.invariant.given c.item.ensures)
