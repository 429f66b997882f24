use Rattle.std.proofs.Common.{ap, arith, length}
use Rattle.hierarchy.specs.private.Ancestry.{facts_at}
use Rattle.hierarchy.proofs.final_methods.finals_of.Goals as goal

pub loop-table-init : goal.loop-table-init
loop-table-init g c =
    let none = ap length c.in_ok-table.ensures.none in
    record {
      begun = c.in_ok-table.ensures.begun (g.C.Classes.content c.args.classes.now) (facts_at c.args.ancestry.now.classes.items) c.args.numbers.now;
      few = omega (arith, none);
    }
