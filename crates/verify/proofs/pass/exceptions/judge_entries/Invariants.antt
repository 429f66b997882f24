use Rattle.std.proofs.Common.{drop}
use Rattle.rules.specs.Bodies.{method_view}
use Rattle.verify.proofs.numbered.TableEntries.{Built}
use Rattle.verify.proofs.pass.exceptions.judge_entries.Given as goal

abbrev pub invariant-loop-entry : goal.invariant-loop-entry
invariant-loop-entry g l =
    let m = method_view l.body.method.now in
    Built l.frames m m.exceptions (drop l.entry-index m.exceptions) l.table.items
