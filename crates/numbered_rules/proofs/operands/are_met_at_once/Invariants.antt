use Rattle.std.proofs.Common.{drop, map}
use Rattle.numbered_rules.specs.private.MetAtOnce.{AreMet}
use Rattle.numbered_rules.proofs.operands.are_met_at_once.Given as goal

abbrev pub invariant-loop-above : goal.invariant-loop-above
invariant-loop-above g l =
    let es = map g.A.Asked.asked l.asked in
    let x = l.frames in
    AreMet x.types (drop l.above es) (drop l.above x.running.stack) → AreMet x.types es x.running.stack
