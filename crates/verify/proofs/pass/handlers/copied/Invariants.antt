use Rattle.std.proofs.Common.{◌≡◌, ◌++◌, drop}
use Rattle.verify.proofs.pass.handlers.copied.Given as goal

abbrev pub invariant-loop-handler : goal.invariant-loop-handler
invariant-loop-handler l = l.copy.items ++ drop l.handler-index l.table ≡ l.table
