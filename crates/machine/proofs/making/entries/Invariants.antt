use Rattle.std.proofs.Common.{◌≡◌, drop, map}
use Rattle.classfile.specs.Methods.{exception_entries}
use Rattle.classfile.specs.Views.{handler_view}
use Rattle.machine.specs.Bodies.{entry_view}
use Rattle.machine.proofs.Entries.{onto}
use Rattle.machine.proofs.making.entries.Given as goal

abbrev pub invariant-loop-handler : goal.invariant-loop-handler
invariant-loop-handler l = exception_entries l.pool (map handler_view l.table) ≡ onto (map entry_view l.entries.items) (exception_entries l.pool (map handler_view (drop l.handler-index l.table)))
