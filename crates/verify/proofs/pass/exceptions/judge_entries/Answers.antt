use Rattle.std.proofs.Common.{◌+◌, drop, sym, subst, arith}
use Rattle.std.proofs.lemmas.List.{drop_all}
use Rattle.std.proofs.lemmas.Result.{err_from_is_err_and}
use Rattle.rules.specs.Bodies.{method_view}
use Rattle.verify.proofs.numbered.TableEntries.{Built, built_none, has_entry_by, built_more, stops, all_handlers, all_judged, as_many_entries}
use Rattle.verify.proofs.pass.exceptions.judge_entries.Goals as goal

pub loop-entry-init : goal.loop-entry-init
loop-entry-init g c =
    let x = c.args.frames.now in
    let m = method_view c.args.body.now.method.now in
    subst (Built x m m.exceptions m.exceptions) (sym c.in_ok-table.ensures.items) (built_none x m m.exceptions)

pub handler_of-requires-clause-entry : goal.handler_of-requires-clause-entry
handler_of-requires-clause-entry g c =
    let m = method_view c.args.body.now.method.now in
    let one = has_entry_by c.args.frames.now.types m.exceptions c.args.entries.now c.loop-entry.entry-index c.requires.entries c.loop-entry-test.true in
    (one.entry, one.is)

pub returns-in_err-handler-clause-judged : goal.returns-in_err-handler-clause-judged
returns-in_err-handler-clause-judged g c =
    let x = c.args.frames.now in
    let m = method_view c.args.body.now.method.now in
    let i = c.loop-entry.entry-index in
    let one = has_entry_by x.types m.exceptions c.args.entries.now i c.requires.entries c.loop-entry-test.true in
    let p = err_from_is_err_and c.from_residual-in_err-handler.result c.from_residual-in_err-handler.ensures.1 in
    rw (p.1, p.2) (stops x m m.exceptions (drop i m.exceptions) c.loop-entry.table.items c.loop-entry.invariant one.entry (drop (i + 1) m.exceptions) one.here _
    (c.in_err-handler.ensures one.entry one.is).outcome)

pub loop-entry-preserved : goal.loop-entry-preserved
loop-entry-preserved g c =
    let x = c.args.frames.now in
    let m = method_view c.args.body.now.method.now in
    let i = c.loop-entry.entry-index in
    let one = has_entry_by x.types m.exceptions c.args.entries.now i c.requires.entries c.loop-entry-test.true in
    built_more x m m.exceptions (drop i m.exceptions) c.loop-entry.table.items c.loop-entry.invariant one.entry (drop (i + 1) m.exceptions) one.here c.in_ok-handler.handler
    (c.in_ok-handler.ensures one.entry one.is).outcome c.push.new.self.items c.in_ok-push.ensures.items

pub returns-clause-handlers : goal.returns-clause-handlers
returns-clause-handlers g c =
    let x = c.args.frames.now in
    let m = method_view c.args.body.now.method.now in
    let i = c.loop-entry.entry-index in
    let all = as_many_entries x.types m.exceptions c.args.entries.now c.requires.entries in
    all_handlers x m m.exceptions (drop i m.exceptions) c.loop-entry.table.items c.loop-entry.invariant (drop_all i m.exceptions (omega (arith, c.loop-entry-test.false, all)))

pub returns-clause-judged : goal.returns-clause-judged
returns-clause-judged g c =
    let x = c.args.frames.now in
    let m = method_view c.args.body.now.method.now in
    let i = c.loop-entry.entry-index in
    let all = as_many_entries x.types m.exceptions c.args.entries.now c.requires.entries in
    all_judged x m m.exceptions (drop i m.exceptions) c.loop-entry.table.items c.loop-entry.invariant (drop_all i m.exceptions (omega (arith, c.loop-entry-test.false, all))) c.loop-entry.table
