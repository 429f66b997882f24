use Rattle.std.proofs.Common.{map, sym, ℕ, Vec, Global}
use Rattle.std.proofs.lemmas.Result.{err_from_is_err_and}
use Rattle.insn.specs.Views.{view}
use Rattle.insn.proofs.CodeSpellings.{large_is_no_code, written_step, refused, refused_only}
use Rattle.insn.proofs.encoding.encode_code.Goals as goal

pub returns-then-is_too_large-clause-only : goal.returns-then-is_too_large-clause-only
returns-then-is_too_large-clause-only c = λ bytes fit code. absurd (large_is_no_code (map view c.args.list.now) bytes (sym c.if-is_too_large.ensures) fit code)

pub returns-in_err-put_insn-clause-exact : goal.returns-in_err-put_insn-clause-exact
returns-in_err-put_insn-clause-exact c =
    let p = err_from_is_err_and c.from_residual.result c.from_residual.ensures.1 in
    rw (p.1, p.2) (refused (λ (v : Vec ℕ Global). v.items) c.args.list.now c.loop-insn.insn-index _ c.loop-insn.out.items c.put_insn.new.out.items c.in_err-put_insn.field-0.0
    c.loop-insn-test.true (sym c.if-is_too_large.ensures) c.loop-insn.invariant c.in_err-put_insn.ensures)

pub returns-in_err-put_insn-clause-only : goal.returns-in_err-put_insn-clause-only
returns-in_err-put_insn-clause-only c = λ bytes fit code.
    let p = err_from_is_err_and c.from_residual.result c.from_residual.ensures.1 in
    rw (p.1, p.2) (refused_only c.args.list.now c.loop-insn.insn-index _ c.loop-insn.out.items c.put_insn.new.out.items c.in_err-put_insn.field-0.0
    c.loop-insn-test.true c.loop-insn.invariant c.in_err-put_insn.ensures bytes fit code)

pub loop-insn-preserved : goal.loop-insn-preserved
loop-insn-preserved c =
    written_step c.args.list.now c.loop-insn.insn-index _ c.loop-insn.out.items c.put_insn.new.out.items c.loop-insn-test.true c.loop-insn.invariant c.in_ok-put_insn.ensures
