use Rattle.std.proofs.Common.{◌∙◌, sym, arith}
use Rattle.numbered_rules.proofs.Setting.{first_free, wide_free, narrow_free}
use Rattle.numbered_rules.proofs.local_writes.free_half.Goals as goal

pub returns-then-place-eq0-clause-ok : goal.returns-then-place-eq0-clause-ok
returns-then-place-eq0-clause-ok g c = first_free c.args.frames.now c.args.place c.if-place-eq0.true

pub returns-in_ok-set_local-clause-ok : goal.returns-in_ok-set_local-clause-ok
returns-in_ok-set_local-clause-ok g c =
    let x = c.args.frames.now in
    wide_free x c.args.place c.local.result (omega arith) c.requires c.local.ensures.number c.set_local.new.self (sym (c.is_wide.ensures x.types) ∙ c.if-is_wide.true) c.in_ok-set_local.ensures.ok

pub returns-else-is_wide-clause-ok : goal.returns-else-is_wide-clause-ok
returns-else-is_wide-clause-ok g c =
    let x = c.args.frames.now in
    narrow_free x c.args.place c.local.result (omega arith) c.requires c.local.ensures.number (sym (c.is_wide.ensures x.types) ∙ c.if-is_wide.false)
