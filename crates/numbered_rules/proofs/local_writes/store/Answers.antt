use Rattle.std.proofs.Common.{◌∙◌, length, sym, ap, arith}
use Rattle.std.proofs.lemmas.List.{length-set}
use Rattle.method_frames.specs.NumberedFrames.{NumberedFrames}
use Rattle.numbered_rules.proofs.Setting.{narrow_stored, last_stored, wide_stored}
use Rattle.numbered_rules.proofs.Taking.{types_stay}
use Rattle.numbered_rules.proofs.local_writes.store.Goals.{else-is_wide-via-then-is_wide+else-place-limit, else-is_wide-via-else-is_wide}
use Rattle.numbered_rules.proofs.local_writes.store.Goals as goal

pub overflow_add-place : goal.overflow_add-place
overflow_add-place g c =
    let size = c.in_ok-free_half.ensures.rest.size in
    let long = ap (λ (x : NumberedFrames). length x.running.locals) c.in_ok-set_local.ensures.ok ∙ length-set c.free_half.new.frames.running.locals c.args.place c.args.number in
    let limit = c.max_locals.ensures in
    omega (arith, c.requires.place, size, long, limit)

pub returns-in_ok-set_local-2-clause-ok : goal.returns-in_ok-set_local-2-clause-ok
returns-in_ok-set_local-2-clause-ok g c =
    let old = c.args.frames.now in
    let size = c.in_ok-free_half.ensures.rest.size in
    let long = ap (λ (x : NumberedFrames). length x.running.locals) c.in_ok-set_local.ensures.ok ∙ length-set c.free_half.new.frames.running.locals c.args.place c.args.number in
    let limit = c.from-limit.ensures ∙ c.max_locals.ensures in
    wide_stored old c.free_half.new.frames c.set_local.new.self c.args.place c.args.number c.in_ok-free_half.ensures.ok (types_stay old c.free_half.new.frames c.in_ok-free_half.ensures.rest) c.requires.place c.in_ok-set_local.ensures.ok
    c.set_local-then-place-limit.new.self (sym (c.is_wide.ensures old.types) ∙ c.if-is_wide.true) (omega (arith, c.if-place-limit.true, size, long, limit)) c.in_ok-set_local-2.ensures.ok

pub returns-else-is_wide-clause-ok : goal.returns-else-is_wide-clause-ok
returns-else-is_wide-clause-ok g c =
    let old = c.args.frames.now in
    let mid = c.free_half.new.frames in
    let new = c.set_local.new.self in
    let same = types_stay old mid c.in_ok-free_half.ensures.rest in
    let size = c.in_ok-free_half.ensures.rest.size in
    let long = ap (λ (x : NumberedFrames). length x.running.locals) c.in_ok-set_local.ensures.ok ∙ length-set mid.running.locals c.args.place c.args.number in
    let limit = c.from-limit.ensures ∙ c.max_locals.ensures in
    elim c.else-is_wide.branch [
      | else-is_wide-via-then-is_wide+else-place-limit w ↦
          last_stored old mid new c.args.place c.args.number c.in_ok-free_half.ensures.ok same c.requires.place c.in_ok-set_local.ensures.ok (sym (c.is_wide.ensures old.types) ∙ w.if-is_wide.true) (omega (arith, w.if-place-limit.false, size, long, limit))
      | else-is_wide-via-else-is_wide w ↦
          narrow_stored old mid new c.args.place c.args.number c.in_ok-free_half.ensures.ok same c.requires.place c.in_ok-set_local.ensures.ok (sym (c.is_wide.ensures old.types) ∙ w.if-is_wide.false)
    ]
